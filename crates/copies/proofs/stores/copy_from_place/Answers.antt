use Rattle.std.proofs.Common.{◌≡◌, [], ◌++◌, length, set, sym, ap, ◌∙◌, arith}
use Rattle.frames.specs.Counts.{counted_down, counted_up}
use Rattle.frames.specs.Cut.{cut, row, stored}
use Rattle.frames.proofs.Cut.{cut_length}
use Rattle.tables.specs.Rows.{cells}
use Rattle.tables.specs.State.{view}
use Rattle.tables.proofs.Locations.{at_place, put_frame}
use Rattle.copies.specs.Stores.{copy_stored}
use Rattle.copies.proofs.Parts.{up_frame, down_place, put_then_store}
use Rattle.copies.proofs.stores.copy_from_place.Goals as goal

pub returns-clause-stored : goal.returns-clause-stored
unfolding view copy_stored
returns-clause-stored c n h =
    let z = c.args.limits in
    let m = c.args.lent.now in
    let s = c.args.store in
    let f = c.args.frame in
    let fs = cut 256 z.frames m.frames.now in
    let ds = cut 256 z.places m.disk.now in
    let e = c.requires.storable in
    let long : length fs ≡ z.frames = cut_length 256 z.frames m.frames.now in
    let rows = c.attach.ensures.rows z n e.frame in
    let x = c.args.source in
    let counts-now = m.frame_counts.now in
    let places = m.place_counts.now in
    let counts =
    (λ i. counted_up counts-now f ++ c.count_down.ensures i) ∙ up_frame counts-now (counted_down places x) z.frames e.located.frame_counts f e.frame
    ∙ ap (λ cs. counted_up cs f) (down_place counts-now places z.frames e.located.frame_counts x) in
    let bytes =
    c.store.ensures z.frames ∙ ap (λ ps. stored ps f s.offset s.byte) (c.copy_across.ensures z.frames z.places c.requires.source_within) ∙ put_then_store fs f s.offset s.byte (row ds x) (omega (arith, e.frame)) in
    let pages =
    ap (λ ps. ps ++ ds) bytes ∙ put_frame fs ds z.frames long f (set (row ds x) s.offset s.byte) e.frame
    ∙ ap (λ ws. set (fs ++ ds) f (set ws s.offset s.byte)) (sym (at_place fs ds z.frames long x [])) in
    ap (view z c.args.pages n) c.attach.ensures.lists
    ∙ (λ i. record { rows = rows i; segments = cells z m.segments.now; lookers = m.lookers.now; counts = counts i; pages = pages i; used = m.used.now })
