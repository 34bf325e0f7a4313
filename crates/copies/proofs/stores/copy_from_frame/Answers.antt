use Rattle.std.proofs.Common.{◌≡◌, [], ◌++◌, length, set, sym, ap, ◌∙◌, arith}
use Rattle.std.proofs.lemmas.List.{length-set}
use Rattle.frames.specs.Counts.{counted_down, counted_up}
use Rattle.frames.specs.Cut.{cut, row, stored}
use Rattle.frames.proofs.Cut.{cut_length}
use Rattle.tables.specs.Rows.{cells}
use Rattle.tables.specs.State.{view}
use Rattle.tables.proofs.Locations.{at_frame, put_frame}
use Rattle.copies.specs.Stores.{copy_stored}
use Rattle.copies.proofs.Parts.{up_frame, down_frame, put_then_store}
use Rattle.copies.proofs.stores.copy_from_frame.Goals as goal

pub returns-clause-stored : goal.returns-clause-stored
unfolding view copy_stored
returns-clause-stored c n h =
    let z = c.args.limits in
    let m = c.args.lent.now in
    let s = c.args.store in
    let f = c.args.frame in
    let fs = cut 256 z.frames m.frames.now in
    let ds = cut 256 z.places m.disk.now in
    let e = c.requires.storable in
    let long : length fs ≡ z.frames = cut_length 256 z.frames m.frames.now in
    let rows = c.attach.ensures.rows z n e.frame in
    let x = c.args.source in
    let counts-now = m.frame_counts.now in
    let places = m.place_counts.now in
    let lowered : length (counted_down counts-now x) ≡ z.frames = length-set counts-now x _ ∙ e.located.frame_counts in
    let counts =
    ap (λ xs. xs ++ places) (ap (λ cs. counted_up cs f) c.count_down.ensures) ∙ up_frame (counted_down counts-now x) places z.frames lowered f e.frame
    ∙ ap (λ cs. counted_up cs f) (down_frame counts-now places z.frames e.located.frame_counts x c.requires.source_within) in
    let bytes =
    c.store.ensures z.frames ∙ ap (λ ps. stored ps f s.offset s.byte) (c.copy.ensures z.frames c.requires.source_within) ∙ put_then_store fs f s.offset s.byte (row fs x) (omega (arith, e.frame)) in
    let pages =
    ap (λ ps. ps ++ ds) bytes ∙ put_frame fs ds z.frames long f (set (row fs x) s.offset s.byte) e.frame
    ∙ ap (λ ws. set (fs ++ ds) f (set ws s.offset s.byte)) (sym (at_frame fs ds z.frames long x [] c.requires.source_within)) in
    ap (view z c.args.pages n) c.attach.ensures.lists
    ∙ (λ i. record { rows = rows i; segments = cells z m.segments.now; lookers = m.lookers.now; counts = counts i; pages = pages i; used = m.used.now })
