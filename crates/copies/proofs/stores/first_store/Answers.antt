use Rattle.std.proofs.Common.{◌≡◌, ◌++◌, length, set, replicate, ap, ◌∙◌, arith}
use Rattle.frames.specs.Cut.{cut, stored}
use Rattle.frames.proofs.Cut.{cut_length}
use Rattle.tables.specs.Rows.{cells}
use Rattle.tables.specs.State.{view}
use Rattle.tables.proofs.Locations.{put_frame}
use Rattle.copies.specs.Stores.{first_stored}
use Rattle.copies.proofs.Parts.{up_frame, put_then_store}
use Rattle.copies.proofs.stores.first_store.Goals as goal

pub returns-clause-stored : goal.returns-clause-stored
unfolding view first_stored
returns-clause-stored c n h =
    let z = c.args.limits in
    let m = c.args.lent.now in
    let s = c.args.store in
    let f = c.args.frame in
    let fs = cut 256 z.frames m.frames.now in
    let ds = cut 256 z.places m.disk.now in
    let e = c.requires in
    let long : length fs ≡ z.frames = cut_length 256 z.frames m.frames.now in
    let rows = c.attach.ensures.rows z n e.frame in
    let counts = up_frame m.frame_counts.now m.place_counts.now z.frames e.located.frame_counts f e.frame in
    let bytes =
    c.store.ensures z.frames ∙ ap (λ ps. stored ps f s.offset s.byte) (c.clear.ensures z.frames) ∙ put_then_store fs f s.offset s.byte (replicate 256 0) (omega (arith, e.frame)) in
    let pages = ap (λ ps. ps ++ ds) bytes ∙ put_frame fs ds z.frames long f (set (replicate 256 0) s.offset s.byte) e.frame in
    ap (view z c.args.pages n) c.attach.ensures.lists
    ∙ (λ i. record { rows = rows i; segments = cells z m.segments.now; lookers = m.lookers.now; counts = counts i; pages = pages i; used = m.used.now })
