use Rattle.std.proofs.Common.{◌++◌}
use Rattle.tables.specs.Rows.{cells}
use Rattle.tables.specs.State.{view}
use Rattle.disk.proofs.Bytes.{frame_stored}
use Rattle.copies.specs.Stores.{stored_in_place}
use Rattle.copies.proofs.stores.store_in_place.Goals as goal

pub returns-clause-stored : goal.returns-clause-stored
unfolding view stored_in_place
returns-clause-stored c n h =
    let z = c.args.limits in
    let m = c.args.lent.now in
    let s = c.args.store in
    let f = c.args.frame in
    let e = c.requires in
    let rows = c.write.ensures z n e.frame in
    let pages = frame_stored z.frames z.places m.frames.now m.disk.now f s.offset e.frame c.store.new.memory s.byte (c.store.ensures z.frames) in
    λ i. record { rows = rows i; segments = cells z m.segments.now; lookers = m.lookers.now; counts = m.frame_counts.now ++ m.place_counts.now; pages = pages i; used = m.used.now }
