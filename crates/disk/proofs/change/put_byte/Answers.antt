use Rattle.std.proofs.Common.{ap}
use Rattle.tables.specs.Lent.{lists}
use Rattle.tables.specs.State.{view, with_pages}
use Rattle.disk.proofs.Bytes.{frame_stored}
use Rattle.disk.proofs.change.put_byte.Goals as goal

pub returns-clause-stored : goal.returns-clause-stored
unfolding view
returns-clause-stored c pages processes =
    let z = c.args.limits in
    let n = c.args.lent.now in
    ap (with_pages (view z pages processes (lists n)))
    (frame_stored z.frames z.places n.frames.now n.disk.now c.args.frame c.args.offset c.requires.frame_within c.store.new.memory c.args.byte (c.store.ensures z.frames))
