use Rattle.std.proofs.Common.{◌∙◌}
use Rattle.tables.specs.State.{view}
use Rattle.disk.proofs.Bytes.{frame_byte}
use Rattle.disk.proofs.memory.Memory.load.Goals as goal

pub returns : goal.returns
unfolding view
returns c =
    let m = c.args.self.now in
    c.load.ensures m.limits.frames c.requires.frame_within
    ∙ frame_byte m.limits.frames m.limits.places m.lent.frames.now m.lent.disk.now c.args.frame c.args.offset c.requires.frame_within
