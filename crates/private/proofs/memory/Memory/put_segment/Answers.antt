use Rattle.private.proofs.Worlds.{put_segment_is}
use Rattle.private.proofs.memory.Memory.put_segment.Goals as goal

pub returns : goal.returns
returns c = put_segment_is c.args.self.now c.put_at.new.items c.args.segment c.args.new c.put_at.ensures
