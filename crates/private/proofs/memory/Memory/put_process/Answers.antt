use Rattle.private.proofs.Worlds.{put_process_is}
use Rattle.private.proofs.memory.Memory.put_process.Goals as goal

pub returns : goal.returns
returns c = put_process_is c.args.self.now c.put_at.new.items c.args.process c.args.new c.put_at.ensures
