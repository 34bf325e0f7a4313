use Rattle.private.proofs.Pages.{put_is}
use Rattle.private.proofs.process.Process.put.Goals as goal

pub returns : goal.returns
returns c = put_is c.args.self.now c.put_at.new.items c.args.page c.args.new c.put_at.ensures
