use Rattle.private.specs.See.{see}
use Rattle.private.proofs.Worlds.{page_gone, page_got}
use Rattle.private.proofs.memory.Memory.page.Goals as goal

pub returns-in_err-living : goal.returns-in_err-living
returns-in_err-living c = rw c.from_residual.ensures (page_gone (see c.args.self.now) c.args.place.process c.args.place.page c.in_err-living.ensures)

pub returns : goal.returns
returns c =
    page_got (see c.args.self.now) c.args.place.process c.args.place.page c.in_ok-living.field-0.now c.in_ok-living.ensures.0 c.in_ok-living.ensures.1
    _ c.deref.ensures.value _ c.get.ensures.lookup
