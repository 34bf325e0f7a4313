use Rattle.frames.proofs.Pages.{page_stored}
use Rattle.frames.proofs.memory.store.Goals as goal

pub returns : goal.returns
returns c n = page_stored c.args.page _ _ c.span.ensures.start c.span.ensures.end n c.args.offset c.args.byte c.args.memory.now c.requires.within
