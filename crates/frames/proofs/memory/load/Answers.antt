use Rattle.std.proofs.Common.{ap, sym, get_or}
use Rattle.frames.proofs.Pages.{page_part}
use Rattle.frames.proofs.memory.load.Goals as goal

pub returns : goal.returns
returns c n h = ap (λ ys. get_or ys c.args.offset 0) (sym (page_part c.args.page _ _ c.span.ensures.start c.span.ensures.end n c.args.memory.now h))
