use Rattle.std.proofs.Common.{◌∙◌, arith}
use Rattle.frames.proofs.Pages.{page_copied}
use Rattle.frames.proofs.memory.exchange.Goals as goal

pub returns-clause-left : goal.returns-clause-left
returns-clause-left c = c.copy_across.ensures

pub returns-clause-right : goal.returns-clause-right
returns-clause-right c n m h =
    page_copied c.args.at_right c.span-2.result.start c.span-2.result.end c.args.at_left c.span.result.start c.span.result.end c.span-2.ensures.start c.span-2.ensures.end
    (omega (arith, c.span.ensures.start)) (omega (arith, c.span.ensures.end)) n m c.args.right.now c.args.left.now _ h
    c.requires.left_within c.requires.right_within (c.copy_from_slice-2.ensures.after ∙ c.copy_from_slice.ensures.after)
