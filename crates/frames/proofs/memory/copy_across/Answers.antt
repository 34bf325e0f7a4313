use Rattle.frames.proofs.Pages.{page_copied}
use Rattle.frames.proofs.memory.copy_across.Goals as goal

pub returns : goal.returns
returns c n m h =
    page_copied c.args.to _ _ c.args.from _ _ c.span.ensures.start c.span.ensures.end c.span-2.ensures.start c.span-2.ensures.end n m c.args.target.now c.args.source.now _ h
    c.requires.from_within c.requires.to_within c.copy_from_slice.ensures.after
