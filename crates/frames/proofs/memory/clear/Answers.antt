use Rattle.std.proofs.Common.{◌≡◌, ℕ, ◌-◌, replicate, ap, ◌∙◌}
use borrow.Rule.Slice.PartMut.{put_mid}
use Rattle.std.proofs.lemmas.List.{length-replicate}
use Rattle.frames.specs.Cut.{pages}
use Rattle.frames.proofs.Pages.{page_put, part_length}
use Rattle.frames.proofs.memory.clear.Goals as goal

pub returns : goal.returns
returns c n =
    let d = c.args.page in
    let at = c.span.result in
    let xs = c.args.memory.now in
    let zeros : c.fill.new.self ≡ replicate 256 0 = c.fill.ensures.after (λ y e. e) ∙ ap (λ k. replicate k 0) (part_length d _ _ c.span.ensures.start c.span.ensures.end xs c.requires) in
    ap (λ ys. pages n (put_mid at.start (at.end - at.start) xs ys)) zeros ∙ page_put d _ _ c.span.ensures.start c.span.ensures.end n xs (replicate 256 0) (length-replicate {A = ℕ} 256 0) c.requires
