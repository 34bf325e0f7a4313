use Rattle.std.proofs.Common.{◌≡◌, ◌+◌, ◌-◌, ◌*◌, ◌++◌, take, refl, sym, ap, ◌∙◌, arith}
use borrow.Rule.Slice.PartMut.{put_mid}
use Rattle.std.proofs.lemmas.List.{append_assoc, drop-drop}
use Rattle.frames.specs.Cut.{pages}
use Rattle.frames.proofs.Pages.{part, page_copied}
use Rattle.frames.proofs.memory.copy.Goals as goal

pub returns : goal.returns
returns c n h =
    let at = c.span.result in
    let xs = c.args.memory.now in
    let to = c.args.to * 256 in
    let page = part at.start at.end xs in
    let width : at.end - at.start ≡ to + 256 - to = omega arith in
    let put : c.copy_within.new.self ≡ put_mid to (at.end - at.start) xs page =
    c.copy_within.ensures.after ∙ append_assoc (take to xs) page _ ∙ ap (λ zs. take to xs ++ (page ++ zs)) (sym (drop-drop (at.end - at.start) to xs)) in
    ap (pages n) (put ∙ ap (λ k. put_mid to k xs page) width)
    ∙ page_copied c.args.to to (to + 256) c.args.from _ _ refl refl c.span.ensures.start c.span.ensures.end n n xs xs _ h c.requires.from_within c.requires.to_within refl
