use Rattle.std.proofs.Common.{◌≡◌, false, map, length, vec_items, vec_len, sym, refl, ap, ◌∙◌}
use Rattle.std.proofs.lemmas.List.{length-map}
use Rattle.fold.specs.Fold as fold
use Rattle.private.specs.See.{see, emptied}
use Rattle.private.specs.SeePage.{see_page, blank}
use Rattle.private.proofs.Worlds.{edited, put_process_past, past_end}
use Rattle.private.proofs.memory.Memory.leave.Goals as goal

pub returns-in-Some : goal.returns-in-Some
returns-in-Some c =
    let q = c.in-Some.process.now in
    let as_many : vec_len q.pages ≡ length (map see_page (vec_items q.pages)) = q.pages.ok.0 ∙ sym (length-map (vec_items q.pages) see_page) in
    edited c.args.self.now c.args.process q c.leave.new.self (λ (r : fold.Process). blank false (length r.pages))
    (c.in-Some.ensures.variant.0 refl) c.in-Some.ensures.value (c.leave.ensures ∙ ap (blank false) as_many)

pub returns-in_default : goal.returns-in_default
returns-in_default c =
    put_process_past c.args.self.now c.args.process (emptied (see c.args.self.now) c.args.process) (past_end _ _ c.in_default.ensures.variant.1)
