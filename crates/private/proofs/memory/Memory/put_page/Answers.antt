use Rattle.std.proofs.Common.{sym, refl, ◌∙◌}
use Rattle.fold.specs.Fold as fold
use Rattle.private.specs.See.{see}
use Rattle.private.specs.SeePage.{see_page, put_in}
use Rattle.private.proofs.Worlds.{edited, put_process_past, page_is_process, past_end}
use Rattle.private.proofs.memory.Memory.put_page.Goals as goal

pub returns-in-Some : goal.returns-in-Some
returns-in-Some c =
    edited c.args.self.now c.args.place.process c.in-Some.process.now c.put.new.self (λ (r : fold.Process). put_in r c.args.place.page (see_page c.args.new))
    (c.in-Some.ensures.variant.0 refl) c.in-Some.ensures.value c.put.ensures
    ∙ sym (page_is_process (see c.args.self.now) c.args.place.process c.args.place.page (see_page c.args.new))

pub returns-in_default : goal.returns-in_default
returns-in_default c =
    put_process_past c.args.self.now c.args.place.process (put_in (fold.process (see c.args.self.now) c.args.place.process) c.args.place.page (see_page c.args.new)) (past_end _ _ c.in_default.ensures.variant.1)
    ∙ sym (page_is_process (see c.args.self.now) c.args.place.process c.args.place.page (see_page c.args.new))
