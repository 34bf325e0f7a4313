use Rattle.std.proofs.Common.{◌≡◌, true, not, sym, refl, ap, ◌∙◌}
use Rattle.fold.specs.Fold.{there}
use Rattle.private.specs.SeePage.{see_page}
use Rattle.private.specs.declared.page.Page.{Page}
use Rattle.private.specs.declared.page.Page.TheVariants.{Absent, Own, Segment}
use Rattle.private.proofs.page.Page.is_there.Goals as goal
use Rattle.private.proofs.page.Page.is_there.Goals.{in-Absent, in_default}

other : (p : Page) → (p ≡ Absent → ⊥) → true ≡ there (see_page p)
unfolding there
other Absent h = absurd (h refl)
other (Own l b) h = refl
other (Segment x) h = refl

pub returns : goal.returns
unfolding there
returns c =
    elim c.match-matches.branch [
      | in-Absent w ↦ ap not w.matches-is ∙ sym (ap (λ p. there (see_page p)) w.in-Absent.is)
      | in_default w ↦ ap not w.matches-is ∙ other c.args.self.now w.in_default.not-Absent
    ]
