use Rattle.std.proofs.Common.{◌≡◌, ℕ, Vec, refl, ap, ◌∙◌}
use Rattle.std.specs.declared.alloc.Global.{Global}
use Rattle.fold.specs.Fold.{is_own, is_seen}
use Rattle.private.specs.SeePage.{see_page, matching}
use Rattle.private.specs.declared.page.Page.{Page}
use Rattle.private.specs.declared.page.Page.TheVariants.{Absent, Own, Segment}
use Rattle.private.proofs.page.Page.is_sought.Goals as goal

not_own : (w : ℕ) (p : Page) → ((l : ℕ) (b : Vec ℕ Global) → p ≡ Own l b → ⊥) → is_own w (see_page p) ≡ 0
unfolding is_own
not_own w Absent h = refl
not_own w (Own l b) h = absurd (h l b refl)
not_own w (Segment s) h = refl

not_segment : (w : ℕ) (p : Page) → ((s : ℕ) → p ≡ Segment s → ⊥) → is_seen w (see_page p) ≡ 0
unfolding is_seen
not_segment w Absent h = refl
not_segment w (Own l b) h = refl
not_segment w (Segment s) h = absurd (h s refl)

pub returns-in-Labelled-Own : goal.returns-in-Labelled-Own
unfolding is_own
returns-in-Labelled-Own c =
    ap (λ k. matching k (see_page c.args.self.now)) c.in-Labelled-Own.is-0
    ∙ ap (λ p. is_own c.in-Labelled-Own.wanted (see_page p)) c.in-Labelled-Own.is-1

pub returns-in_default : goal.returns-in_default
returns-in_default c =
    ap (λ k. matching k (see_page c.args.self.now)) c.in_default.is-0
    ∙ not_own c.in_default.field-0-0 c.args.self.now c.in_default.not-Own-1

pub returns-in-Looking-Segment : goal.returns-in-Looking-Segment
unfolding is_seen
returns-in-Looking-Segment c =
    ap (λ k. matching k (see_page c.args.self.now)) c.in-Looking-Segment.is-0
    ∙ ap (λ p. is_seen c.in-Looking-Segment.wanted (see_page p)) c.in-Looking-Segment.is-1

pub returns-in_default-2 : goal.returns-in_default-2
returns-in_default-2 c =
    ap (λ k. matching k (see_page c.args.self.now)) c.in_default.is-0
    ∙ not_segment c.in_default.field-0-0 c.args.self.now c.in_default.not-Segment-1
