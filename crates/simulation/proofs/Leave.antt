-- A process leaves: its pages are dropped one by one, and then it goes without pages.
use Rattle.std.proofs.Common.{◌≡◌, ℕ, zero, suc, ◌<◌, ◌≤◌, true, false, refl, ap, ◌∙◌, subst, inl, inr, arith}
use Rattle.std.proofs.lemmas.Bool.{cases_eq}
use Rattle.fold.specs.Fold.{Process, Sizes, World, absent, page, with_page, with_process, call, leave}
use Rattle.fold.proofs.Pages.{page_put, page_with_page, with_page_is}
use Rattle.fold.proofs.Sums.{stands}
use Rattle.disk.specs.Whole.{Choice}
use Rattle.calls.specs.Machine.{Machine, living}
use Rattle.calls.specs.Calls.{calls_by, gone, with_alive}
use Rattle.calls.specs.Pages.{dropped_row}
use Rattle.simulation.proofs.Sim.{Sim, SlotsTrue, state}
use Rattle.simulation.proofs.Step.{Step, step_by, by_test, changed_true}
use Rattle.simulation.proofs.Entries.{there_below}
use Rattle.simulation.proofs.Naming.{at_state, changed_sim, released}
use Rattle.simulation.proofs.Fork.{bare, flipped, put_twice}

module _ {z : Sizes} {lab : ℕ → ℕ} {m : Machine} {w : World} (sim : Sim z lab m w) (p : ℕ) (there : living m p ≡ true) where
  below : p < z.processes
  below = there_below sim p there

  -- the first n pages are gone, and nothing but process p has changed
  record Leaving (n : ℕ) : Type 0 where
    world : World
    now : Sim z lab (at_state m (dropped_row (state m) p n)) world
    same : (q : Process) → with_process world p q ≡ with_process w p q
    none : (u : ℕ) → u < n → page world p u ≡ absent

  leaving : (n : ℕ) → n ≤ z.pages → Leaving n
  unfolding dropped_row
  leaving zero h = record { world = w; now = sim; same = λ q. refl; none = λ u k. absurd (omega arith) }
  leaving (suc n) h =
      let r = leaving n (omega arith) in
      record {
        world = with_page r.world p n absent;
        now = released r.now p n there (omega arith);
        same = λ q. ap (λ x. with_process x p q) (with_page_is r.world p n absent) ∙ put_twice r.world p _ q ∙ r.same q;
        none = λ u k.
            elim (cases_eq u n) [
              | inl e ↦ ap (page (with_page r.world p n absent) p) e ∙ page_put r.world p n absent (r.now.alive p ∙ there) (omega (arith, r.now.shape.wide p below))
              | inr d ↦ elim (page_with_page r.world p n p u absent) [ inl e ↦ e.2 | inr e ↦ e ∙ r.none u (omega arith) ]
            ];
      }

  left_sim : Sim z lab (gone z m p) (with_process w p (bare z false))
  left_sim =
      let r = leaving z.pages (omega arith) in
      let row = dropped_row (state m) p z.pages in
      changed_sim (with_alive m p false) row
      (subst (Sim z lab (at_state (with_alive m p false) row)) (r.same (bare z false)) (flipped r.now p false below (empty r)))
    where
      empty : (r : Leaving z.pages) (u : ℕ) → page r.world p u ≡ absent
      empty r u = elim (stands r.world p u) [ inl e ↦ e | inr s ↦ r.none u (omega (arith, s.1, r.now.shape.wide p below)) ]

pub leave_step : {z : Sizes} {lab : ℕ → ℕ} {m : Machine} {w : World} → Sim z lab m w → (choose : Choice) → SlotsTrue m → (p : ℕ) → Step choose z m w (leave p)
unfolding calls_by call
leave_step {z} {lab} {m} {w} sim choose slots p =
    by_test choose z m w (leave p) lab sim slots _ _ _ _ refl refl (sim.alive p)
    (λ there e f. step_by choose z m w (leave p) _ _ _ lab e f (left_sim sim p there) (changed_true m (dropped_row (state m) p z.pages)))
