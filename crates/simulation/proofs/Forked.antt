-- A fork changes entries and counts alone, on any machine: no byte, no used mark, no hand and no count of reads and writes.
use Rattle.std.proofs.Common.{◌≡◌, ℕ, zero, suc, Some, None, Option, refl, ◌∙◌}
use Rattle.std.proofs.lemmas.Bool.{cond_both}
use Rattle.fold.specs.Fold.{Sizes, Answer, fork}
use Rattle.tables.specs.Cells.{Held, nothing, zeros, at, segment}
use Rattle.tables.specs.Rows.{entry_of}
use Rattle.tables.specs.State.{State}
use Rattle.disk.specs.Whole.{Choice}
use Rattle.calls.specs.Machine.{Machine, lowest_absent}
use Rattle.calls.specs.Calls.{calls_by, fork_to}
use Rattle.calls.specs.Pages.{forked, raised, raised_row}
use Rattle.simulation.specs.Shown.{SameMemory}

raised_keeps : (s : State) (h : Held) → ((raised s h).pages ≡ s.pages) × ((raised s h).used ≡ s.used)
raised_keeps s nothing = (refl, refl)
raised_keeps s zeros = (refl, refl)
raised_keeps s (at x) = (refl, refl)
raised_keeps s (segment t) = (refl, refl)

row_keeps : (s : State) (p n : ℕ) → ((raised_row s p n).pages ≡ s.pages) × ((raised_row s p n).used ≡ s.used)
unfolding raised_row
row_keeps s p zero = (refl, refl)
row_keeps s p (suc n) =
    let here = raised_keeps (raised_row s p n) (entry_of s.rows p n).holds in
    let before = row_keeps s p n in (here.0 ∙ before.0, here.1 ∙ before.1)

pub fork_memory : (choose : Choice) (z : Sizes) (m : Machine) (p : ℕ) → SameMemory m (calls_by choose z m (fork p)).0
unfolding calls_by forked
fork_memory choose z m p =
    cond_both _ _ _ (λ (r : Machine × Answer). SameMemory m r.0) (λ _. by_free (lowest_absent 0 m.alive)) (λ _. same)
  where
    same : SameMemory m m
    same = record { pages = refl; used = refl; hand = refl; reads = refl; writes = refl }

    by_free : (r : Option ℕ) → SameMemory m (fork_to z m p r).0
    by_free None = same
    by_free (Some c) = let k = row_keeps m.whole.state p z.pages in record { pages = k.0; used = k.1; hand = refl; reads = refl; writes = refl }
