use Rattle.std.proofs.Common.{◌≡◌, ◌-◌, ◌≤◌, true, ◌∷◌, map, vec_items}
use Rattle.fold.specs.Fold.{others}
use Rattle.private.specs.SeePage.{see_process, blank}
use Rattle.private.proofs.serve.first_processes.Given as goal

abbrev pub invariant-loop : goal.invariant-loop
invariant-loop l =
    (map see_process (vec_items l.processes) ≡ blank true l.sizes.pages ∷ others l.sizes.pages (l.counter - 1))
    × (l.counter - 1 ≤ l.sizes.processes - 1)
