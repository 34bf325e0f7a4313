use Rattle.std.proofs.Common.{ℕ, ◌-◌, true, List, ◌∷◌, map, vec_items, refl, ap, ◌∙◌}
use Rattle.private.specs.SeePage.{blank}
use Rattle.fold.specs.Fold as fold
use Rattle.private.specs.See.{see}
use Rattle.private.specs.declared.memory.Memory.{Memory}
use Rattle.private.proofs.Keeps.{begins_kept}
use Rattle.private.proofs.machine.Machine.open.Goals as goal

pub invariant_of-result : goal.invariant_of-result
invariant_of-result c =
    let m : Memory = record { heap = c.args.heap; processes = c.in_ok-processes.processes; segments = c.in_ok-segments.segments; next = 1 } in
    let k = begins_kept c.args.sizes (see m) c.in_ok-processes.ensures c.in_ok-segments.ensures refl in
    record { rows = k.0; labels = k.1; room = k.2 }

pub returns : goal.returns
unfolding fold.begin
returns c =
    let z = c.args.sizes in
    let segments = map vec_items (vec_items c.in_ok-segments.segments) in (
      refl,
      ap (λ (ps : List fold.Process). record { processes = ps; segments = segments; next = 1 }) c.in_ok-processes.ensures
          ∙ ap (λ (ss : List (List ℕ)). record { processes = blank true z.pages ∷ fold.others z.pages (z.processes - 1); segments = ss; next = 1 }) c.in_ok-segments.ensures,
    )
