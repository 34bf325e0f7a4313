use Rattle.std.proofs.Common.{◌≡◌, ◌++◌, map, drop, vec_items}
use Rattle.private.specs.Labelled.{all_labels}
use Rattle.private.specs.SeePage.{see_process}
use Rattle.private.proofs.memory.Memory.labels.Given as goal

abbrev pub invariant-loop-process : goal.invariant-loop-process
invariant-loop-process l =
    vec_items l.labels ++ all_labels (map see_process (drop l.process-index l.process-items))
    ≡ all_labels (map see_process l.process-items)
