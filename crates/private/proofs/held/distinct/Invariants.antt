use Rattle.std.proofs.Common.{◌≡◌, ◌+◌, ◌≤◌, drop}
use Rattle.private.specs.Labelled.{changes}
use Rattle.private.proofs.held.distinct.Given as goal

abbrev pub invariant-loop-label : goal.invariant-loop-label
invariant-loop-label l =
    (l.count + changes l.last (drop l.label-index l.sorted) ≡ changes 0 l.sorted) × (l.count ≤ l.label-index)
