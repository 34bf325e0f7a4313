use Rattle.std.proofs.Common.{◌≡◌, vec_items, ap, ◌∙◌, arith}
use Rattle.std.proofs.lemmas.List.Sorted.{IsNonDecreasingBy-from_sort}
use Rattle.fold.specs.Fold as fold
use Rattle.private.specs.Labelled.{changes}
use Rattle.private.specs.Called.{world}
use Rattle.private.proofs.Counting.{held_labels}
use Rattle.private.proofs.machine.Machine.held.Goals as goal

pub returns : goal.returns
unfolding fold.held
returns c =
    let w = world c.args.self.now in
    let labels = vec_items c.in_ok-labels.labels in
    let sorted = vec_items c.sort_unstable.new.self in
    let rising = IsNonDecreasingBy-from_sort (λ x. x) sorted c.sort_unstable.ensures.sorted in
    let counted : c.distinct.result ≡ fold.labels_from w w.next =
    c.distinct.ensures ∙ ap (changes 0) c.as_slice.ensures.value
    ∙ held_labels w labels sorted c.in_ok-labels.ensures c.sort_unstable.ensures.permutation rising c.args.self.now.labels in
    let looked = c.held_segments.ensures in
    omega arith
