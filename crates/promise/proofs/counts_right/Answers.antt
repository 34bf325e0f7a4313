use Rattle.promise.proofs.Theorems.{counts_right}
use Rattle.promise.proofs.counts_right.Goals as goal

pub returns : goal.returns
returns c = counts_right
