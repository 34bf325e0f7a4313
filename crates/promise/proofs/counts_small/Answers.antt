use Rattle.promise.proofs.Theorems.{counts_small}
use Rattle.promise.proofs.counts_small.Goals as goal

pub returns : goal.returns
returns c = counts_small
