use Rattle.promise.proofs.Theorems.{nothing_lost}
use Rattle.promise.proofs.nothing_lost.Goals as goal

pub returns : goal.returns
returns c = nothing_lost
