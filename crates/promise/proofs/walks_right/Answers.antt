use Rattle.promise.proofs.Theorems.{walks_right}
use Rattle.promise.proofs.walks_right.Goals as goal

pub returns : goal.returns
returns c = walks_right
