use Rattle.fold.proofs.Theorems.{nothing_left}
use Rattle.fold.proofs.nothing_left.Goals as goal

pub returns : goal.returns
returns c = nothing_left
