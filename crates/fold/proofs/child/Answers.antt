use Rattle.fold.proofs.Theorems.{child}
use Rattle.fold.proofs.child.Goals as goal

pub returns : goal.returns
returns c = child
