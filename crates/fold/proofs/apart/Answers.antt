use Rattle.fold.proofs.Theorems.{apart}
use Rattle.fold.proofs.apart.Goals as goal

pub returns : goal.returns
returns c = apart
