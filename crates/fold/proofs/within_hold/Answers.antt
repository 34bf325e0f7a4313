use Rattle.fold.proofs.Theorems.{within_hold}
use Rattle.fold.proofs.within_hold.Goals as goal

pub returns : goal.returns
returns c = within_hold
