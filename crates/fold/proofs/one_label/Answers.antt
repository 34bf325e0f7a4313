use Rattle.fold.proofs.Theorems.{one_label}
use Rattle.fold.proofs.one_label.Goals as goal

pub returns : goal.returns
returns c = one_label
