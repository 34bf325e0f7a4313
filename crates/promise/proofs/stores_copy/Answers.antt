use Rattle.promise.proofs.Theorems.{stores_copy}
use Rattle.promise.proofs.stores_copy.Goals as goal

pub returns : goal.returns
returns c = stores_copy
