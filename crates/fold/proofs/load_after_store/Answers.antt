use Rattle.fold.proofs.Theorems.{load_after_store}
use Rattle.fold.proofs.load_after_store.Goals as goal

pub returns : goal.returns
returns c = load_after_store
