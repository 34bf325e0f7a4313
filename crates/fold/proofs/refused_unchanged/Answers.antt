use Rattle.fold.proofs.Theorems.{refused_unchanged}
use Rattle.fold.proofs.refused_unchanged.Goals as goal

pub returns : goal.returns
returns c = refused_unchanged
