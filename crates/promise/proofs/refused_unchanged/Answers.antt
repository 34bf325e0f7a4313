use Rattle.promise.proofs.Theorems.{refused_unchanged}
use Rattle.promise.proofs.refused_unchanged.Goals as goal

pub returns : goal.returns
returns c = refused_unchanged
