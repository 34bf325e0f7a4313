use Rattle.promise.proofs.Theorems.{same_answers}
use Rattle.promise.proofs.same_answers.Goals as goal

pub returns : goal.returns
returns c = same_answers
