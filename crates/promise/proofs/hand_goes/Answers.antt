use Rattle.promise.proofs.Theorems.{hand_goes}
use Rattle.promise.proofs.hand_goes.Goals as goal

pub returns : goal.returns
returns c = hand_goes
