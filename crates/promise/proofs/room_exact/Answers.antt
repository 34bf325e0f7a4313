use Rattle.promise.proofs.Theorems.{room_exact}
use Rattle.promise.proofs.room_exact.Goals as goal

pub returns : goal.returns
returns c = room_exact
