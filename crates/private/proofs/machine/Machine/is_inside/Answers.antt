use Rattle.std.proofs.Common.{arith}
use Rattle.fold.specs.Fold.{inside}
use Rattle.private.proofs.machine.Machine.is_inside.Goals as goal

pub returns-then-is_alive : goal.returns-then-is_alive
unfolding inside
returns-then-is_alive c = grind arith

pub returns-else-is_alive : goal.returns-else-is_alive
unfolding inside
returns-else-is_alive c = grind arith
