use Rattle.promise.proofs.Theorems.{fork_copies_nothing, fork_child}
use Rattle.promise.proofs.fork_copies_nothing.Goals as goal

pub returns-clause-memory : goal.returns-clause-memory
returns-clause-memory c = fork_copies_nothing

pub returns-clause-child : goal.returns-clause-child
returns-clause-child c = fork_child
