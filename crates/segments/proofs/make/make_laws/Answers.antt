use Rattle.segments.proofs.Full.{make_full_exactly}
use Rattle.segments.proofs.make.make_laws.Goals as goal

pub returns : goal.returns
returns c = make_full_exactly
