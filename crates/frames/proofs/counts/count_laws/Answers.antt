use Rattle.frames.proofs.Lowest.{lowest_is_free}
use Rattle.frames.proofs.counts.count_laws.Goals as goal

pub returns-clause-lowest : goal.returns-clause-lowest
returns-clause-lowest c = lowest_is_free
