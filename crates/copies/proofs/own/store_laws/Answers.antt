use Rattle.copies.proofs.Laws.{full_when_used_up, says_copied}
use Rattle.copies.proofs.own.store_laws.Goals as goal

pub returns : goal.returns
returns c = record { full = full_when_used_up; says = says_copied }
