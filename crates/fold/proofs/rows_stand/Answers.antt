use Rattle.fold.proofs.Rows.{rows_stand}
use Rattle.fold.proofs.rows_stand.Goals as goal

pub returns-clause-stand : goal.returns-clause-stand
returns-clause-stand c = rows_stand
