use Rattle.tables.specs.Lent.{lists}
use Rattle.tables.specs.State.{view, with_rows}
use Rattle.disk.proofs.change.put_row.Goals as goal

pub returns-clause-shared : goal.returns-clause-shared
unfolding view
returns-clause-shared c n h = λ i. with_rows (view c.args.limits c.args.pages n (lists c.args.lent.now)) (c.copy_row.ensures n h i)
