use Rattle.tables.specs.Lent.{lists}
use Rattle.tables.specs.State.{view, with_rows}
use Rattle.disk.proofs.change.put_entry.Goals as goal

pub returns-clause-written : goal.returns-clause-written
unfolding view
returns-clause-written c z n h = λ i. with_rows (view z c.args.pages n (lists c.args.lent.now)) (c.write.ensures z n h i)
