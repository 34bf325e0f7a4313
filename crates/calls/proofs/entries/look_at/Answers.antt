use Rattle.std.proofs.Common.{arith}
use Rattle.tables.proofs.Rows.{row_within}
use Rattle.calls.proofs.entries.look_at.Goals as goal

pub look_lent-requires-clause-long : goal.look_lent-requires-clause-long
look_lent-requires-clause-long c =
    let m = c.args.memory.now in
    omega (arith, row_within c.args.process m.processes m.pages c.requires.process_within, m.table_length)
