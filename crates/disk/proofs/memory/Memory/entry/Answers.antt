use Rattle.std.proofs.Common.{sym, ◌∙◌}
use Rattle.tables.specs.Cells.{cell}
use Rattle.tables.specs.Rows.{entry_of, rows}
use Rattle.tables.specs.State.{view}
use Rattle.disk.proofs.memory.Memory.entry.Goals as goal

pub returns-clause-value : goal.returns-clause-value
unfolding view
returns-clause-value c =
    let e = c.tables.ensures in
    let n = c.args.self.now.processes in
    (λ i. cell (sym e.limits i).frames c.entry.result) ∙ c.entry.ensures.value n c.requires.process_within
    ∙ (λ i. entry_of (rows (e.limits i) (e.pages i) n (e.table i)) c.args.process c.args.page)
