use Rattle.std.proofs.Common.{◌++◌, sym, ◌∙◌}
use Rattle.tables.specs.Rows.{cells, entry_of, rows}
use Rattle.tables.specs.State.{found, view, walked}
use Rattle.disk.proofs.memory.Memory.walk.Goals as goal

pub returns-clause-value : goal.returns-clause-value
unfolding view
returns-clause-value c =
    let e = c.tables.ensures in
    let n = c.args.self.now.processes in
    (λ i. found (sym e.limits i).frames c.walk.result) ∙ c.walk.ensures.value n c.requires.process_within
    ∙ (λ i. walked (cells (e.limits i) (e.segments i)) (e.frame_counts i ++ e.place_counts i) (entry_of (rows (e.limits i) (e.pages i) n (e.table i)) c.args.process c.args.page).holds)
