use Rattle.std.proofs.Common.{◌++◌, ◌∙◌}
use Rattle.tables.specs.Rows.{cells, rows}
use Rattle.tables.specs.State.{view}
use Rattle.lookaside.specs.Purge.{purged}
use Rattle.disk.proofs.memory.Memory.purged.Goals as goal

pub returns : goal.returns
unfolding view
returns c =
    let e = c.tables.ensures in
    c.purge.ensures
    ∙ (λ i. purged (rows (e.limits i) (e.pages i) (e.processes i) (e.table i)) (cells (e.limits i) (e.segments i)) (e.frame_counts i ++ e.place_counts i) (e.limits i).frames c.args.lookaside.slots)
