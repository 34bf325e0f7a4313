use Rattle.std.proofs.Common.{ap, ◌∙◌}
use Rattle.tables.specs.Cells.{decoded, encoded}
use Rattle.tables.proofs.Rows.{rows_fill}
use Rattle.tables.proofs.table.clear_row.Goals as goal

pub returns : goal.returns
returns c z n =
    rows_fill z c.args.pages n c.args.table.now c.fill.new.self c.args.process c.encode.result c.requires
    (ap (decoded z) (c.encode.ensures ∙ ap encoded c.absent.ensures)) (c.fill.ensures.after (λ y e. e))
