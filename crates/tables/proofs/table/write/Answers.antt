use Rattle.std.proofs.Common.{ap, ◌∙◌}
use Rattle.tables.specs.Cells.{decoded}
use Rattle.tables.proofs.Codes.{decode_encode}
use Rattle.tables.proofs.Rows.{rows_write}
use Rattle.tables.proofs.table.write.Goals as goal

pub returns : goal.returns
returns c z n h =
    rows_write z c.args.pages n c.args.table.now c.args.process c.args.page c.encode.result _ c.requires.inside
    (ap (decoded z) c.encode.ensures ∙ decode_encode z c.args.entry h)
