use Rattle.std.proofs.Common.{sym, ◌∙◌}
use Rattle.tables.proofs.Rows.{rows_read}
use Rattle.tables.proofs.table.read.Goals as goal

pub returns-clause-value : goal.returns-clause-value
returns-clause-value c n h =
    c.decode.ensures.value ∙ sym (rows_read c.args.limits c.args.pages n c.args.table.now c.args.process c.args.page h c.requires.inside c.requires.long)
