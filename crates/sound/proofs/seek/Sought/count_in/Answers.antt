use Rattle.std.proofs.Common.{◌≡◌, ◌==◌, count_by, ◌∙◌, rules}
use Rattle.tables.specs.Cells.{decoded}
use Rattle.sound.specs.Seek.{is_sought}
use Rattle.sound.proofs.Counting.{counted}
use Rattle.sound.proofs.seek.Sought.count_in.Goals as goal

pub returns-clause-value : goal.returns-clause-value
returns-clause-value c =
    let e : c.count.result ≡ count_by (λ n. is_sought c.args.self (decoded c.args.limits n).holds == 1) c.args.table.now = search rules in
    e ∙ counted c.args.self c.args.limits c.args.table.now
