use Rattle.std.proofs.Common.{◌≡◌, ℕ, ◌<◌}
use Rattle.tables.specs.Rows.{rows, shared_row}
use Rattle.tables.proofs.table.copy_row.Given as goal

abbrev pub invariant-loop-page : goal.invariant-loop-page
invariant-loop-page l =
    (n : ℕ) → l.parent < n → rows l.limits l.pages n l.table ≡ shared_row (rows l.limits l.pages n l.initial.table) l.parent l.child l.page
