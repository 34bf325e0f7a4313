use Rattle.std.proofs.Common.{◌≡◌, ◌+◌, ◌++◌, map, take, drop}
use Rattle.tables.specs.Cells.{renamed}
use Rattle.tables.specs.Rows.{cells}
use Rattle.tables.proofs.table.rename.Given as goal

-- the entries so far are renamed, and the others are as they were
abbrev pub invariant-loop-code : goal.invariant-loop-code
invariant-loop-code l =
    cells l.limits l.table
    ≡ map (renamed l.frame (l.limits.frames + l.place)) (take l.code-index (cells l.limits l.initial.table)) ++ drop l.code-index (cells l.limits l.initial.table)
