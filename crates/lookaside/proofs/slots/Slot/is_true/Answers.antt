use Rattle.std.proofs.Common.{◌≤◌, ◌⊎◌, sym, ap, inl, inr, arith}
use Rattle.tables.specs.Cells.{Cell}
use Rattle.tables.specs.Lent.{counts_of, segments_of}
use Rattle.tables.specs.State.{walked}
use Rattle.tables.proofs.Rows.{entry_outside}
use Rattle.lookaside.specs.Purge.{answered_so}
use Rattle.lookaside.proofs.slots.Slot.is_true.Goals as goal
use Rattle.lookaside.proofs.slots.Slot.is_true.Goals.{then-self-tables-via-then-self-tables, then-self-tables-via-else-self-tables+then-self-tables-2}

pub returns-then-self-tables : goal.returns-then-self-tables
returns-then-self-tables c =
    let t = c.args.tables.now in
    let s = c.args.self in
    let outside : (t.processes ≤ s.process) ⊎ (t.pages ≤ s.page) =
    elim c.then-self-tables.branch [ then-self-tables-via-then-self-tables w ↦ inl (omega (arith, w.if-self-tables)) | then-self-tables-via-else-self-tables+then-self-tables-2 w ↦ inr (omega (arith, w.if-self-tables-2)) ] in
    sym (ap (λ (e : Cell). answered_so t.limits.frames s (walked (segments_of t) (counts_of t) e.holds)) (entry_outside t.limits t.pages t.processes t.table.now s.process s.page outside))
