-- What a snapshot shows. Assumes nothing.
use Rattle.std.specs.Prelude.{ℕ, List, ◌++◌}
use Rattle.tables.specs.Cells.{Cell}
use Rattle.tables.specs.Rows.{cells, rows}
use Rattle.tables.specs.State.{Lent}
use Rattle.disk.specs.Moves.{lent}
use Rattle.calls.specs.Machine.{Machine}
use Rattle.calls.specs.Memory.{limits_of, machine}
use Rattle.sound.specs.declared.snapshot.Snapshot.{Snapshot}

-- the memory that it looks at
abbrev pub memory_of : Snapshot → Lent
memory_of s =
    lent s.table.now s.segments.now s.lookers.now s.frame_counts.now s.used.now s.place_counts.now s.frames.now s.disk.now

-- the machine of the written definition
abbrev pub pictured : Snapshot → Machine
pictured s = machine s.manager (memory_of s)

-- the entries of all processes, and those of the segment table
abbrev pub rows_of : Snapshot → List (List Cell)
rows_of s = rows (limits_of s.manager.sizes) s.manager.sizes.pages s.manager.sizes.processes s.table.now

abbrev pub segments_of : Snapshot → List Cell
segments_of s = cells (limits_of s.manager.sizes) s.segments.now

-- the counts of all frames and then of all places
abbrev pub counts_of : Snapshot → List ℕ
counts_of s = s.frame_counts.now ++ s.place_counts.now
