-- What lent memory holds, list by list, and what of it no function changes. Assumes nothing.
use Rattle.std.specs.Prelude.{ℕ, ◌++◌, List, length}
use Rattle.tables.specs.declared.lent.Lent.{Lent as Slices}
use Rattle.tables.specs.declared.lent.Tables.{Tables}
use Rattle.tables.specs.Cells.{Cell}
use Rattle.tables.specs.Rows.{cells, rows}
use Rattle.tables.specs.State.{Lent}

abbrev pub lists : Slices → Lent
lists m =
    record {
      table = m.table.now;
      segments = m.segments.now;
      lookers = m.lookers.now;
      frame_counts = m.frame_counts.now;
      used = m.used.now;
      place_counts = m.place_counts.now;
      frames = m.frames.now;
      disk = m.disk.now;
    }

-- which slice a field is lent, and how long it is
abbrev pub Slice : Type 0
Slice = ℕ × ℕ

pub record Shape : Type 0 where
  pub table : Slice
  pub segments : Slice
  pub lookers : Slice
  pub frame_counts : Slice
  pub used : Slice
  pub place_counts : Slice
  pub frames : Slice
  pub disk : Slice

-- each field is the same slice throughout, and no slice gets longer or shorter
abbrev pub shape : Slices → Shape
shape m =
    record {
      table = (m.table.ghost_name, length m.table.now);
      segments = (m.segments.ghost_name, length m.segments.now);
      lookers = (m.lookers.ghost_name, length m.lookers.now);
      frame_counts = (m.frame_counts.ghost_name, length m.frame_counts.now);
      used = (m.used.ghost_name, length m.used.now);
      place_counts = (m.place_counts.ghost_name, length m.place_counts.now);
      frames = (m.frames.ghost_name, length m.frames.now);
      disk = (m.disk.ghost_name, length m.disk.now);
    }

-- what a walk reads, as rows, segments and counts of locations
abbrev pub rows_of : Tables → List (List Cell)
rows_of t = rows t.limits t.pages t.processes t.table.now

abbrev pub segments_of : Tables → List Cell
segments_of t = cells t.limits t.segments.now

abbrev pub counts_of : Tables → List ℕ
counts_of t = t.frame_counts.now ++ t.place_counts.now
