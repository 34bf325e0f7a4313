-- What is asked of lent memory before a page looks at a segment or is dropped, and what of it stays. Assumes nothing.
use Rattle.std.specs.Prelude.{◌≡◌, ℕ, List, length}
use Rattle.tables.specs.declared.entry.Limits.{Limits}
use Rattle.tables.specs.declared.lent.Lent.{Lent as Slices}
use Rattle.tables.specs.State.{Lent}

-- what entries can name: segments with their counts, and the counts of frames and places
pub record Named (z : Limits) (m : Slices) : Type 0 where
  pub segments : length m.segments.now ≡ z.segments
  pub lookers : length m.lookers.now ≡ z.segments
  pub frame_counts : length m.frame_counts.now ≡ z.frames
  pub place_counts : length m.place_counts.now ≡ z.places

-- the used marks, and the bytes of all frames and places
pub record Bytes : Type 0 where
  pub used : List ℕ
  pub frames : List ℕ
  pub disk : List ℕ

abbrev pub bytes_of : Slices → Bytes
bytes_of m = record { used = m.used.now; frames = m.frames.now; disk = m.disk.now }

-- other counts of segments
abbrev pub lent_with_lookers : Lent → List ℕ → Lent
lent_with_lookers m ls =
    record { table = m.table; segments = m.segments; lookers = ls; frame_counts = m.frame_counts; used = m.used; place_counts = m.place_counts; frames = m.frames; disk = m.disk }
