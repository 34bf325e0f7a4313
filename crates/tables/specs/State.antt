-- What all lent memory means: one space of locations, frames first and then places. Assumes nothing.
use Rattle.std.specs.Prelude.{◌≡◌, ℕ, ◌+◌, ◌*◌, ◌<◌, Bool, true, false, List, ◌++◌, length, nat_le, slice_index, slice_index_or, slice_set}
use Rattle.frames.specs.Cut.{cut}
use Rattle.tables.specs.declared.entry.Limits.{Limits}
use Rattle.tables.specs.declared.walk.Found.{Found}
use Rattle.tables.specs.declared.walk.Lies.{Lies}
use Rattle.tables.specs.declared.walk.Lies.TheVariants.{Nowhere, Zeros, Frame, Place}
use Rattle.tables.specs.Cells.{Held, Cell, none, nothing, zeros, at, segment}
use Rattle.tables.specs.Rows.{cells, rows, entry_of, with_entry}

pub record State : Type 0 where
  -- the entries of each process, and where each segment lies
  pub rows : List (List Cell)
  pub segments : List Cell
  -- how many entries name each segment, and how many entries and segments name each location
  pub lookers : List ℕ
  pub counts : List ℕ
  -- the bytes at each location, and the used marks of the frames
  pub pages : List (List ℕ)
  pub used : List ℕ

-- what is lent, list by list
pub record Lent : Type 0 where
  pub table : List ℕ
  pub segments : List ℕ
  pub lookers : List ℕ
  pub frame_counts : List ℕ
  pub used : List ℕ
  pub place_counts : List ℕ
  pub frames : List ℕ
  pub disk : List ℕ

unfoldable pub view : Limits → ℕ → ℕ → Lent → State
view z pages processes m =
    record {
      rows = rows z pages processes m.table;
      segments = cells z m.segments;
      lookers = m.lookers;
      counts = m.frame_counts ++ m.place_counts;
      pages = cut 256 z.frames m.frames ++ cut 256 z.places m.disk;
      used = m.used;
    }

-- each list is as long as the sizes say
pub record Fit (z : Limits) (pages processes : ℕ) (m : Lent) : Type 0 where
  pub table : length m.table ≡ processes * pages
  pub segments : length m.segments ≡ z.segments
  pub lookers : length m.lookers ≡ z.segments
  pub frame_counts : length m.frame_counts ≡ z.frames
  pub used : length m.used ≡ z.frames
  pub place_counts : length m.place_counts ≡ z.places
  pub frames : length m.frames ≡ z.frames * 256
  pub disk : length m.disk ≡ z.places * 256

-- Where a page lies: nowhere, in the page of zeros that is not held, or at a location; and whether a store needs no copy.
pub data Spot : Type 0 where
  nowhere : Spot
  blank : Spot
  lies : ℕ → Spot

pub record Walked : Type 0 where
  pub spot : Spot
  pub free : Bool

-- a segment is stored to where it lies, whoever looks at it
abbrev pub walked_segment : Held → Walked
walked_segment nothing = record { spot = nowhere; free = false }
walked_segment zeros = record { spot = nowhere; free = false }
walked_segment (at x) = record { spot = lies x; free = true }
walked_segment (segment s) = record { spot = nowhere; free = false }

-- an own page is stored to where it lies if nobody else has it
abbrev pub walked : List Cell → List ℕ → Held → Walked
walked segments counts nothing = record { spot = nowhere; free = false }
walked segments counts zeros = record { spot = blank; free = false }
walked segments counts (at x) = record { spot = lies x; free = nat_le (slice_index counts x) 1 }
walked segments counts (segment s) = walked_segment (slice_index_or segments s none).holds

abbrev pub walk : State → ℕ → ℕ → Walked
walk m p v = walked m.segments m.counts (entry_of m.rows p v).holds

-- what the code answers, as that
abbrev pub spot_of : ℕ → Lies → Spot
spot_of frames Nowhere = nowhere
spot_of frames Zeros = blank
spot_of frames (Frame f) = lies f
spot_of frames (Place d) = lies (frames + d)

abbrev pub found : ℕ → Found → Walked
found frames r = record { spot = spot_of frames r.lies; free = r.free }

-- One changed list changes the view in one place: a count or a page of a frame at its location, of a place behind the frames, one
-- number of the table at its entry.
abbrev pub with_counts : State → List ℕ → State
with_counts s cs = record { rows = s.rows; segments = s.segments; lookers = s.lookers; counts = cs; pages = s.pages; used = s.used }

abbrev pub with_pages : State → List (List ℕ) → State
with_pages s ps = record { rows = s.rows; segments = s.segments; lookers = s.lookers; counts = s.counts; pages = ps; used = s.used }

abbrev pub with_rows : State → List (List Cell) → State
with_rows s rs = record { rows = rs; segments = s.segments; lookers = s.lookers; counts = s.counts; pages = s.pages; used = s.used }

-- the lent lists with one of them another
abbrev pub with_frame_counts : Lent → List ℕ → Lent
with_frame_counts m cs =
    record { table = m.table; segments = m.segments; lookers = m.lookers; frame_counts = cs; used = m.used; place_counts = m.place_counts; frames = m.frames; disk = m.disk }

abbrev pub with_place_counts : Lent → List ℕ → Lent
with_place_counts m cs =
    record { table = m.table; segments = m.segments; lookers = m.lookers; frame_counts = m.frame_counts; used = m.used; place_counts = cs; frames = m.frames; disk = m.disk }

abbrev pub with_frames : Lent → List ℕ → Lent
with_frames m bytes =
    record { table = m.table; segments = m.segments; lookers = m.lookers; frame_counts = m.frame_counts; used = m.used; place_counts = m.place_counts; frames = bytes; disk = m.disk }

abbrev pub with_disk : Lent → List ℕ → Lent
with_disk m bytes =
    record { table = m.table; segments = m.segments; lookers = m.lookers; frame_counts = m.frame_counts; used = m.used; place_counts = m.place_counts; frames = m.frames; disk = bytes }

abbrev pub with_table : Lent → List ℕ → Lent
with_table m numbers =
    record { table = numbers; segments = m.segments; lookers = m.lookers; frame_counts = m.frame_counts; used = m.used; place_counts = m.place_counts; frames = m.frames; disk = m.disk }

pub record ViewFollows (z : Limits) (pages processes : ℕ) (m : Lent) : Type 0 where
  pub frame_count : (f c : ℕ) → f < z.frames → view z pages processes (with_frame_counts m (slice_set m.frame_counts f c)) ≡ with_counts (view z pages processes m) (slice_set (view z pages processes m).counts f c)
  pub place_count : (d c : ℕ) → view z pages processes (with_place_counts m (slice_set m.place_counts d c)) ≡ with_counts (view z pages processes m) (slice_set (view z pages processes m).counts (z.frames + d) c)
  -- bytes that make page f of the frames, or page d of the disk, the page ws
  pub frame : (f : ℕ) (bytes ws : List ℕ) → f < z.frames → ((n : ℕ) → cut 256 n bytes ≡ slice_set (cut 256 n m.frames) f ws) → view z pages processes (with_frames m bytes) ≡ with_pages (view z pages processes m) (slice_set (view z pages processes m).pages f ws)
  pub place : (d : ℕ) (bytes ws : List ℕ) → ((n : ℕ) → cut 256 n bytes ≡ slice_set (cut 256 n m.disk) d ws) → view z pages processes (with_disk m bytes) ≡ with_pages (view z pages processes m) (slice_set (view z pages processes m).pages (z.frames + d) ws)
  -- numbers that make the entry of page v of p the entry c
  pub entry : (p v : ℕ) (numbers : List ℕ) (c : Cell) → ((n : ℕ) → rows z pages n numbers ≡ with_entry (rows z pages n m.table) p v c) → view z pages processes (with_table m numbers) ≡ with_rows (view z pages processes m) (with_entry (view z pages processes m).rows p v c)

abbrev pub ViewLaws : Type 0
ViewLaws = (z : Limits) (pages processes : ℕ) (m : Lent) → Fit z pages processes m → ViewFollows z pages processes m
