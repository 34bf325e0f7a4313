-- What it is for a manager's state to be sound: everything that a machine in the field can have wrong is ruled out here. Assumes nothing.
use Rattle.std.specs.Prelude.{◌≡◌, ℕ, ◌<◌, ◌≤◌, Bool, true, false, Some, None, slice_index, slice_index_or}
use Rattle.fold.specs.Fold.{Sizes}
use Rattle.tables.specs.Cells.{Held, Cell, none, nothing, zeros, at, segment}
use Rattle.tables.specs.Rows.{entry_of}
use Rattle.tables.specs.State.{State}
use Rattle.lookaside.specs.declared.slots.Slot.{Slot}
use Rattle.lookaside.specs.Purge.{true_slot}
use Rattle.lookaside.specs.Slots.{slot_of}
use Rattle.disk.specs.Follows.{named}
use Rattle.copies.specs.Stores.{own_cell}
use Rattle.calls.specs.Machine.{Machine, living}
use Rattle.simulation.specs.Over.{looks_at, over}

-- tables, counts, bytes and used marks
abbrev pub state : Machine → State
state m = m.whole.state

-- the entry of page v of p, and that of segment s
abbrev pub page_entry : Machine → ℕ → ℕ → Cell
page_entry m p v = entry_of (state m).rows p v

abbrev pub segment_entry : Machine → ℕ → Cell
segment_entry m s = slice_index_or (state m).segments s none

-- how many entries look at segment s
abbrev pub looks : Machine → ℕ → ℕ
looks m s = over (looks_at s) (state m).rows

-- An entry of a page table is one that calls write: it names what is there; an absent page and a segment have no mark, and a page of zeros has it. A number that
-- is no entry is read as an absent page with the mark, so it is ruled out too.
abbrev pub PageFormed : Sizes → Held → Bool → Type 0
PageFormed z nothing mark = mark ≡ false
PageFormed z zeros mark = mark ≡ true
PageFormed z (at x) mark = x < z.hold
PageFormed z (segment s) mark = (s < z.segments) × (mark ≡ false)

-- An entry of the segment table names a frame or a place, or nothing, and has no mark.
abbrev pub SegmentFormed : Sizes → Held → Bool → Type 0
SegmentFormed z nothing mark = mark ≡ false
SegmentFormed z zeros mark = ⊥
SegmentFormed z (at x) mark = (x < z.hold) × (mark ≡ false)
SegmentFormed z (segment s) mark = ⊥

pub record Sound (z : Sizes) (m : Machine) : Type 0 where
  -- the count of a frame or place is the number of entries and segments that name it, and that of a segment the number of entries that look at it
  pub counts : (x : ℕ) → x < z.hold → slice_index (state m).counts x ≡ named (state m) x
  pub lookers : (s : ℕ) → s < z.segments → slice_index (state m).lookers s ≡ looks m s
  -- a segment that somebody looks at has a frame or place to itself, and one that nobody looks at lies nowhere
  pub segments : (s : ℕ) → s < z.segments → SegmentFormed z (segment_entry m s).holds (segment_entry m s).copy
  pub lying : (s : ℕ) → s < z.segments → 0 < looks m s → (x : ℕ) × ((segment_entry m s).holds ≡ at x) × (named (state m) x ≡ 1)
  pub idle : (s : ℕ) → s < z.segments → looks m s ≡ 0 → (segment_entry m s).holds ≡ nothing
  -- every number of the page tables is an entry
  pub entries : (p v : ℕ) → p < z.processes → v < z.pages → PageFormed z (page_entry m p v).holds (page_entry m p v).copy
  -- a process that is not there has no pages
  pub gone : (p v : ℕ) → p < z.processes → v < z.pages → living m p ≡ false → (page_entry m p v).holds ≡ nothing
  -- an own page without the mark is nobody else's
  pub alone : (p v x : ℕ) → p < z.processes → v < z.pages → page_entry m p v ≡ own_cell x → named (state m) x ≡ 1
  -- a slot of the look-aside table is where its page is looked for, and says what a walk answers
  pub slots : (i : ℕ) (s : Slot) → slice_index_or m.whole.slots i None ≡ Some s →
      (slot_of s.process s.page ≡ i) × (true_slot (state m).rows (state m).segments (state m).counts m.frames s ≡ true)
  -- used marks and the hand are in range
  pub used : (f : ℕ) → f < m.frames → slice_index (state m).used f ≤ 1
  pub hand : m.whole.hand < m.frames
