-- The relation between the manager and the machine of private memories. `lab` says which label the page at each location has; it is a parameter and not kept
-- anywhere, since pages that change places take their labels with them.
use Rattle.std.proofs.Common.{◌≡◌, ℕ, ◌<◌, ◌≤◌, true, ◌≢◌, List, [], length, get_or, replicate, Some, None}
use Rattle.fold.specs.Fold.{Page, Sizes, World, absent, own, seen, process, page}
use Rattle.frames.specs.Cut.{row}
use Rattle.tables.specs.Cells.{Held, none, nothing, zeros, at, segment}
use Rattle.tables.specs.State.{State}
use Rattle.lookaside.specs.declared.slots.Slot.{Slot}
use Rattle.lookaside.specs.Purge.{true_slot}
use Rattle.disk.specs.Follows.{named}
use Rattle.calls.specs.Machine.{Machine, living}
use Rattle.calls.specs.Calls.{holds}
use Rattle.simulation.specs.Over.{looks_at, over}

abbrev pub state : Machine → State
state m = m.whole.state

-- what a process sees of a page
abbrev pub see : (ℕ → ℕ) → List (List ℕ) → Held → Page
see lab ps nothing = absent
see lab ps zeros = own 0 (replicate 256 0)
see lab ps (at x) = own (lab x) (row ps x)
see lab ps (segment s) = seen s

-- all lists are as long as the sizes say
pub record Shape (z : Sizes) (m : Machine) (w : World) : Type 0 where
  pub words : z.words ≡ 256
  pub some : 0 < m.frames
  pub within : m.frames ≤ z.hold
  pub few_processes : z.processes ≤ 16
  pub few_pages : z.pages ≤ 64
  pub few_segments : z.segments ≤ 16
  pub processes : length w.processes ≡ z.processes
  pub wide : (p : ℕ) → p < z.processes → length (process w p).pages ≡ z.pages
  pub segments : length w.segments ≡ z.segments
  pub alive : length m.alive ≡ z.processes
  pub rows : length (state m).rows ≡ z.processes
  pub columns : (p : ℕ) → p < z.processes → length (row (state m).rows p) ≡ z.pages
  pub table : length (state m).segments ≡ z.segments
  pub lookers : length (state m).lookers ≡ z.segments
  pub counts : length (state m).counts ≡ z.hold
  pub pages : length (state m).pages ≡ z.hold
  pub used : length (state m).used ≡ m.frames

-- a segment that somebody looks at lies at a location of its own, with the bytes that all see
pub record Lying (z : Sizes) (m : Machine) (w : World) (s : ℕ) : Type 0 where
  pub where_it_is : ℕ
  pub at_it : (get_or (state m).segments s none).holds ≡ at where_it_is
  pub within : where_it_is < z.hold
  pub alone : get_or (state m).counts where_it_is 0 ≡ 1
  pub bytes : row (state m).pages where_it_is ≡ get_or w.segments s []

pub record Sim (z : Sizes) (lab : ℕ → ℕ) (m : Machine) (w : World) : Type 0 where
  pub shape : Shape z m w
  pub fresh : 0 < w.next
  pub alive : (p : ℕ) → (process w p).alive ≡ living m p
  pub pages : (p v : ℕ) → page w p v ≡ see lab (state m).pages (holds m p v)
  -- a location that an entry names is there and has a label that was given out
  pub labels : (p v x : ℕ) → holds m p v ≡ at x → (x < z.hold) × (lab x ≢ 0) × (lab x < w.next)
  -- and one label is one location
  pub apart : (p v q u x y : ℕ) → holds m p v ≡ at x → holds m q u ≡ at y → lab x ≡ lab y → x ≡ y
  pub looks : (p v s : ℕ) → holds m p v ≡ segment s → s < z.segments
  -- counts are the numbers of entries and segments that name the location, and of entries that look at the segment
  pub counts : (x : ℕ) → x < z.hold → get_or (state m).counts x 0 ≡ named (state m) x
  pub lookers : (s : ℕ) → s < z.segments → get_or (state m).lookers s 0 ≡ over (looks_at s) (state m).rows
  pub lying : (s : ℕ) → s < z.segments → 0 < get_or (state m).lookers s 0 → Lying z m w s
  pub idle : (s : ℕ) → s < z.segments → get_or (state m).lookers s 0 ≡ 0 → (get_or (state m).segments s none).holds ≡ nothing

-- every slot of the look-aside table is what a walk answers
abbrev pub SlotsTrue : Machine → Type 0
SlotsTrue m =
    (i : ℕ) (s : Slot) → get_or m.whole.slots i None ≡ Some s → true_slot (state m).rows (state m).segments (state m).counts m.frames s ≡ true
