-- The bytes of a page, when a store has to copy, the locations in use, the frame a turn comes to, and what a fork leaves alone. Assumes nothing.
use Rattle.std.specs.Prelude.{◌≡◌, ℕ, Bool, not, ◌||◌, List, [], count_by, ◌==◌, slice_index_or}
use Rattle.fold.specs.Fold.{Page, World, absent, own, seen, users, more_than_one}
use Rattle.frames.specs.Turn.{Turned}
use Rattle.disk.specs.declared.registers.Taken.{Taken}
use Rattle.calls.specs.Machine.{Machine}

-- the bytes of a page: none, its own, or those of the segment that it looks at
abbrev pub page_bytes : World → Page → List ℕ
page_bytes w absent = []
page_bytes w (own l ws) = ws
page_bytes w (seen s) = slice_index_or w.segments s []

-- whether a store to an own page of label l has to copy: label 0 is the page of zeros, which is nobody's, and any other is copied if others have it too
abbrev pub must : World → ℕ → Bool
must w l = l == 0 || more_than_one (users w l)

-- how many counts are not 0
abbrev pub in_use : List ℕ → ℕ
in_use counts = count_by (λ n. not (n == 0)) counts

-- the frame that a turn of the hand has come to, and how many frames it looked at
abbrev pub as_taken : Turned → Taken
as_taken t = record { frame = t.frame; looks = t.looks }

-- every byte, every used mark, the hand and the counts of reads and writes are the same
pub record SameMemory (m m' : Machine) : Type 0 where
  pub pages : m'.whole.state.pages ≡ m.whole.state.pages
  pub used : m'.whole.state.used ≡ m.whole.state.used
  pub hand : m'.whole.hand ≡ m.whole.hand
  pub reads : m'.whole.reads ≡ m.whole.reads
  pub writes : m'.whole.writes ≡ m.whole.writes
