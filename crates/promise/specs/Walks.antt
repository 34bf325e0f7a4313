-- What a walk of the page tables answers, and what the look-aside table says. Assumes nothing.
use Rattle.std.specs.Prelude.{◌≡◌, ℕ, ◌<◌, true, not, List, replicate, Some, None, slice_index_or}
use Rattle.fold.specs.Fold.{Sizes, World, page, absent, own, seen}
use Rattle.frames.specs.Cut.{row}
use Rattle.tables.specs.State.{nowhere, blank, lies, walk}
use Rattle.lookaside.specs.declared.slots.Slot.{Slot}
use Rattle.calls.specs.Machine.{Machine}
use Rattle.simulation.specs.Shown.{must, page_bytes}
use Rattle.promise.specs.Reached.{Everywhere, Exactly, state}

pub record WalkedRight (z : Sizes) (frames : ℕ) (m : Machine) (w : World) : Type 0 where
  -- A page is found nowhere exactly if it is not there: no entry is taken for absent for naming what is out of range.
  pub absent_only : (p v : ℕ) → Exactly ((walk (state m) p v).spot ≡ nowhere) (page w p v ≡ absent)
  -- the page of zeros is found exactly for a page that nobody has stored to
  pub blank_zeros : (p v : ℕ) → (walk (state m) p v).spot ≡ blank → page w p v ≡ own 0 (replicate 256 0)
  pub zeros_blank : (p v : ℕ) (ws : List ℕ) → page w p v ≡ own 0 ws → (walk (state m) p v).spot ≡ blank
  -- any other page is found at one of the frames and places, where its bytes are, or those of the segment that it looks at
  pub lies_there : (p v x : ℕ) → (walk (state m) p v).spot ≡ lies x → (x < z.hold) × (row (state m).pages x ≡ page_bytes w (page w p v))
  -- the walk says that a store needs no copy exactly if it needs none
  pub free_own : (p v l : ℕ) (ws : List ℕ) → page w p v ≡ own l ws → (walk (state m) p v).free ≡ not (must w l)
  pub free_seen : (p v s : ℕ) → page w p v ≡ seen s → (walk (state m) p v).free ≡ true
  -- every slot of the look-aside table is what a walk answers, and its frame is one of the frames
  pub slots : (i : ℕ) (s : Slot) → slice_index_or m.whole.slots i None ≡ Some s →
      (walk (state m) s.process s.page ≡ record { spot = lies s.frame; free = s.free }) × (s.frame < frames)

abbrev pub WalksRight : Type 0
WalksRight = Everywhere WalkedRight
