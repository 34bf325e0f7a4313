-- When a segment cannot be made, whatever the choice of the frame. Assumes nothing.
use Rattle.std.specs.Prelude.{◌≡◌, ℕ, ◌⊎◌, None}
use Rattle.frames.specs.Counts.{lowest_free}
use Rattle.disk.specs.Whole.{Choice, Whole}
use Rattle.copies.specs.Laws.{UsedUp}
use Rattle.segments.specs.Make.{make_segment}

-- every segment is looked at, or no frame and no place is free
abbrev pub NoRoom : ℕ → Whole → Type 0
NoRoom frames w = (lowest_free w.state.lookers ≡ None) ⊎ UsedUp frames w

-- Full exactly then, and nothing has changed.
pub record MakeFull (choose : Choice) (frames : ℕ) (w : Whole) (p v : ℕ) : Type 0 where
  pub only : (make_segment choose frames w p v).1 ≡ None → NoRoom frames w × ((make_segment choose frames w p v).0 ≡ w)
  pub then : NoRoom frames w → make_segment choose frames w p v ≡ (w, None)

abbrev pub MakeFullExactly : Type 0
MakeFullExactly = (choose : Choice) (frames : ℕ) (w : Whole) (p v : ℕ) → MakeFull choose frames w p v
