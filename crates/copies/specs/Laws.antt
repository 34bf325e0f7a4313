-- What a store to an own page answers, whatever the choice of the frame. Assumes nothing.
use Rattle.std.specs.Prelude.{◌≡◌, ℕ, Bool, true, Some, None}
use Rattle.disk.specs.Whole.{Choice, Whole, free_frame, free_place}
use Rattle.copies.specs.declared.anew.Written.{Written}
use Rattle.copies.specs.Own.{must_copy, own_holds, stored_own}

-- whether a store to page v of p has to copy
abbrev pub copies_first : Whole → ℕ → ℕ → Bool
copies_first w p v = must_copy w.state.counts (own_holds w p v)

-- no frame and no place is free
pub record UsedUp (frames : ℕ) (w : Whole) : Type 0 where
  pub frame : free_frame frames w ≡ None
  pub place : free_place frames w ≡ None

-- A store that has to copy is full exactly where no frame and no place is free, and then nothing at all has changed.
pub record FullExactly (choose : Choice) (frames : ℕ) (w : Whole) (p v o b : ℕ) : Type 0 where
  pub only : (stored_own choose frames w p v o b).1 ≡ None → UsedUp frames w × ((stored_own choose frames w p v o b).0 ≡ w)
  pub then : UsedUp frames w → stored_own choose frames w p v o b ≡ (w, None)

abbrev pub FullWhenUsedUp : Type 0
FullWhenUsedUp = (choose : Choice) (frames : ℕ) (w : Whole) (p v o b : ℕ) → copies_first w p v ≡ true → FullExactly choose frames w p v o b

-- A store that is done says whether it copied.
abbrev pub SaysCopied : Type 0
SaysCopied =
    (choose : Choice) (frames : ℕ) (w : Whole) (p v o b : ℕ) (t : Written) → (stored_own choose frames w p v o b).1 ≡ Some t → t.copied ≡ copies_first w p v
