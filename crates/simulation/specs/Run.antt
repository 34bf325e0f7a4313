-- The manager after a row of calls, and what is asked of a choice of frames. Assumes nothing.
use Rattle.std.specs.Prelude.{◌≡◌, ℕ, ◌<◌, List, [], ◌∷◌, length}
use Rattle.fold.specs.Fold.{Sizes, Call}
use Rattle.disk.specs.Whole.{Choice}
use Rattle.calls.specs.Machine.{Machine}
use Rattle.calls.specs.Calls.{calls_by}

-- the manager after a row of calls, by the choice of the frame whose page goes to the disk
unfoldable pub after_calls : Choice → Sizes → Machine → List Call → Machine
after_calls choose z m [] = m
after_calls choose z m (c ∷ cs) = after_calls choose z (calls_by choose z m c).0 cs

-- a choice comes to one of the frames and keeps a mark for each
abbrev pub Usable : Choice → ℕ → Type 0
Usable choose frames =
    (hand : ℕ) (used : List ℕ) → length used ≡ frames → ((choose frames hand used).frame < frames) × (length (choose frames hand used).used ≡ frames)
