-- What one may count on of a frame that was taken, whatever the choice. Assumes nothing.
use Rattle.std.specs.Prelude.{◌≡◌, ℕ, ◌+◌, ◌<◌, ◌≤◌, length, Some, None, slice_index}
use Rattle.disk.specs.declared.registers.Taken.{Taken}
use Rattle.disk.specs.Follows.{CountsRight, SameBytes}
use Rattle.disk.specs.Whole.{bring_in, Choice, Whole, free_frame, free_place, take_frame}

-- the choice, if it is asked, comes to one of the frames
abbrev pub Chooses : Choice → ℕ → Whole → Type 0
Chooses choose frames w = (choose frames w.hand w.state.used).frame < frames

-- A frame that was taken has count 0: nobody names it any more.
abbrev pub TakenIsFree : Type 0
TakenIsFree =
    (choose : Choice) (frames : ℕ) (w : Whole) (t : Taken) → frames ≤ length w.state.counts → Chooses choose frames w →
    (take_frame choose frames w).1 ≡ Some t → slice_index (take_frame choose frames w).0.state.counts t.frame ≡ 0

-- Where none is given, no frame and no place was free, and nothing has changed.
pub record NoneLeft (choose : Choice) (frames : ℕ) (w : Whole) : Type 0 where
  pub frame : free_frame frames w ≡ None
  pub place : free_place frames w ≡ None
  pub same : (take_frame choose frames w).0 ≡ w

abbrev pub NoneOnlyIfFull : Type 0
NoneOnlyIfFull = (choose : Choice) (frames : ℕ) (w : Whole) → (take_frame choose frames w).1 ≡ None → NoneLeft choose frames w

-- Where pages may move: counts are right, the choice comes to a frame, and each location has its count and its page.
pub record Ready (choose : Choice) (frames : ℕ) (w : Whole) : Type 0 where
  pub right : CountsRight w.state
  pub chooses : Chooses choose frames w
  pub within : frames ≤ length w.state.counts
  pub pages : length w.state.pages ≡ length w.state.counts

-- Taking a frame changes no byte that anybody sees, and counts stay right.
abbrev pub TakeKeepsBytes : Type 0
TakeKeepsBytes = (choose : Choice) (frames : ℕ) (w : Whole) → Ready choose frames w → SameBytes w.state (take_frame choose frames w).0.state

abbrev pub TakeKeepsCounts : Type 0
TakeKeepsCounts = (choose : Choice) (frames : ℕ) (w : Whole) → Ready choose frames w → CountsRight (take_frame choose frames w).0.state

-- Nor does bringing in the page of a place.
abbrev pub BringKeepsBytes : Type 0
BringKeepsBytes =
    (choose : Choice) (frames d : ℕ) (w : Whole) → Ready choose frames w → frames + d < length w.state.counts → SameBytes w.state (bring_in choose frames d w).0.state

abbrev pub BringKeepsCounts : Type 0
BringKeepsCounts =
    (choose : Choice) (frames d : ℕ) (w : Whole) → Ready choose frames w → frames + d < length w.state.counts → CountsRight (bring_in choose frames d w).0.state
