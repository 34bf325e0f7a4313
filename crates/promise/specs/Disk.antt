-- The disk changes no byte, and the hand goes round. Assumes nothing.
use Rattle.std.specs.Prelude.{◌≡◌, ℕ, ◌+◌, ◌*◌, ◌<◌, ◌≤◌, Some, None}
use Rattle.fold.specs.Fold.{Sizes, World, held}
use Rattle.frames.specs.Turn.{GoesRound, Turned, start, turn}
use Rattle.disk.specs.Follows.{SameBytes}
use Rattle.disk.specs.Frames.{Chooses}
use Rattle.disk.specs.Whole.{Choice, bring_in, free_frame, take_frame}
use Rattle.calls.specs.Machine.{Machine}
use Rattle.simulation.specs.Shown.{as_taken}
use Rattle.promise.specs.Reached.{Everywhere, state}

-- Whichever of the frames is chosen to be emptied: every page of every process and every segment shows the bytes that it showed.
pub record DiskKeeps (z : Sizes) (frames : ℕ) (m : Machine) : Type 0 where
  -- after a frame was taken, whose page may have gone out to the disk
  pub taking : (choose : Choice) → Chooses choose frames m.whole → SameBytes (state m) (take_frame choose frames m.whole).0.state
  -- after the page in place d has come in from the disk, for which another may have gone out
  pub bringing : (choose : Choice) (d : ℕ) → Chooses choose frames m.whole → frames + d < z.hold → SameBytes (state m) (bring_in choose frames d m.whole).0.state

abbrev pub DiskKeepsBytes : Type 0
DiskKeepsBytes = Everywhere (λ z frames m w. DiskKeeps z frames m)

-- what a turn of the hand comes to now
abbrev pub turn_now : ℕ → Machine → Turned
turn_now frames m = turn frames m.whole.hand (state m).used

pub record HandTurns (z : Sizes) (frames : ℕ) (m : Machine) (w : World) : Type 0 where
  -- A frame that is free is taken as it is, the lowest one: nothing moves, and the hand does not look. A page from the disk comes to it too.
  pub spares : (f : ℕ) → free_frame frames m.whole ≡ Some f → take_frame turn frames m.whole ≡ (m.whole, Some (record { frame = f; looks = 0 }))
  pub fetches : (f d : ℕ) → free_frame frames m.whole ≡ Some f → (bring_in turn frames d m.whole).1 ≡ record { frame = f; looks = 0 }
  -- else the hand goes round from where it rests and takes the first frame that has no used mark, clearing the marks that it passes
  pub round : GoesRound frames (start frames m.whole.hand) (state m).used (turn_now frames m)
  -- so it never looks at more than twice as many frames as there are
  pub few : (turn_now frames m).looks ≤ 2 * frames
  -- and that frame is the one that is taken, if not all that can be held is held, or that a page from the disk comes to
  pub takes : free_frame frames m.whole ≡ None → held w < z.hold → (take_frame turn frames m.whole).1 ≡ Some (as_taken (turn_now frames m))
  pub brings : (d : ℕ) → free_frame frames m.whole ≡ None → (bring_in turn frames d m.whole).1 ≡ as_taken (turn_now frames m)

abbrev pub HandGoes : Type 0
HandGoes = Everywhere HandTurns
