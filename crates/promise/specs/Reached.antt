-- Which managers and worlds the statements speak of: every one that a row of calls reaches from the opening. Assumes nothing.
use Rattle.std.specs.Prelude.{◌≡◌, ℕ, suc, ◌+◌, ◌<◌, ◌≤◌, List}
use Rattle.fold.specs.Fold.{Sizes, World, Call, after, begin}
use Rattle.frames.specs.Turn.{turn}
use Rattle.tables.specs.State.{State}
use Rattle.calls.specs.Machine.{Machine, first}
use Rattle.simulation.specs.Run.{after_calls}

-- Sizes in range: n processes besides the first, pages of 256 bytes, and a hold that is split into frames and places on the disk.
pub record MachineSizes (z : Sizes) (n frames places : ℕ) : Type 0 where
  pub processes : z.processes ≡ suc n
  pub few_processes : n < 16
  pub words : z.words ≡ 256
  pub some_pages : 1 ≤ z.pages
  pub few_pages : z.pages ≤ 64
  pub few_segments : z.segments ≤ 16
  pub some_frames : 1 ≤ frames
  pub few_frames : frames ≤ 512
  pub few_places : places ≤ 512
  pub hold : z.hold ≡ frames + places

-- the manager after a row of calls from its opening, the hand choosing which frame is emptied
abbrev pub manager_after : Sizes → ℕ → ℕ → List Call → Machine
manager_after z frames places cs = after_calls turn z (first z frames places) cs

-- the machine of private memories after the same calls
abbrev pub world_after : Sizes → ℕ → List Call → World
world_after z n cs = after z (begin z n) cs

-- tables, counts, bytes and used marks of a manager
abbrev pub state : Machine → State
state m = m.whole.state

-- P holds of the sizes, the number of frames, the manager and the world of private memories after every row of calls
abbrev pub Everywhere : (Sizes → ℕ → Machine → World → Type 0) → Type 0
Everywhere P =
    (z : Sizes) (n frames places : ℕ) (cs : List Call) → MachineSizes z n frames places → P z frames (manager_after z frames places cs) (world_after z n cs)

-- one holds exactly if the other does
abbrev pub Exactly : Type 0 → Type 0 → Type 0
Exactly A B = (A → B) × (B → A)
