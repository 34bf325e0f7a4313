-- The whole manager as one value, and how it begins. Assumes nothing.
use Rattle.std.specs.Prelude.{ℕ, ◌+◌, ◌-◌, Bool, true, false, cond, List, [], ◌∷◌, replicate, Some, None, Option, slice_index_or}
use Rattle.fold.specs.Fold.{Sizes}
use Rattle.tables.specs.Cells.{none}
use Rattle.tables.specs.State.{State}
use Rattle.disk.specs.Whole.{Whole}

pub record Machine : Type 0 where
  -- how many of the locations are frames; the others are places on the disk
  pub frames : ℕ
  -- which processes are there
  pub alive : List Bool
  -- what lent memory means, the hand, reads and writes, and the look-aside table
  pub whole : Whole

abbrev pub living : Machine → ℕ → Bool
living m p = slice_index_or m.alive p false

abbrev pub with_whole : Machine → Whole → Machine
with_whole m w = record { frames = m.frames; alive = m.alive; whole = w }

-- the lowest process that is not there, from number i on
unfoldable pub lowest_absent : ℕ → List Bool → Option ℕ
lowest_absent i [] = None
lowest_absent i (there ∷ bs) = cond there (lowest_absent (i + 1) bs) (Some i)

-- at the start process 0 is there, no page is, nothing is held, and all memory is zeros
abbrev pub empty_state : Sizes → ℕ → ℕ → State
empty_state z frames places =
    record {
      rows = replicate z.processes (replicate z.pages none);
      segments = replicate z.segments none;
      lookers = replicate z.segments 0;
      counts = replicate (frames + places) 0;
      pages = replicate (frames + places) (replicate 256 0);
      used = replicate frames 0;
    }

unfoldable pub first : Sizes → ℕ → ℕ → Machine
first z frames places =
    record {
      frames = frames;
      alive = true ∷ replicate (z.processes - 1) false;
      whole = record { state = empty_state z frames places; hand = 0; reads = 0; writes = 0; slots = replicate 16 None };
    }
