-- Counts are the numbers of names, and none comes near what a table can hold. Assumes nothing.
use Rattle.std.specs.Prelude.{◌≡◌, ℕ, ◌<◌, slice_index}
use Rattle.fold.specs.Fold.{Sizes}
use Rattle.disk.specs.Follows.{named}
use Rattle.calls.specs.Machine.{Machine}
use Rattle.simulation.specs.Over.{looks_at, over}
use Rattle.promise.specs.Reached.{Everywhere, state}

pub record Counted (z : Sizes) (m : Machine) : Type 0 where
  -- the count of a location is the number of entries and segments that name it
  pub locations : (x : ℕ) → x < z.hold → slice_index (state m).counts x ≡ named (state m) x
  -- the count of a segment is the number of entries, in all tables, that look at it
  pub segments : (s : ℕ) → s < z.segments → slice_index (state m).lookers s ≡ over (looks_at s) (state m).rows

abbrev pub CountsRight : Type 0
CountsRight = Everywhere (λ z frames m w. Counted z m)

-- A count stops at 65535, where it would no longer be right: it never gets there.
pub record Small (z : Sizes) (m : Machine) : Type 0 where
  pub locations : (x : ℕ) → x < z.hold → slice_index (state m).counts x < 65535
  pub segments : (s : ℕ) → s < z.segments → slice_index (state m).lookers s < 65535

abbrev pub CountsSmall : Type 0
CountsSmall = Everywhere (λ z frames m w. Small z m)
