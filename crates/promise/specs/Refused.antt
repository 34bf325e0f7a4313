-- A call that is refused changes nothing. Assumes nothing.
use Rattle.std.specs.Prelude.{◌≡◌, ◌⊎◌}
use Rattle.fold.specs.Fold.{Sizes, Call, fault, full}
use Rattle.disk.specs.Whole.{Choice}
use Rattle.calls.specs.Machine.{Machine}
use Rattle.calls.specs.Calls.{calls_by}

-- A fault, or full, leaves every part of the manager as it was: of any manager, even one that no calls reach, and whichever frames are chosen.
abbrev pub RefusedUnchanged : Type 0
RefusedUnchanged =
    (choose : Choice) (z : Sizes) (m : Machine) (c : Call) → ((calls_by choose z m c).1 ≡ fault) ⊎ ((calls_by choose z m c).1 ≡ full) → (calls_by choose z m c).0 ≡ m
