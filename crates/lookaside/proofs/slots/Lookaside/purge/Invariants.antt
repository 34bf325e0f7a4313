use Rattle.std.proofs.Common.{◌≡◌, ◌++◌, map, length, take, drop}
use Rattle.tables.specs.Lent.{counts_of, rows_of, segments_of}
use Rattle.lookaside.specs.Purge.{kept_slot}
use Rattle.lookaside.proofs.slots.Lookaside.purge.Given as goal

-- the slots so far are purged, and the others are as they were
abbrev pub invariant-loop-i : goal.invariant-loop-i
invariant-loop-i l =
    (length l.initial.slots ≡ 16) × (length l.slots ≡ 16)
    × (l.slots ≡ map (kept_slot (rows_of l.tables) (segments_of l.tables) (counts_of l.tables) l.tables.limits.frames) (take l.i l.initial.slots) ++ drop l.i l.initial.slots)
