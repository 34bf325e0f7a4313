use Rattle.std.proofs.Common.{◌≡◌, ◌-◌, ◌<◌}
use Rattle.frames.specs.Turn.{turn_from}
use Rattle.frames.proofs.hand.Hand.turn.Given as goal

-- from here, with the frames that are left to pass, the hand comes to where it would have come from the start
abbrev pub invariant-loop-passed : goal.invariant-loop-passed
invariant-loop-passed l =
    (l.frame < l.frames) × (turn_from l.frames (l.frames - l.passed) l.frame l.passed l.used ≡ turn_from l.frames l.frames l.initial.frame 0 l.initial.used)
