-- A frame or place that a walk answers is there. Assumes nothing.
use Rattle.std.specs.Prelude.{◌<◌}
use Rattle.tables.specs.declared.entry.Limits.{Limits}
use Rattle.tables.specs.declared.walk.Lies.{Lies}
use Rattle.tables.specs.declared.walk.Lies.TheVariants.{Nowhere, Zeros, Frame, Place}

abbrev pub LiesWithin : Limits → Lies → Type 0
LiesWithin z Nowhere = Unit {0}
LiesWithin z Zeros = Unit {0}
LiesWithin z (Frame f) = f < z.frames
LiesWithin z (Place d) = d < z.places
