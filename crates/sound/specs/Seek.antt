-- What is looked for in the tables: who names a frame or place, who looks at a segment. Assumes nothing.
use Rattle.std.specs.Prelude.{ℕ}
use Rattle.tables.specs.Cells.{Held}
use Rattle.disk.specs.Follows.{names}
use Rattle.simulation.specs.Over.{looks_at}
use Rattle.sound.specs.declared.seek.Sought.{Sought}
use Rattle.sound.specs.declared.seek.Sought.TheVariants.{Location, Segment}

-- 1 where an entry is what is looked for
abbrev pub is_sought : Sought → Held → ℕ
is_sought (Location x) h = names x h
is_sought (Segment s) h = looks_at s h
