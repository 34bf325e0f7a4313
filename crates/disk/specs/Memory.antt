-- What fitting memory means, and what of it no function changes. Assumes nothing.
use Rattle.std.specs.Prelude.{◌≡◌, ℕ, ◌*◌, List, length}
use Rattle.tables.specs.declared.entry.Limits.{Limits}
use Rattle.tables.specs.declared.lent.Lent.{Lent}
use Rattle.tables.specs.Lent.{Shape, lists, shape}
use Rattle.tables.specs.State.{Lent as Lists, State, view}
use Rattle.disk.specs.declared.memory.Memory.{Memory}
use Rattle.disk.specs.declared.registers.Registers.{Registers}
use Rattle.disk.specs.Whole.{Whole, whole}

-- the counts and bytes of all frames and places, as long as the limits say
pub record Located (z : Limits) (m : Lent) : Type 0 where
  pub frame_counts : length m.frame_counts.now ≡ z.frames
  pub place_counts : length m.place_counts.now ≡ z.places
  pub frames : length m.frames.now ≡ z.frames * 256
  pub disk : length m.disk.now ≡ z.places * 256

-- lent memory with other used marks
abbrev pub marks : Lists → List ℕ → Lists
marks m us =
    record {
      table = m.table;
      segments = m.segments;
      lookers = m.lookers;
      frame_counts = m.frame_counts;
      used = us;
      place_counts = m.place_counts;
      frames = m.frames;
      disk = m.disk;
    }

-- the sizes, and the slices that are lent
pub record Fixed : Type 0 where
  pub limits : Limits
  pub processes : ℕ
  pub pages : ℕ
  pub shape : Shape

abbrev pub fixed : Memory → Fixed
fixed m = record { limits = m.limits; processes = m.processes; pages = m.pages; shape = shape m.lent }

abbrev pub state_of : Memory → State
state_of m = view m.limits m.pages m.processes (lists m.lent)

-- with the registers
abbrev pub whole_of : Registers → Memory → Whole
whole_of r m = whole m.limits m.pages m.processes r (lists m.lent)
