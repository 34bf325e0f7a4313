-- What is asked of a store before it is done. Assumes nothing.
use Rattle.std.specs.Prelude.{ℕ, ◌+◌, ◌*◌, ◌<◌, ◌≤◌, length}
use Rattle.tables.specs.declared.entry.Limits.{Limits}
use Rattle.tables.specs.declared.lent.Lent.{Lent}
use Rattle.disk.specs.Memory.{Located}
use Rattle.copies.specs.declared.stores.Store.{Store}

-- it names a byte of a machine of this size
pub record Inside (processes pages : ℕ) (s : Store) : Type 0 where
  pub process : s.process < processes
  pub page : s.page < pages
  pub offset : s.offset < 256

-- the entry of the page is in the table, and the frame is one of the machine's
pub record Storable (z : Limits) (pages : ℕ) (m : Lent) (s : Store) (f : ℕ) : Type 0 where
  pub inside : s.page < pages
  pub long : s.process * pages + pages ≤ length m.table.now
  pub offset : s.offset < 256
  pub frame : f < z.frames
  pub few : z.frames ≤ 1024
  pub located : Located z m
