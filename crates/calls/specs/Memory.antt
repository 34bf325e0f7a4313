-- What the manager's record and lent memory mean together, and what is asked of both before a call. Assumes nothing.
use Rattle.std.specs.Prelude.{◌≡◌, ℕ, Bool, false, ◌&&◌, length, take, nat_lt, slice_index_or}
use Rattle.fold.specs.Fold as fold
use Rattle.requests.specs.Meaning.{Asked, answered, calls, counts, seen_sizes}
use Rattle.requests.specs.Ranges.{InRange, ranged}
use Rattle.requests.specs.declared.answer.Answer.{Answer}
use Rattle.requests.specs.declared.sizes.Sizes.{Sizes}
use Rattle.tables.specs.declared.entry.Limits.{Limits}
use Rattle.tables.specs.State.{Lent}
use Rattle.disk.specs.declared.memory.Memory.{Memory}
use Rattle.disk.specs.Memory.{fixed, whole_of}
use Rattle.disk.specs.Whole.{whole}
use Rattle.calls.specs.declared.manager.Manager.{Manager}
use Rattle.calls.specs.Calls as rule
use Rattle.calls.specs.Calls.{counts_answer}
use Rattle.calls.specs.Machine.{Machine}

abbrev pub limits_of : Sizes → Limits
limits_of z = record { frames = z.frames; places = z.places; segments = z.segments }

-- the record has room for sixteen processes; the machine has as many as its sizes say
abbrev pub machine : Manager → Lent → Machine
machine g m =
    record {
      frames = g.sizes.frames;
      alive = take g.sizes.processes g.alive;
      whole = whole (limits_of g.sizes) g.sizes.pages g.sizes.processes g.registers m;
    }

-- the same, with memory that fits the machine
abbrev pub machine_of : Manager → Memory → Machine
machine_of g m =
    record {
      frames = m.limits.frames;
      alive = take g.sizes.processes g.alive;
      whole = whole_of g.registers m;
    }

-- sizes in range, and memory of exactly these sizes
pub record Fits (z : Sizes) (m : Memory) : Type 0 where
  pub range : InRange (ranged z)
  pub limits : m.limits ≡ limits_of z
  pub processes : m.processes ≡ z.processes
  pub pages : m.pages ≡ z.pages
  pub lookers : length m.lent.lookers.now ≡ z.segments

-- the answer, the record and memory are then those of the call
pub record Serves (g : Manager) (m : Memory) (c : fold.Call) (r : Manager × Answer) (after : Memory) : Type 0 where
  pub same : r.0.sizes ≡ g.sizes
  pub fixed : fixed after ≡ fixed m
  pub serves : ◌≡◌ {A = Machine × fold.Answer} (machine_of r.0 after, answered r.1) (rule.calls (seen_sizes g.sizes) (machine_of g m) c)

-- page v of p may be asked for, by the record
abbrev pub record_inside : Manager → ℕ → ℕ → Bool
record_inside g p v = slice_index_or (take g.sizes.processes g.alive) p false && nat_lt v g.sizes.pages

-- what the manager answers to what was asked: a call, or the counts of reads and writes, which changes nothing
abbrev pub serve : fold.Sizes → Machine → Asked → Machine × fold.Answer
serve z m (calls k) = rule.calls z m k
serve z m counts = (m, counts_answer m)

-- the same of what was asked
pub record ServesAsked (g : Manager) (m : Memory) (a : Asked) (r : Manager × Answer) (after : Memory) : Type 0 where
  pub same : r.0.sizes ≡ g.sizes
  pub fixed : fixed after ≡ fixed m
  pub served : ◌≡◌ {A = Machine × fold.Answer} (machine_of r.0 after, answered r.1) (serve (seen_sizes g.sizes) (machine_of g m) a)

-- and of lent memory of exactly these sizes
pub record Served (g : Manager) (m : Lent) (a : Asked) (r : Manager × Answer) (after : Lent) : Type 0 where
  pub same : r.0.sizes ≡ g.sizes
  pub served : ◌≡◌ {A = Machine × fold.Answer} (machine r.0 after, answered r.1) (serve (seen_sizes g.sizes) (machine g m) a)
