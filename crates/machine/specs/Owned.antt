-- What a machine with memory of its own stands for. Assumes nothing.
use Rattle.std.specs.Prelude.{◌≡◌, Some, Ok, Err, vec_items, Result}
use Rattle.fold.specs.Fold as fold
use Rattle.requests.specs.Meaning.{Asked, answered, seen_sizes}
use Rattle.requests.specs.Ranges.{sizes_refusal}
use Rattle.requests.specs.declared.answer.Answer.{Answer}
use Rattle.requests.specs.declared.sizes.Sizes.{Sizes}
use Rattle.tables.specs.State.{Lent}
use Rattle.disk.specs.Moves.{lent}
use Rattle.calls.specs.Entry.{cut_lent}
use Rattle.calls.specs.Machine as rule
use Rattle.calls.specs.Memory as memory
use Rattle.machine.specs.declared.machine.Machine.{Machine}
use Rattle.machine.specs.declared.trouble.Trouble.{Trouble}
use Rattle.machine.specs.declared.trouble.Trouble.TheVariants.{Refused, Memory}

abbrev pub lent_of : Machine → Lent
lent_of m =
    lent (vec_items m.table) (vec_items m.segments) (vec_items m.lookers) (vec_items m.frame_counts) (vec_items m.used) (vec_items m.place_counts) (vec_items m.frames)
    (vec_items m.disk)

-- the machine of the written definition
abbrev pub model : Machine → rule.Machine
model m = memory.machine m.manager (cut_lent m.manager.sizes (lent_of m))

-- the answer, and what the machine is then, are those of the definition
pub record Answered (m : Machine) (a : Asked) (answer : Answer) (after : Machine) : Type 0 where
  pub same : after.manager.sizes ≡ m.manager.sizes
  pub served : ◌≡◌ {A = rule.Machine × fold.Answer} (model after, answered answer) (memory.serve (seen_sizes m.manager.sizes) (model m) a)

-- a machine of these sizes as it begins, or why there is none: the sizes are refused, or memory is wanting
abbrev pub Opens : Sizes → Result Machine Trouble → Type 0
Opens z (Ok m) = (m.manager.sizes ≡ z) × (model m ≡ rule.first (seen_sizes z) z.frames z.places)
Opens z (Err (Refused e)) = sizes_refusal z ≡ Some e
Opens z (Err Memory) = Unit {0}
