-- What opening and calling a machine is to the machine of private memories. Assumes nothing.
use Rattle.std.specs.Prelude.{◌≡◌, ◌-◌, Ok, Err, Result}
use Rattle.fold.specs.Fold as fold
use Rattle.requests.specs.Meaning.{Asked, calls, counts, asked, seen_sizes}
use Rattle.requests.specs.declared.answer.Answer.{Answer}
use Rattle.requests.specs.declared.answer.Answer.TheVariants.{Done}
use Rattle.requests.specs.declared.request.Call.{Call}
use Rattle.requests.specs.declared.sizes.Sizes.{Sizes}
use Rattle.private.specs.See.{see, Makes}
use Rattle.private.specs.declared.machine.Machine.{Machine}
use Rattle.private.specs.declared.want.Want.{Want}

-- the world that a machine stands for
abbrev pub world : Machine → fold.World
world m = see m.memory

-- as it begins: process 0, and as many others as there is room for
abbrev pub Opened : Sizes → Machine → Type 0
Opened z m = (m.sizes ≡ z) × (world m ≡ fold.begin (seen_sizes z) (z.processes - 1))

-- a call of the rules, or the counts of the disk, of which this machine has none
abbrev pub Served : Sizes → Asked → fold.World → Result Answer Want → fold.World → Type 0
Served z (calls k) w r w' = Makes z k w r w'
Served z counts w (Ok a) w' = (w' ≡ w) × (a ≡ Done 0)
Served z counts w (Err e) w' = ⊥

abbrev pub Called : Machine → Call → Result Answer Want → Machine → Type 0
Called m c r m' = (m'.sizes ≡ m.sizes) × Served m.sizes (asked c) (world m) r (world m')
