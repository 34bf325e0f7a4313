-- What the calls, answers and sizes of the code mean to the machine of private memories. Assumes nothing.
use Rattle.std.specs.Prelude.{◌+◌}
use Rattle.fold.specs.Fold as fold
use Rattle.requests.specs.declared.request.Call.{Call}
use Rattle.requests.specs.declared.request.Call.TheVariants.{Fork, Leave, Map, Drop, Make, Look, Load, Store, Counts}
use Rattle.requests.specs.declared.answer.Answer.{Answer}
use Rattle.requests.specs.declared.answer.Answer.TheVariants.{Done, Fault, Full}
use Rattle.requests.specs.declared.sizes.Sizes.{Sizes}

-- A call of the code asks for a call of the machine, or for the counts of reads and writes of the disk.
pub data Asked : Type 0 where
  calls : fold.Call → Asked
  counts : Asked

abbrev pub asked : Call → Asked
asked (Fork p) = calls (fold.fork p)
asked (Leave p) = calls (fold.leave p)
asked (Map p v) = calls (fold.map p v)
asked (Drop p v) = calls (fold.drop p v)
asked (Make p v) = calls (fold.make p v)
asked (Look p v q u) = calls (fold.look p v q u)
asked (Load p v o) = calls (fold.load p v o)
asked (Store p v o x) = calls (fold.store p v o x)
asked Counts = counts

abbrev pub answered : Answer → fold.Answer
answered (Done n) = fold.done n
answered Fault = fold.fault
answered Full = fold.full

-- a page has 256 bytes, and what frames and disk hold together is what counts
abbrev pub seen_sizes : Sizes → fold.Sizes
seen_sizes z =
    record { words = 256; pages = z.pages; processes = z.processes; segments = z.segments; hold = z.frames + z.places }
