use Rattle.disk.specs.Memory.{fixed, state_of}
use Rattle.std.proofs.Common.{◌≡◌}
use Rattle.calls.specs.Pages.{raised_row}
use Rattle.calls.proofs.family.raise_row.Given as goal

abbrev pub invariant-loop-page : goal.invariant-loop-page
invariant-loop-page l =
    record {
      fixed : fixed l.memory ≡ fixed l.initial.memory;
      raised : state_of l.memory ≡ raised_row (state_of l.initial.memory) l.process l.page;
    }
