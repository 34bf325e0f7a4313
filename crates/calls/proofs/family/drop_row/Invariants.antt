use Rattle.disk.specs.Memory.{fixed, state_of}
use Rattle.std.proofs.Common.{◌≡◌}
use Rattle.calls.specs.Pages.{dropped_row}
use Rattle.calls.proofs.family.drop_row.Given as goal

abbrev pub invariant-loop-page : goal.invariant-loop-page
invariant-loop-page l =
    record {
      fixed : fixed l.memory ≡ fixed l.initial.memory;
      dropped : state_of l.memory ≡ dropped_row (state_of l.initial.memory) l.process l.page;
    }
