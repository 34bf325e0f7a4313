use Rattle.std.proofs.Common.{◌≡◌, ◌-◌, ◌++◌, string_bytes}
use Rattle.requests.specs.Meaning.{seen_sizes}
use Rattle.calls.specs.Memory.{serve}
use Rattle.machine.specs.Owned.{model}
use Rattle.rows.specs.Played.{lines_from}
use Rattle.rows.proofs.served.Given as goal

-- what is written and what the rest of the row will write are all
abbrev pub invariant-loop-i : goal.invariant-loop-i
invariant-loop-i l =
    (string_bytes l.text ++ lines_from (serve (seen_sizes l.initial.machine.manager.sizes)) l.calls (model l.machine) (l.count - l.i) l.i
    ≡ lines_from (serve (seen_sizes l.initial.machine.manager.sizes)) l.calls (model l.initial.machine) l.count 0)
    × (l.machine.manager.sizes ≡ l.initial.machine.manager.sizes)
