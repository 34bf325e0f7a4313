use Rattle.std.proofs.Common.{◌≤◌, false, length, take, sym, ◌∙◌, arith}
use Rattle.std.proofs.lemmas.List.{get_or-take, get_or_past, length-take}
use Rattle.std.proofs.lemmas.Bool.{ltb-true, le-ltb}
use Rattle.calls.proofs.manager.Manager.is_alive.Goals as goal

pub returns-then-process-self : goal.returns-then-process-self
returns-then-process-self c =
    record { value = sym (get_or-take c.args.self.sizes.processes c.args.self.alive c.args.process false (omega arith)); within = λ _. omega arith }

pub returns-else-process-self : goal.returns-else-process-self
returns-else-process-self c =
    let past : length (take c.args.self.sizes.processes c.args.self.alive) ≤ c.args.process = simp length-take (omega arith) in
    record {
      value = le-ltb c.args.process c.args.self.sizes.processes (omega arith) ∙ sym (get_or_past _ c.args.process false past);
      within = λ e. ltb-true c.args.process c.args.self.sizes.processes e;
    }
