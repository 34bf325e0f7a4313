use Rattle.std.proofs.Common.{◌≡◌, None, rules, tests}
use Rattle.std.specs.Bool.{then_some}
use Rattle.private.proofs.Worlds.{living_found, match_weaker}
use Rattle.private.proofs.memory.Memory.living.Goals as goal

pub returns : goal.returns
returns c =
    living_found c.args.self.now c.args.process _ c.deref.ensures.value _ c.get.ensures.lookup _
    (match_weaker c.get.result (c.filter.result ≡ None) _ (λ x. c.filter.result ≡ then_some x.now.alive x) (λ x h. search (rules, tests)) c.filter.ensures)
