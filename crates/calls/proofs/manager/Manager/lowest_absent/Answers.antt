use Rattle.std.proofs.Common.{not, take, ◌∙◌, rules}
use Rattle.std.proofs.lemmas.Iterator.{YieldsList-from_slice}
use Rattle.std.proofs.lemmas.Iterator.Search.{position_from_yields_List}
use Rattle.calls.proofs.Absent.{absent_position}
use Rattle.calls.proofs.manager.Manager.lowest_absent.Goals as goal

pub returns-clause-value : goal.returns-clause-value
returns-clause-value c =
    let there = take c.args.self.sizes.processes c.args.self.alive in
    position_from_yields_List not _ _ _ c.position.ensures.ran (YieldsList-from_slice there c.iter.ensures.rest) (λ x b q k. search rules) ∙ absent_position there
