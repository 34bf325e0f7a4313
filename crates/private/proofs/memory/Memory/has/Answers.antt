use Rattle.std.proofs.Common.{◌-◌, ◌^◌, vec_items, arith, rules, tests}
use Rattle.std.proofs.lemmas.Iterator.{YieldsList-from_slice}
use Rattle.std.proofs.lemmas.Iterator.Consumers.{fold_from_yields_List}
use Rattle.private.proofs.Worlds.{saturated, saturates, same_test}
use Rattle.private.proofs.memory.Memory.has.Goals as goal

pub returns : goal.returns
returns c =
    let k = c.args.sought in
    let processes = vec_items c.args.self.now.processes in
    let counted = fold_from_yields_List _ (saturated k) 0 c.fold-count.result c.fold-count.ensures.ran (YieldsList-from_slice processes cc) (λ a x b q h. search (rules, tests)) in
    same_test c.args.wanted c.fold-count.result _ (2 ^ 64 - 1) (omega arith) (omega (arith, counted, saturates k 0 processes (omega arith)))
