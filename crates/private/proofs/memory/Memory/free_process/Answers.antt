use Rattle.std.proofs.Common.{not, vec_items, rules, tests}
use Rattle.std.proofs.lemmas.Iterator.{YieldsList-from_slice}
use Rattle.std.proofs.lemmas.Iterator.Search.{position_from_yields_List}
use Rattle.private.specs.declared.process.Process.{Process}
use Rattle.private.proofs.Finding.{process_found}
use Rattle.private.proofs.memory.Memory.free_process.Goals as goal

pub returns : goal.returns
returns c =
    let processes = vec_items c.args.self.now.processes in
    process_found processes c.position.result
    (position_from_yields_List (λ (q : Process). not q.alive) _ _ _ c.position.ensures.ran (YieldsList-from_slice processes cc) (λ x b q h. search (rules, tests)))
