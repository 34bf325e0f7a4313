use Rattle.std.proofs.Common.{not, leb, vec_items, rules, tests, arith, sym, ◌∙◌}
use Rattle.std.proofs.lemmas.Iterator.{YieldsList-from_range}
use Rattle.std.proofs.lemmas.Iterator.Search.{position_from_yields_List}
use Rattle.std.proofs.lemmas.List.{length-map}
use Rattle.fold.specs.Fold.{lookers}
use Rattle.private.specs.See.{see}
use Rattle.private.proofs.Finding.{segment_found}
use Rattle.private.proofs.memory.Memory.free_segment.Goals as goal

pub returns : goal.returns
unfolding lookers
returns c =
    let m = c.args.self.now in
    let w = see m in
    let n = c.len.result in
    segment_found w n c.position.result (sym (c.len.ensures ∙ m.segments.ok.0 ∙ sym (length-map (vec_items m.segments) vec_items)))
    (position_from_yields_List (λ s. not (leb 1 (lookers w s))) _ _ _ c.position.ensures.ran (YieldsList-from_range 0 n n (cc) (omega arith)) (λ x b q h. search (rules, tests)))
