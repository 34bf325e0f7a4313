use Rattle.std.proofs.Common.{vec_items, leb, sym, ◌∙◌, ap, arith, rules, tests}
use Rattle.std.proofs.lemmas.Iterator.{YieldsList-from_range}
use Rattle.std.proofs.lemmas.Iterator.Consumers.{YieldsList-from_filter, count_from_yields_List}
use Rattle.std.proofs.lemmas.List.{length-map}
use Rattle.std.proofs.lemmas.List.Sums.{length-filter}
use Rattle.std.specs.List.{range_with_len}
use Rattle.fold.specs.Fold.{segments_from, lookers}
use Rattle.private.specs.See.{see}
use Rattle.private.proofs.Worlds.{segments_counted}
use Rattle.private.proofs.memory.Memory.held_segments.Goals as goal

pub returns : goal.returns
unfolding lookers
returns c =
    let m = c.args.self.now in
    let w = see m in
    let n = c.len.result in
    count_from_yields_List c.filter.result c.count.result c.count.ensures.ran
    (YieldsList-from_filter _ (λ s. leb 1 (lookers w s)) (YieldsList-from_range 0 n n (cc) (omega arith)) c.filter.ensures.closure (λ x b q h. search (rules, tests)))
    ∙ length-filter (λ s. leb 1 (lookers w s)) (range_with_len 0 n)
    ∙ segments_counted w n
    ∙ ap (segments_from w) (c.len.ensures ∙ m.segments.ok.0 ∙ sym (length-map (vec_items m.segments) vec_items))
