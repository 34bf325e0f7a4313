use Rattle.std.proofs.Common.{vec_items, sym, ◌∙◌, rules, tests}
use Rattle.std.proofs.lemmas.Bool.{cond-true}
use Rattle.std.proofs.lemmas.Iterator.{YieldsList-from_slice}
use Rattle.std.proofs.lemmas.Iterator.Consumers.{YieldsList-from_filter, count_from_yields_List}
use Rattle.private.proofs.Pages.{is_match, matches_counted, bit_test}
use Rattle.private.proofs.process.Process.count.Goals as goal

pub returns : goal.returns
returns c =
    let k = c.args.sought in
    let pages = vec_items c.args.self.now.pages in
    count_from_yields_List c.filter.result c.count.result c.count.ensures.ran
    (YieldsList-from_filter _ (is_match k) (YieldsList-from_slice pages cc) c.filter.ensures.closure (λ x b q h. search (rules, tests, bit_test)))
    ∙ sym (matches_counted k pages)
    ∙ sym (cond-true c.args.self.now.alive _ _ c.if-not-self.false)
