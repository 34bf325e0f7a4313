use Rattle.std.proofs.Common.{eqb, sym, Some, ap, ◌∙◌, rules, tests, arith}
use Rattle.std.proofs.lemmas.Iterator.{YieldsList-from_slice}
use Rattle.std.proofs.lemmas.Iterator.Search.{position_from_yields_List}
use Rattle.frames.proofs.Lowest.{lowest_position}
use Rattle.frames.proofs.counts.lowest_free.Goals as goal

pub returns-clause-value : goal.returns-clause-value
returns-clause-value c =
    let counts = c.args.counts.now in
    ap Some (omega arith) ∙ sym c.in_ok-lowest.was ∙ position_from_yields_List (λ x. eqb x 0) _ _ _ c.position.ensures.ran (YieldsList-from_slice counts cc) (λ x b q k. search (rules, tests)) ∙ lowest_position counts

pub returns-in_err-lowest-clause-value : goal.returns-in_err-lowest-clause-value
returns-in_err-lowest-clause-value c =
    let counts = c.args.counts.now in
    c.from_residual.ensures ∙ sym c.in_err-lowest.was ∙ position_from_yields_List (λ x. eqb x 0) _ _ _ c.position.ensures.ran (YieldsList-from_slice counts cc) (λ x b q k. search (rules, tests)) ∙ lowest_position counts
