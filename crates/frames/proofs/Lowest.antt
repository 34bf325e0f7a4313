-- The lowest count 0, and what it says of every index.
use Rattle.std.proofs.Common.{◌≡◌, ℕ, ◌+◌, ◌<◌, cond, eqb, ltb, ◌≢◌, List, [], ◌∷◌, length, get_or, Some, None, Option, sym, refl, ap, ◌∙◌, subst, arith, rules, MatchOption}
use Rattle.std.specs.List.{position, position_from, position_or_len}
use Rattle.std.proofs.lemmas.List.Sums.{fails_before_first, passes_at_first}
use Rattle.std.proofs.lemmas.Bool.{cond_both, eqb-true, eqb-false, ltb-true, ltb-false}
use Rattle.std.proofs.lemmas.Iterator.Adapters.{position_from-zero}
use Rattle.frames.specs.Counts.{lowest_from, lowest_free, LowestIsFree, CountsOne}

-- The definition is the first index at which the library's `position` passes.
lowest_position_from : (i : ℕ) (cs : List ℕ) → lowest_from i cs ≡ position_from (λ c. eqb c 0) i cs
unfolding lowest_from
lowest_position_from i [] = refl
lowest_position_from i (c ∷ cs) = ap (cond (eqb c 0) (Some i)) (lowest_position_from (i + 1) cs)

pub lowest_position : (cs : List ℕ) → position (λ c. eqb c 0) cs ≡ lowest_free cs
lowest_position cs = position_from-zero (λ c. eqb c 0) cs ∙ sym (lowest_position_from 0 cs)

-- what is said of the answer r
abbrev Tells : List ℕ → Option ℕ → Type 0
Tells cs r = MatchOption r ((k : ℕ) → k < length cs → get_or cs k 0 ≢ 0) (λ i. (i < length cs) × (get_or cs i 0 ≡ 0) × ((k : ℕ) → k < i → get_or cs k 0 ≢ 0))

pub lowest_is_free : LowestIsFree
lowest_is_free cs =
    let free = λ (c : ℕ). eqb c 0 in
    let first = position_or_len free cs in
    let full : (k : ℕ) → k < first → get_or cs k 0 ≢ 0 = λ k l. eqb-false (get_or cs k 0) 0 (fails_before_first free cs k 0 l) in
    subst (Tells cs) (lowest_position cs)
    (
    cond_both (ltb first (length cs)) (Some first) None (Tells cs)
    (λ e. let h = ltb-true first (length cs) e in (h, eqb-true (get_or cs first 0) 0 (passes_at_first free cs 0 h), full))
    (λ e k l. let h = ltb-false first (length cs) e in full k (omega arith))
    )

pub counts_one : CountsOne
counts_one = search rules
