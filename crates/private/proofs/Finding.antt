-- The lowest process or segment that is free, as a search along their list finds it.
use Rattle.std.proofs.Common.{◌≡◌, ℕ, suc, ◌+◌, ◌≤◌, Bool, true, false, not, cond, eqb, ltb, leb, List, [], ◌∷◌, map, length, Option, Some, None, sym, refl, ap, ◌∙◌, inl, inr, add-one, arith}
use Rattle.std.specs.List.{position_or_len, range_with_len}
use Rattle.std.proofs.lemmas.Bool.{lt-ltb, le-ltb, lt-leb, le-leb, eq-eqb, ne_eqb, cases_lt}
use Rattle.std.proofs.lemmas.List.{length-map}
use Rattle.std.proofs.lemmas.List.FromFn.{length-range_with_len}
use Rattle.std.proofs.lemmas.List.Sums.{prefix_len-le-length}
use Rattle.fold.specs.Fold as fold
use Rattle.fold.specs.Fold.{first_free, first_segment, lookers}
use Rattle.private.specs.See.{FoundAt}
use Rattle.private.specs.SeePage.{see_process}
use Rattle.private.specs.declared.process.Process.{Process}

-- a search along a list of n
found_at : (place n : ℕ) (r : Option ℕ) → place ≤ n → r ≡ cond (ltb place n) (Some place) None → FoundAt place n r
found_at place n r h e =
    elim (cases_lt place n) [
      | inl less ↦ rw (e, lt-ltb place n less) (refl, less)
      | inr most ↦ rw (e, le-ltb place n most) (omega arith)
    ]

cond_not : (b : Bool) (n : ℕ) → cond (not (not b)) (1 + n) 0 ≡ cond b (suc n) 0
cond_not true n = omega arith
cond_not false n = refl

free_position : (qs : List Process) → position_or_len (λ (q : Process). not q.alive) qs ≡ first_free (map see_process qs)
unfolding first_free
free_position [] = refl
free_position (q ∷ qs) = cond_not q.alive (position_or_len (λ (y : Process). not y.alive) qs) ∙ ap (λ n. cond q.alive (suc n) 0) (free_position qs)

pub process_found : (qs : List Process) (r : Option ℕ) → r ≡ cond (ltb (position_or_len (λ (q : Process). not q.alive) qs) (length qs)) (Some (position_or_len (λ (q : Process). not q.alive) qs)) None → FoundAt (first_free (map see_process qs)) (length (map see_process qs)) r
process_found qs r e =
    rw (length-map, ← free_position qs)
    (found_at (position_or_len (λ (q : Process). not q.alive) qs) (length qs) r (prefix_len-le-length _ qs) e)

seen_or_not : (n : ℕ) → leb 1 n ≡ not (eqb n 0)
seen_or_not n =
    elim (cases_lt n 1) [
      | inl less ↦ lt-leb 1 n less ∙ sym (ap not (eq-eqb n 0 (omega arith)))
      | inr most ↦ le-leb 1 n most ∙ sym (ap not (ne_eqb n 0 (λ z. omega arith)))
    ]

cond_thrice : (b : Bool) (n : ℕ) → cond (not (not (not b))) (1 + n) 0 ≡ cond b 0 (suc n)
cond_thrice true n = refl
cond_thrice false n = omega arith

segment_position : (w : fold.World) (i : ℕ) (ss : List (List ℕ)) → position_or_len (λ s. not (leb 1 (lookers w s))) (range_with_len i (length ss)) ≡ first_segment w i ss
unfolding first_segment
segment_position w i [] = refl
segment_position w i (s ∷ ss) =
    let rest = position_or_len (λ k. not (leb 1 (lookers w k))) (range_with_len (i + 1) (length ss)) in
    ap (λ b. cond (not (not b)) (1 + rest) 0) (seen_or_not (lookers w i))
    ∙ cond_thrice (eqb (lookers w i) 0) rest
    ∙ ap (λ n. cond (eqb (lookers w i) 0) 0 (suc n)) (segment_position w (i + 1) ss ∙ ap (λ k. first_segment w k ss) (add-one i))

pub segment_found : (w : fold.World) (n : ℕ) (r : Option ℕ) → length w.segments ≡ n → r ≡ cond (ltb (position_or_len (λ s. not (leb 1 (lookers w s))) (range_with_len 0 n)) (length (range_with_len 0 n))) (Some (position_or_len (λ s. not (leb 1 (lookers w s))) (range_with_len 0 n))) None → FoundAt (first_segment w 0 w.segments) (length w.segments) r
segment_found w n r h e =
    rw (← segment_position w 0 w.segments, h)
    (found_at (position_or_len (λ s. not (leb 1 (lookers w s))) (range_with_len 0 n)) n r
    (rw length-range_with_len at (prefix_len-le-length (λ s. not (not (leb 1 (lookers w s)))) (range_with_len 0 n)))
    (rw length-range_with_len at e))
