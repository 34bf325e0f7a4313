-- Sizes that are not refused are in range.
use Rattle.std.proofs.Common.{◌≡◌, ℕ, ◌&&◌, leb, List, [], ◌∷◌, None, sym, ◌∙◌, inl, inr, arith}
use Rattle.std.proofs.lemmas.Bool.{and_parts, cases_Bool, cond-false, cond-true, leb-true}
use Rattle.requests.specs.Ranges.{InRange, Ranged, out_of_range}

pub in_range : (ss : List Ranged) → out_of_range ss ≡ None → InRange ss
in_range [] e = tt
in_range (s ∷ ss) e =
    elim (cases_Bool (leb s.2 s.1 && leb s.1 s.3)) [
      | inl t ↦ (let h = and_parts _ _ t in (leb-true s.2 s.1 h.0, leb-true s.1 s.3 h.1, in_range ss (sym (cond-true _ _ _ t) ∙ e)))
      | inr f ↦ absurd (let no : ◌≡◌ {A = ℕ} 0 1 = cc (sym e ∙ cond-false _ _ _ f) in omega arith)
    ]
