-- A segment cannot be made exactly where every segment is looked at or nothing is free.
use Rattle.std.proofs.Common.{◌≡◌, ℕ, ◌⊎◌, Some, None, Option, sym, refl, ap, ◌∙◌, inl, inr}
use Rattle.frames.specs.Counts.{lowest_free}
use Rattle.lookaside.proofs.Options.{none≢some}
use Rattle.disk.specs.declared.registers.Taken.{Taken}
use Rattle.disk.specs.Whole.{Choice, Whole, take_frame, taken_by}
use Rattle.disk.proofs.Taking.{none_only_if_full}
use Rattle.copies.specs.Laws.{UsedUp}
use Rattle.segments.specs.Make.{made_by, make_of, make_segment}
use Rattle.segments.specs.Full.{MakeFullExactly}

module _ (choose : Choice) (frames : ℕ) (w : Whole) (p v : ℕ) where
  not_made : (u : Whole) (s : ℕ) (t : Option Taken) → (made_by frames u p v s t).1 ≡ None → (t ≡ None) × ((made_by frames u p v s t).0 ≡ u)
  not_made u s None e = (refl, refl)
  not_made u s (Some t) e = absurd (none≢some _ (sym e))

  only : (a : Option ℕ) → (make_of choose frames w p v a).1 ≡ None → ((a ≡ None) ⊎ UsedUp frames w) × ((make_of choose frames w p v a).0 ≡ w)
  only None e = (inl refl, refl)
  only (Some s) e =
      let n = not_made (take_frame choose frames w).0 s (take_frame choose frames w).1 e in
      let l = none_only_if_full choose frames w n.0 in (inr (record { frame = l.frame; place = l.place }), n.1 ∙ l.same)

  used_up : UsedUp frames w → (a : Option ℕ) → make_of choose frames w p v a ≡ (w, None)
  unfolding take_frame
  used_up u None = refl
  used_up u (Some s) =
      let none : take_frame choose frames w ≡ (w, None) = (λ i. taken_by choose frames w (u.frame i) (u.place i)) in
      ap (λ (q : Whole × Option Taken). made_by frames q.0 p v s q.1) none

pub make_full_exactly : MakeFullExactly
unfolding make_segment
make_full_exactly choose frames w p v =
    record {
      only = only choose frames w p v (lowest_free w.state.lookers);
      then = λ r. elim r [ inl e ↦ ap (make_of choose frames w p v) e | inr u ↦ used_up choose frames w p v u (lowest_free w.state.lookers) ];
    }
