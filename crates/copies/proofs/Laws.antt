-- A store that has to copy is full exactly where nothing is free, and every store says whether it copied.
use Rattle.std.proofs.Common.{◌≡◌, ℕ, true, false, Some, None, Option, sym, refl, ap, ◌∙◌, inl, inr}
use Rattle.std.proofs.lemmas.Bool.{cases_Bool, cond-true, cond-false}
use Rattle.tables.specs.Cells.{Held, nothing, zeros, at, segment}
use Rattle.lookaside.proofs.Options.{none≢some, some_same}
use Rattle.disk.specs.declared.registers.Taken.{Taken}
use Rattle.disk.specs.Whole.{Choice, Whole, take_frame, taken_by}
use Rattle.disk.proofs.Taking.{none_only_if_full}
use Rattle.copies.specs.declared.anew.Written.{Written}
use Rattle.copies.specs.Anew.{written_by, stored_anew}
use Rattle.copies.specs.Own.{alone_by, own_holds, stored_own}
use Rattle.copies.specs.Laws.{copies_first, UsedUp, FullWhenUsedUp, SaysCopied}

module _ (choose : Choice) (frames : ℕ) (w : Whole) (p v o b : ℕ) where
  copying : copies_first w p v ≡ true → stored_own choose frames w p v o b ≡ stored_anew choose frames w p v o b
  unfolding stored_own
  copying e = cond-true _ _ _ e

  alone : copies_first w p v ≡ false → stored_own choose frames w p v o b ≡ alone_by choose frames w p v o b (own_holds w p v)
  unfolding stored_own
  alone e = cond-false _ _ _ e

  -- no frame was given, so nothing was written
  not_written : (u : Whole) (t : Option Taken) → (written_by frames u p v o b t).1 ≡ None → (t ≡ None) × ((written_by frames u p v o b t).0 ≡ u)
  not_written u None e = (refl, refl)
  not_written u (Some t) e = absurd (none≢some _ (sym e))

  full_only : (stored_anew choose frames w p v o b).1 ≡ None → UsedUp frames w × ((stored_anew choose frames w p v o b).0 ≡ w)
  unfolding stored_anew
  full_only e =
      let n = not_written (take_frame choose frames w).0 (take_frame choose frames w).1 e in
      let l = none_only_if_full choose frames w n.0 in (record { frame = l.frame; place = l.place }, n.1 ∙ l.same)

  full_then : UsedUp frames w → stored_anew choose frames w p v o b ≡ (w, None)
  unfolding stored_anew take_frame
  full_then u =
      let none : take_frame choose frames w ≡ (w, None) = (λ i. taken_by choose frames w (u.frame i) (u.place i)) in
      ap (λ (q : Whole × Option Taken). written_by frames q.0 p v o b q.1) none

  -- what was written says that it was copied
  says_written : (u : Whole) (t : Option Taken) (r : Written) → (written_by frames u p v o b t).1 ≡ Some r → r.copied ≡ true
  says_written u None r e = absurd (none≢some r e)
  says_written u (Some t) r e = ap (λ (s : Written). s.copied) (sym (some_same e))

  says_alone : (h : Held) (r : Written) → (alone_by choose frames w p v o b h).1 ≡ Some r → r.copied ≡ false
  says_alone nothing r e = absurd (none≢some r e)
  says_alone zeros r e = absurd (none≢some r e)
  says_alone (segment s) r e = absurd (none≢some r e)
  says_alone (at x) r e = ap (λ (s : Written). s.copied) (sym (some_same e))

pub full_when_used_up : FullWhenUsedUp
full_when_used_up choose frames w p v o b e =
    let c = copying choose frames w p v o b e in
    record {
      only = λ n.
          let f = full_only choose frames w p v o b (ap (λ (q : Whole × Option Written). q.1) (sym c) ∙ n) in (f.0, ap (λ (q : Whole × Option Written). q.0) c ∙ f.1);
      then = λ u. c ∙ full_then choose frames w p v o b u;
    }

pub says_copied : SaysCopied
unfolding stored_anew
says_copied choose frames w p v o b t e =
    elim (cases_Bool (copies_first w p v)) [
      | inl y ↦
          says_written choose frames w p v o b (take_frame choose frames w).0 (take_frame choose frames w).1 t (ap (λ (q : Whole × Option Written). q.1) (sym (copying choose frames w p v o b y)) ∙ e)
          ∙ sym y
      | inr n ↦ says_alone choose frames w p v o b (own_holds w p v) t (ap (λ (q : Whole × Option Written). q.1) (sym (alone choose frames w p v o b n)) ∙ e) ∙ sym n
    ]
