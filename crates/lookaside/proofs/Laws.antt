-- The laws of the look-aside table, from its definitions.
use Rattle.std.proofs.Common.{◌≡◌, ℕ, ◌<◌, true, List, length, get_or, Some, None, Option, sym, refl, ap, ◌∙◌, inl, inr, arith}
use Rattle.std.proofs.lemmas.List.{get_or-map, get_or_past, length-map, get_or-set_same, get_or-set_other}
use Rattle.std.proofs.lemmas.Bool.{cases_lt, cases_Bool, cond-true, cond-false, and_from, eq-eqb, lt-ltb}
use Rattle.tables.specs.Cells.{Cell}
use Rattle.lookaside.specs.declared.slots.Slot.{Slot}
use Rattle.lookaside.specs.Laws.{PurgedIsTrue, TrueIsKept, PutIsFound, OthersStay}
use Rattle.lookaside.specs.Purge.{kept_slot, purged, true_slot}
use Rattle.lookaside.specs.Slots.{hit, slot_of}
use Rattle.lookaside.proofs.Options.{none≢some, some_same}

module _ (rows : List (List Cell)) (segments : List Cell) (counts : List ℕ) (frames : ℕ) where
  -- a purge, slot by slot
  purged_at : (slots : List (Option Slot)) (i : ℕ) → get_or (purged rows segments counts frames slots) i None ≡ kept_slot rows segments counts frames (get_or slots i None)
  purged_at slots i =
      elim (cases_lt i (length slots)) [
        | inl h ↦ get_or-map (kept_slot rows segments counts frames) slots i None None h
        | inr h ↦
            get_or_past _ i None (omega (arith, length-map slots (kept_slot rows segments counts frames))) ∙ sym (ap (kept_slot rows segments counts frames) (get_or_past slots i None h))
      ]

  kept_is_true : (o : Option Slot) (s : Slot) → kept_slot rows segments counts frames o ≡ Some s → true_slot rows segments counts frames s ≡ true
  kept_is_true None s e = absurd (none≢some s e)
  kept_is_true (Some t) s e =
      elim (cases_Bool (true_slot rows segments counts frames t)) [
        | inl y ↦ ap (true_slot rows segments counts frames) (sym (some_same (sym (cond-true _ (Some t) None y) ∙ e))) ∙ y
        | inr n ↦ absurd (none≢some s (sym (cond-false _ (Some t) None n) ∙ e))
      ]

pub purged_is_true : PurgedIsTrue
purged_is_true rows segments counts frames slots i s e = kept_is_true rows segments counts frames (get_or slots i None) s (sym (purged_at rows segments counts frames slots i) ∙ e)

pub true_is_kept : TrueIsKept
true_is_kept rows segments counts frames slots i s e y =
    purged_at rows segments counts frames slots i ∙ ap (kept_slot rows segments counts frames) e ∙ cond-true _ (Some s) None y

pub put_is_found : PutIsFound
put_is_found slots frames s e h =
    let here : slot_of s.process s.page < length slots = omega arith in
    ap (hit frames s.process s.page) (get_or-set_same slots (slot_of s.process s.page) (Some s) None here)
    ∙ cond-true _ (Some s) None (and_from _ _ (and_from _ _ (eq-eqb s.process s.process refl) (eq-eqb s.page s.page refl)) (lt-ltb s.frame frames h))

pub others_stay : OthersStay
others_stay slots frames p v s n = ap (hit frames p v) (get_or-set_other slots (slot_of s.process s.page) (slot_of p v) (Some s) None n)
