-- The hand, one look at a time.
use Rattle.std.proofs.Common.{◌≡◌, ℕ, zero, suc, ◌+◌, ◌-◌, ◌<◌, ◌≤◌, ltb, ◌≢◌, ◌⊎◌, List, length, get_or, set, sym, refl, ap, ◌∙◌, subst, inl, inr, add-zero, suc-add, zero-add, arith}
use Rattle.std.proofs.lemmas.List.{get_or-set_same, get_or-set_other, length-set}
use Rattle.std.proofs.lemmas.Bool.{cond-true, cond-false, cond_both, eq-eqb, ne_eqb, ltb-true, lt-ltb, le-ltb, cases_eq}
use Rattle.std.proofs.lemmas.Bool.Decides.{nat_tests}
use Rattle.std.proofs.lemmas.Grind.{common_steps}
use Rattle.frames.specs.Turn.{Turned, taken, turn_from, next_frame, frame_after, start, turn, HandGoesRound}

module _ (n : ℕ) (f k : ℕ) (used : List ℕ) where
  pub turn_takes : (more : ℕ) → get_or used f 0 ≡ 0 → turn_from n more f k used ≡ taken n f k used
  unfolding turn_from
  turn_takes zero e = refl
  turn_takes (suc more) e = cond-true _ _ _ (eq-eqb _ 0 e)

  pub turn_passes : (more : ℕ) → 0 < more → get_or used f 0 ≢ 0 → turn_from n more f k used ≡ turn_from n (more - 1) (next_frame n f) (k + 1) (set used f 0)
  unfolding turn_from
  turn_passes zero h e = absurd (omega arith)
  turn_passes (suc more) h e = cond-false _ _ _ (ne_eqb _ 0 e) ∙ ap (λ m. turn_from n m (next_frame n f) (k + 1) (set used f 0)) (let s : more ≡ suc more - 1 = omega arith in s)

  pub turn_ends : (more : ℕ) → more ≡ 0 → turn_from n more f k used ≡ taken n f k used
  unfolding turn_from
  turn_ends more e = ap (λ m. turn_from n m f k used) e

next_within : (n f : ℕ) → 0 < n → next_frame n f < n
next_within n f h = grind (arith, nat_tests)

-- marks are only cleared, so what is not set stays so
still_clear : (used : List ℕ) (f g : ℕ) → get_or used g 0 ≡ 0 → get_or (set used f 0) g 0 ≡ 0
still_clear used f g e = grind (arith, common_steps)

-- a turn from frame f that may pass so many, by the number p of frames that it passed
record Went (n more f k : ℕ) (used : List ℕ) (r : Turned) : Type 0 where
  p : ℕ
  few : p ≤ more
  looks : r.looks ≡ k + p + 1
  frame : r.frame ≡ frame_after n f p
  within : r.frame < n
  passed : (j : ℕ) → j < p → get_or used (frame_after n f j) 0 ≢ 0
  cleared : (j : ℕ) → j < p → get_or r.used (frame_after n f j) 0 ≡ 0
  kept : (g : ℕ) → ((j : ℕ) → j < p → frame_after n f j ≢ g) → get_or r.used g 0 ≡ get_or used g 0
  falls : (g : ℕ) → get_or used g 0 ≡ 0 → get_or r.used g 0 ≡ 0
  stopped : (p ≡ more) ⊎ (get_or r.used r.frame 0 ≡ 0)

took_at_once : (n more f k : ℕ) (used : List ℕ) → f < n → (0 ≡ more) ⊎ (get_or used f 0 ≡ 0) → Went n more f k used (taken n f k used)
unfolding frame_after
took_at_once n more f k used h s =
    record {
      p = 0;
      few = omega arith;
      looks = omega arith;
      frame = refl;
      within = h;
      passed = λ j l. absurd (omega arith);
      cleared = λ j l. absurd (omega arith);
      kept = λ g _. refl;
      falls = λ g e. e;
      stopped = s;
    }

went_on : (n more f k : ℕ) (used : List ℕ) (r : Turned) → f < n → length used ≡ n → get_or used f 0 ≢ 0 → Went n more (next_frame n f) (k + 1) (set used f 0) r → Went n (suc more) f k used r
unfolding frame_after
went_on n more f k used r h e m w =
    let here : get_or r.used f 0 ≡ 0 = w.falls f (get_or-set_same used f 0 0 (omega arith)) in
    record {
      p = suc w.p;
      few = omega (arith, w.few);
      looks = omega (arith, w.looks);
      frame = w.frame;
      within = w.within;
      passed = before;
      cleared = after here;
      kept = λ g other.
          w.kept g (λ j l. other (suc j) (omega arith)) ∙ get_or-set_other used f g 0 0 (λ s. other 0 (omega arith) (sym s));
      falls = λ g z. w.falls g (still_clear used f g z);
      stopped = elim w.stopped [ inl s ↦ inl (ap suc s) | inr s ↦ inr s ];
    }
  where
    before : (j : ℕ) → j < suc w.p → get_or used (frame_after n f j) 0 ≢ 0
    before zero l z = m z
    before (suc j) l z = w.passed j (omega arith) (still_clear used f (frame_after n (next_frame n f) j) z)

    after : get_or r.used f 0 ≡ 0 → (j : ℕ) → j < suc w.p → get_or r.used (frame_after n f j) 0 ≡ 0
    after here zero l = here
    after here (suc j) l = w.cleared j (omega arith)

went : (n more f k : ℕ) (used : List ℕ) → f < n → length used ≡ n → Went n more f k used (turn_from n more f k used)
unfolding turn_from
went n zero f k used h e = took_at_once n zero f k used h (inl refl)
went n (suc more) f k used h e =
    elim (cases_eq (get_or used f 0) 0) [
      | inl z ↦ subst (Went n (suc more) f k used) (sym (turn_takes n f k used (suc more) z)) (took_at_once n (suc more) f k used h (inr z))
      | inr m ↦
          subst (Went n (suc more) f k used) (sym (cond-false _ _ _ (ne_eqb _ 0 m)))
          (went_on n more f k used _ h e m (went n more (next_frame n f) (k + 1) (set used f 0) (next_within n f (omega arith)) (length-set used f 0 ∙ e)))
    ]

-- a whole round comes back to where it began
after_add : (n f a b : ℕ) → frame_after n f (a + b) ≡ frame_after n (frame_after n f a) b
unfolding frame_after
after_add n f zero b = ap (frame_after n f) (zero-add b)
after_add n f (suc a) b = ap (frame_after n f) (suc-add a b) ∙ after_add n (next_frame n f) a b

after_straight : (n f j : ℕ) → f + j < n → frame_after n f j ≡ f + j
unfolding frame_after
after_straight n f zero h = sym (add-zero f)
after_straight n f (suc j) h =
    let on : next_frame n f ≡ f + 1 = cond-true _ _ _ (lt-ltb (f + 1) n (omega arith)) in
    ap (λ g. frame_after n g j) on ∙ after_straight n (f + 1) j (omega arith) ∙ (let s : f + 1 + j ≡ f + suc j = omega arith in s)

after_round : (n f : ℕ) → f < n → frame_after n f n ≡ f
unfolding frame_after
after_round n f h =
    let parts : n ≡ (n - f - 1) + suc f = omega arith in
    let last : frame_after n f (n - f - 1) ≡ n - 1 = after_straight n f (n - f - 1) (omega arith) ∙ (let s : f + (n - f - 1) ≡ n - 1 = omega arith in s) in
    let wraps : next_frame n (n - 1) ≡ 0 = cond-false _ _ _ (le-ltb (n - 1 + 1) n (omega arith)) in
    ap (frame_after n f) parts ∙ after_add n f (n - f - 1) (suc f) ∙ ap (λ g. frame_after n g (suc f)) last ∙ ap (λ g. frame_after n g f) wraps
    ∙ after_straight n 0 f (omega arith) ∙ zero-add f

pub hand_goes_round : HandGoesRound
unfolding frame_after
hand_goes_round at used h =
    let n = length used in
    let f = start n at in
    let within : f < n = cond_both (ltb at n) at 0 (λ m. m < n) (λ e. ltb-true at n e) (λ _. h) in
    let r = turn n at used in
    let w : Went n n f 0 used r = went n n f 0 used within refl in
    let p-is : r.looks - 1 ≡ w.p = omega (arith, w.looks) in
    record {
      some = omega (arith, w.looks);
      few = omega (arith, w.looks, w.few);
      taken = w.frame ∙ ap (frame_after n f) (sym p-is);
      within = w.within;
      unmarked =
          elim w.stopped
          [ inl s ↦ ap (λ g. get_or r.used g 0) (w.frame ∙ ap (frame_after n f) s ∙ after_round n f within) ∙ w.cleared 0 (omega arith) | inr s ↦ s ];
      passed = λ j l. w.passed j (omega arith);
      cleared = λ j l. w.cleared j (omega arith);
      kept = λ g other. w.kept g (λ j l. other j (omega arith));
    }
