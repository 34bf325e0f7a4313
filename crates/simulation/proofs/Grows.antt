-- How much has to be held after a store, in the machine of private memories: one page more where it had to copy, else as much as before. And when a
-- store and a make are full.
use Rattle.std.proofs.Common.{◌≡◌, ℕ, zero, suc, ◌+◌, ◌<◌, ◌≤◌, Bool, true, false, cond, not, ◌&&◌, ◌||◌, eqb, leb, ◌≢◌, ◌⊎◌, List, [], ◌∷◌, length, get_or, set, sym, refl, ap, ◌∙◌, subst, inl, inr, arith}
use Rattle.std.proofs.lemmas.List.Sums.{sum_by-cons}
use Rattle.std.proofs.lemmas.Bool.{and_from, cases_eq, cond-true, cond-false, eq-eqb, le-ltb, leb-false, leb-true, lt-leb, lt-ltb, ne_eqb, not_from_false, or_from, or_left, or_right}
use Rattle.fold.specs.Fold.{Page, Process, Sizes, World, Answer, absent, own, process, page, is_own, is_seen, over_all, users, lookers, held, with_page, inside, there, stored, call, store, make, first_segment, done, full}
use Rattle.fold.proofs.Count.{one, count, count_cong}
use Rattle.fold.proofs.Held.{held_is, label_held, segment_held}
use Rattle.fold.proofs.Pages.{alive_below}
use Rattle.fold.proofs.Sums.{over_all_changed, stands}
use Rattle.fold.proofs.Ways.{by_store, with_label}
use Rattle.calls.specs.Machine.{Machine}
use Rattle.simulation.specs.Shown.{in_use, must}
use Rattle.simulation.proofs.Room.{held_same}
use Rattle.simulation.proofs.Sim.{Sim, state}
use Rattle.simulation.proofs.Storing.{own_same}

-- a count from the first test on
count_first : (p : ℕ → Bool) (n : ℕ) → count p (suc n) ≡ one (p 0) + count (λ i. p (suc i)) n
unfolding count
count_first p zero = refl
count_first p (suc n) = omega (arith, count_first p n)

in_use_is : (cs : List ℕ) → in_use cs ≡ count (λ x. not (eqb (get_or cs x 0) 0)) (length cs)
unfolding count
in_use_is [] = refl
in_use_is (c ∷ cs) =
    omega (arith, sum_by-cons (λ n. cond (not (eqb n 0)) 1 0) c cs, in_use_is cs, count_first (λ x. not (eqb (get_or (c ∷ cs) x 0) 0)) (length cs), as_one (not (eqb c 0)))
  where
    as_one : (b : Bool) → cond b 1 0 ≡ one b
    as_one true = refl
    as_one false = refl

-- what has to be held is as much as there are locations in use
pub held_in_use : {z : Sizes} {lab : ℕ → ℕ} {m : Machine} {w : World} → Sim z lab m w → in_use (state m).counts ≡ held w
held_in_use {m = m} sim = in_use_is (state m).counts ∙ ap (count (λ x. not (eqb (get_or (state m).counts x 0) 0))) sim.shape.counts ∙ sym (held_same sim)

-- page v of p is an own page of label l: it is there
module _ (w : World) (p v l : ℕ) (ws : List ℕ) (is : page w p v ≡ own l ws) where
  stands_there : ((process w p).alive ≡ true) × (v < length (process w p).pages)
  stands_there = elim (stands w p v) [ inr s ↦ s | inl e ↦ absurd (let f : ◌≡◌ {A = ℕ} 0 1 = cc (sym e ∙ is) in omega arith) ]

  -- it becomes one of label n: who uses the other labels and who looks at segments stays
  module _ (x : World) (n : ℕ) (bs : List ℕ) (put : x.processes ≡ (with_page w p v (own n bs)).processes) where
    sum_then : (f : Page → ℕ) → over_all f x.processes + f (own l ws) ≡ over_all f w.processes + f (own n bs)
    sum_then f =
        ap (λ (qs : List Process). over_all f qs + f (own l ws)) put ∙ ap (λ g. over_all f (with_page w p v (own n bs)).processes + f g) (sym is)
        ∙ over_all_changed f w p v (own n bs) stands_there.0 stands_there.1

    users_then : (k : ℕ) → users x k + cond (eqb k l) 1 0 ≡ users w k + cond (eqb k n) 1 0
    unfolding users is_own
    users_then k = sum_then (is_own k)

    segments_then : (s : ℕ) → segment_held x s ≡ segment_held w s
    unfolding lookers is_seen
    segments_then s = ap (λ k. not (eqb k 0)) (let same : lookers x s ≡ lookers w s = omega (arith, sum_then (is_seen s)) in same)

  -- a store in place
  held_alone : (bs : List ℕ) → held (with_page w p v (own l bs)) ≡ held w
  unfolding with_page
  held_alone bs =
      let x : World = with_page w p v (own l bs) in
      let labels : count (label_held x) w.next ≡ count (label_held w) w.next =
      count_cong _ _ w.next (λ k _. ap (λ n. not (eqb k 0) && not (eqb n 0)) (let same : users x k ≡ users w k = omega (arith, users_then x l bs refl k) in same)) in
      let segs : count (segment_held x) (length w.segments) ≡ count (segment_held w) (length w.segments) =
      count_cong _ _ (length w.segments) (λ s _. segments_then x l bs refl s) in
      omega (arith, held_is x, held_is w)

  -- A store to a copy: label 0 is not held, a label that others have too stays held, and the new label comes to be held.
  held_anew : (bs : List ℕ) → 0 < w.next → (l ≡ 0) ⊎ (1 < users w l) → held (with_label w p v bs) ≡ held w + 1
  unfolding count
  held_anew bs fresh shared =
      let x : World = with_label w p v bs in
      let labels : count (label_held x) w.next ≡ count (label_held w) w.next = count_cong _ _ w.next (λ k h. still k h) in
      let segs : count (segment_held x) (length w.segments) ≡ count (segment_held w) (length w.segments) =
      count_cong _ _ (length w.segments) (λ s _. segments_then x w.next bs refl s) in
      omega (arith, held_is x, held_is w, ap one new)
    where
      then : (k : ℕ) → users (with_label w p v bs) k + cond (eqb k l) 1 0 ≡ users w k + cond (eqb k w.next) 1 0
      then = users_then (with_label w p v bs) w.next bs refl

      same_test : (a b : ℕ) → (a ≡ 0 → b ≡ 0) → (b ≡ 0 → a ≡ 0) → eqb a 0 ≡ eqb b 0
      same_test a b to from =
          elim (cases_eq a 0) [ inl e ↦ eq-eqb a 0 e ∙ sym (eq-eqb b 0 (to e)) | inr n ↦ ne_eqb a 0 n ∙ sym (ne_eqb b 0 (λ e. n (from e))) ]

      still : (k : ℕ) → k < w.next → label_held (with_label w p v bs) k ≡ label_held w k
      still k h =
          let other : cond {A = ℕ} (eqb k w.next) 1 0 ≡ 0 = cond-false {A = ℕ} _ 1 0 (ne_eqb k w.next (omega arith)) in
          elim (cases_eq k l) [
            | inr n ↦
                let same : users (with_label w p v bs) k ≡ users w k = omega (arith, then k, cond-false {A = ℕ} _ 1 0 (ne_eqb k l n)) in
                ap (λ i. not (eqb k 0) && not (eqb i 0)) same
            | inl e ↦
                elim shared [
                  | inl none ↦ ap (λ b. not b && not (eqb (users (with_label w p v bs) k) 0)) (eq-eqb k 0 (e ∙ none)) ∙ sym (ap (λ b. not b && not (eqb (users w k) 0)) (eq-eqb k 0 (e ∙ none)))
                  | inr more ↦
                      let many : 1 < users w k = subst (λ i. 1 < users w i) (sym e) more in
                      ap (λ b. not (eqb k 0) && not b) (same_test _ _ (λ f. absurd (omega (arith, then k, cond-true {A = ℕ} _ 1 0 (eq-eqb k l e)))) (λ f. absurd (omega arith)))
                ]
          ]

      new : label_held (with_label w p v bs) w.next ≡ true
      new =
          let mine : cond {A = ℕ} (eqb w.next w.next) 1 0 ≡ 1 = cond-true {A = ℕ} _ 1 0 (eq-eqb w.next w.next refl) in
          let some : users (with_label w p v bs) w.next ≢ 0 = λ none.
          elim (cases_eq w.next l) [
            | inr n ↦ omega (arith, then w.next, cond-false {A = ℕ} _ 1 0 (ne_eqb w.next l n))
            | inl e ↦
                elim shared [
                  | inl none-of-it ↦ omega arith
                  | inr more ↦ omega (arith, then w.next, cond-true {A = ℕ} _ 1 0 (eq-eqb w.next l e), subst (λ i. 1 < users w i) (sym e) more)
                ]
          ] in
          and_from _ _ (not_from_false _ (ne_eqb w.next 0 (omega arith))) (not_from_false _ (ne_eqb _ 0 some))

  -- what is held after a store that was done
  pub held_stored : (z : Sizes) (o x k : ℕ) → 0 < w.next → (call z w (store p v o x)).1 ≡ done k → held (call z w (store p v o x)).0 ≡ held w + cond (must w l) 1 0
  held_stored z o x k fresh =
      by_store z w p v o x (λ y a. a ≡ done k → held y ≡ held w + cond (must w l) 1 0)
      (record {
        not_there = λ e. absurd (let f : ◌≡◌ {A = ℕ} 0 1 = cc in omega arith);
        no_room = λ n bs i h g s f e. absurd (let f : ◌≡◌ {A = ℕ} 0 1 = cc in omega arith);
        anew = λ n bs i h g s f e. let t = subst (λ j. (j ≡ 0) ⊎ (1 < users w j)) (own_same (sym g ∙ is)).0 s in
            held_anew (set bs o x) fresh t ∙ ap (λ b. held w + cond b 1 0) (sym (shared_must t));
        alone = λ n bs i h g d u e. let same = (own_same (sym g ∙ is)).0 in
            ap (λ j. held (with_page w p v (own j (set bs o x)))) same ∙ held_alone (set bs o x) ∙ (let t : held w ≡ held w + 0 = omega arith in t)
            ∙ ap (λ b. held w + cond b 1 0) (sym (or_from _ _ (ne_eqb l 0 (λ f. d (same ∙ f))) (le-ltb 1 _ (subst (λ j. users w j ≤ 1) same u))));
        in_segment = λ s i h g e. absurd (let f : ◌≡◌ {A = ℕ} 0 1 = cc (sym g ∙ is) in omega arith);
      })
    where
      shared_must : (l ≡ 0) ⊎ (1 < users w l) → must w l ≡ true
      shared_must (inl e) = or_left _ _ (eq-eqb l 0 e)
      shared_must (inr h) = or_right _ _ (lt-ltb 1 _ h)

-- the process of an own page has as many pages as the sizes say
pub own_wide : {z : Sizes} {lab : ℕ → ℕ} {m : Machine} {w : World} → Sim z lab m w → (p v l : ℕ) (ws : List ℕ) → page w p v ≡ own l ws → length (process w p).pages ≡ z.pages
own_wide {w = w} sim p v l ws is = sim.shape.wide p (omega (arith, alive_below w p (stands_there w p v l ws is).0, sim.shape.processes))

-- full exactly where all that can be held is held
abbrev FullExactly : Sizes → World → Answer → Type 0
FullExactly z w a = (a ≡ full → z.hold ≤ held w) × (z.hold ≤ held w → a ≡ full)

module _ (z : Sizes) (w : World) where
  by_room : (r : World) (n : ℕ) (b : Bool) → b ≡ leb z.hold (held w) → FullExactly z w (cond {A = World × Answer} b (w, full) (r, done n)).1
  by_room r n true e = (λ _. leb-true _ _ (sym e), λ _. refl)
  by_room r n false e = (λ f. absurd (let g : ◌≡◌ {A = ℕ} 0 1 = cc in omega arith), λ h. absurd (omega (arith, leb-false _ _ (sym e))))

  -- a store that has to copy
  pub store_full : (p v o x l : ℕ) (ws : List ℕ) → page w p v ≡ own l ws → length (process w p).pages ≤ z.pages → o < z.words → must w l ≡ true → FullExactly z w (call z w (store p v o x)).1
  unfolding call inside stored
  store_full p v o x l ws is wide h copies =
      let s = stands_there w p v l ws is in
      subst (λ (r : World × Answer). FullExactly z w r.1)
      (sym (cond-true _ _ _ (and_from _ _ (and_from _ _ s.0 (lt-ltb v z.pages (omega arith))) (lt-ltb o z.words h)) ∙ ap (stored z w p v o x) is ∙ cond-true _ _ _ copies))
      (by_room _ 0 (leb z.hold (held w)) refl)

  -- a make where no page is, with a segment that is free
  pub make_full : (p v : ℕ) → (process w p).alive ≡ true → v < z.pages → page w p v ≡ absent → first_segment w 0 w.segments < z.segments → FullExactly z w (call z w (make p v)).1
  unfolding call inside there
  make_full p v alive h is free =
      subst (λ (r : World × Answer). FullExactly z w r.1)
      (sym (cond-true _ _ _ (and_from _ _ (and_from _ _ alive (lt-ltb v z.pages h)) (ap (λ g. not (there g)) is))))
      (by_room _ _ _ (ap (λ b. b || leb z.hold (held w)) (lt-leb _ _ free)))
