-- How many numbers below n pass a test, and when one such count is another.
use Rattle.std.proofs.Common.{◌≡◌, ℕ, zero, suc, ◌+◌, ◌<◌, ◌≤◌, Bool, true, false, not, ◌&&◌, eqb, ◌⊎◌, sym, refl, ap, ◌∙◌, subst, inl, inr, arith}
use Rattle.std.proofs.Math.Bool.{and-true}
use Rattle.std.proofs.lemmas.Bool.{cases_lt, cases_eq, cases_Bool, both_ways, and_from, and_parts, and_right, eq-eqb, ne_eqb, eqb-false, not_from_true, not_from_false, not-true}

abbrev pub one : Bool → ℕ
one true = 1
one false = 0

unfoldable pub count : (ℕ → Bool) → ℕ → ℕ
count p zero = 0
count p (suc n) = one (p n) + count p n

-- the same tests, the same count
pub count_cong : (p q : ℕ → Bool) (n : ℕ) → ((i : ℕ) → i < n → p i ≡ q i) → count p n ≡ count q n
unfolding count
count_cong p q zero h = refl
count_cong p q (suc n) h =
    let here : one (p n) ≡ one (q n) = ap one (h n (omega arith)) in
    let below : count p n ≡ count q n = count_cong p q n (λ i k. h i (omega arith)) in omega arith

-- the test q, but for k
abbrev pub without : (ℕ → Bool) → ℕ → ℕ → Bool
without q k j = q j && not (eqb j k)

pub count_without : (q : ℕ → Bool) (k m : ℕ) → k < m → q k ≡ true → suc (count (without q k) m) ≡ count q m
unfolding count
count_without q k zero h e = omega arith
count_without q k (suc m) h e =
    elim (cases_eq m k) [
      | inl s ↦
          let here : one (without q k m) ≡ 0 = ap one (and_right (q m) _ (not_from_true _ (eq-eqb m k s))) in
          let was : one (q m) ≡ 1 = ap one (ap q s ∙ e) in
          let below : count (without q k) m ≡ count q m = count_cong _ _ m (λ i l. ap (λ b. q i && not b) (ne_eqb i k (omega arith)) ∙ and-true (q i)) in
          omega arith
      | inr n ↦
          let here : one (without q k m) ≡ one (q m) = ap one (ap (λ b. q m && not b) (ne_eqb m k n) ∙ and-true (q m)) in
          let below : suc (count (without q k) m) ≡ count q m = count_without q k m (omega arith) e in omega arith
    ]

-- Where each number that passes p is sent to one that passes q, and no two to the same, q counts as many or more.
pub count_into : (p q : ℕ → Bool) (n m : ℕ) (R : ℕ → ℕ → Type 0) →
    ((i : ℕ) → i < n → p i ≡ true → (j : ℕ) × (j < m) × (q j ≡ true) × R i j) → ((i k j : ℕ) → R i j → R k j → i ≡ k) → count p n ≤ count q m
unfolding count
count_into p q zero m R to apart = omega arith
count_into p q (suc n) m R to apart =
    elim (cases_Bool (p n)) [
      | inr f ↦
          let here : one (p n) ≡ 0 = ap one f in
          let below : count p n ≤ count q m = count_into p q n m R (λ i l e. to i (omega arith) e) apart in omega arith
      | inl t ↦
          let here : one (p n) ≡ 1 = ap one t in
          let s : (j : ℕ) × (j < m) × (q j ≡ true) × R n j = to n (omega arith) t in
          let less : suc (count (without q s.0) m) ≡ count q m = count_without q s.0 m s.1 s.2 in
          let below : count p n ≤ count (without q s.0) m =
          count_into p (without q s.0) n m R
          (λ i l e. let r : (j : ℕ) × (j < m) × (q j ≡ true) × R i j = to i (omega arith) e in
          (r.0, r.1, and_from _ _ r.2 (not_from_false _ (ne_eqb r.0 s.0 (λ d. let same : i ≡ n = apart i n s.0 (subst (R i) d r.3) s.3 in omega arith))), r.3))
          apart in
          omega arith
    ]

-- Two tests with a relation one to one between the numbers that pass them count the same.
pub count_same : (p q : ℕ → Bool) (n m : ℕ) (R : ℕ → ℕ → Type 0) →
    ((i : ℕ) → i < n → p i ≡ true → (j : ℕ) × (j < m) × (q j ≡ true) × R i j) → ((j : ℕ) → j < m → q j ≡ true → (i : ℕ) × (i < n) × (p i ≡ true) × R i j) →
    ((i k j : ℕ) → R i j → R k j → i ≡ k) → ((i j k : ℕ) → R i j → R i k → j ≡ k) → count p n ≡ count q m
count_same p q n m R to from left right =
    let up : count p n ≤ count q m = count_into p q n m R to left in
    let down : count q m ≤ count p n = count_into q p m n (λ j i. R i j) from (λ j k i. right i j k) in
    omega arith

-- a test that passes where the other does, and at most at k besides
pub count_le : (p q : ℕ → Bool) (n : ℕ) → ((i : ℕ) → i < n → p i ≡ true → q i ≡ true) → count p n ≤ count q n
count_le p q n h = count_into p q n n (λ i j. i ≡ j) (λ i l e. (i, l, h i l e, refl)) (λ i k j a b. a ∙ sym b)

pub count_one_more : (p q : ℕ → Bool) (n k : ℕ) → ((i : ℕ) → i < n → p i ≡ true → (q i ≡ true) ⊎ (i ≡ k)) → count p n ≤ suc (count q n)
count_one_more p q n k h =
    elim (cases_lt k n) [
      | inl l ↦
          elim (cases_Bool (p k)) [
            | inl t ↦
                let less : suc (count (without p k) n) ≡ count p n = count_without p k n l t in
                let below : count (without p k) n ≤ count q n = count_le _ q n (λ i m e. let a = and_parts _ _ e in other i (eqb-false i k (not-true _ a.1)) (h i m a.0)) in
                omega arith
            | inr f ↦
                let below : count p n ≤ count q n = count_le p q n (λ i m e. other i (λ s. both_ways (p k) f (ap p (sym s) ∙ e)) (h i m e)) in omega arith
          ]
      | inr g ↦ let below : count p n ≤ count q n = count_le p q n (λ i m e. other i (λ s. omega arith) (h i m e)) in omega arith
    ]
  where
    other : (i : ℕ) → (i ≡ k → ⊥) → (q i ≡ true) ⊎ (i ≡ k) → q i ≡ true
    other i n (inl e) = e
    other i n (inr e) = absurd (n e)

pub count_none : (p : ℕ → Bool) (n : ℕ) → ((i : ℕ) → i < n → p i ≡ true → ⊥) → count p n ≡ 0
unfolding count
count_none p n h =
    let none : count p n ≤ count p 0 = count_into p p n 0 (λ i j. i ≡ j) (λ i l e. absurd (h i l e)) (λ i k j a b. a ∙ sym b) in omega arith
