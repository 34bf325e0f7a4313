-- Who uses a label, who looks at a segment, and how what is held follows from that.
use Rattle.std.proofs.Common.{◌≡◌, ℕ, zero, suc, ◌+◌, ◌<◌, ◌≤◌, Bool, true, false, cond, not, ◌&&◌, eqb, ◌≢◌, List, length, sym, refl, ap, inl, inr, arith}
use Rattle.std.proofs.lemmas.Bool.{cases_Bool, cond-true, cond-false, eqb-true, eqb-false, eq-eqb, ne_eqb, and_parts, and_from, not-true, not_from_false}
use Rattle.fold.specs.Fold.{Page, World, absent, own, seen, page, is_own, is_seen, users, lookers, labels_from, segments_from, held}
use Rattle.fold.proofs.Count.{one, count, count_le}
use Rattle.fold.proofs.Sums.{page_below, two_below, page_member}

-- some page has the label l; some page is segment s
abbrev pub Uses : World → ℕ → Type 0
Uses w l = (p : ℕ) × (v : ℕ) × (ws : List ℕ) × (page w p v ≡ own l ws)

abbrev pub Looks : World → ℕ → Type 0
Looks w s = (p : ℕ) × (v : ℕ) × (page w p v ≡ seen s)

is_own_of : (l : ℕ) (x : Page) → 0 < is_own l x → (ws : List ℕ) × (x ≡ own l ws)
unfolding is_own
is_own_of l absent h = absurd (omega arith)
is_own_of l (seen s) h = absurd (omega arith)
is_own_of l (own m ws) h =
    elim (cases_Bool (eqb l m))
    [ inl t ↦ (ws, ap (λ n. own n ws) (sym (eqb-true l m t))) | inr f ↦ absurd (omega (arith, cond-false {A = ℕ} (eqb l m) 1 0 f)) ]

is_own_from : (l : ℕ) (ws : List ℕ) → is_own l (own l ws) ≡ 1
unfolding is_own
is_own_from l ws = cond-true {A = ℕ} (eqb l l) 1 0 (eq-eqb l l refl)

is_own_absent : (l : ℕ) → is_own l absent ≡ 0
unfolding is_own
is_own_absent l = refl

is_seen_of : (s : ℕ) (x : Page) → 0 < is_seen s x → x ≡ seen s
unfolding is_seen
is_seen_of s absent h = absurd (omega arith)
is_seen_of s (own m ws) h = absurd (omega arith)
is_seen_of s (seen t) h =
    elim (cases_Bool (eqb s t)) [ inl e ↦ ap seen (sym (eqb-true s t e)) | inr f ↦ absurd (omega (arith, cond-false {A = ℕ} (eqb s t) 1 0 f)) ]

is_seen_from : (s : ℕ) → is_seen s (seen s) ≡ 1
unfolding is_seen
is_seen_from s = cond-true {A = ℕ} (eqb s s) 1 0 (eq-eqb s s refl)

is_seen_absent : (s : ℕ) → is_seen s absent ≡ 0
unfolding is_seen
is_seen_absent s = refl

-- a label has users exactly where some page has it, and a segment lookers where some page is it
pub uses_of : (w : World) (l : ℕ) → 0 < users w l → Uses w l
unfolding users
uses_of w l h = let m = page_member (is_own l) w h in let o = is_own_of l _ m.2 in (m.0, m.1, o.0, o.1)

pub uses_from : (w : World) (l : ℕ) → Uses w l → 0 < users w l
unfolding users
uses_from w l u =
    omega (arith, page_below (is_own l) (is_own_absent l) w u.0 u.1, ap (is_own l) u.3, is_own_from l u.2)

-- a label that two pages have has more than one user
pub uses_twice : (w : World) (l p v q u : ℕ) (ws xs : List ℕ) → page w p v ≡ own l ws → page w q u ≡ own l xs → (q ≡ p → u ≡ v → ⊥) → 1 < users w l
unfolding users
uses_twice w l p v q u ws xs e f n =
    omega (arith, two_below (is_own l) (is_own_absent l) w p v q u n, ap (is_own l) e, ap (is_own l) f, is_own_from l ws, is_own_from l xs)

pub looks_of : (w : World) (s : ℕ) → 0 < lookers w s → Looks w s
unfolding lookers
looks_of w s h = let m = page_member (is_seen s) w h in (m.0, m.1, is_seen_of s _ m.2)

pub looks_from : (w : World) (s : ℕ) → Looks w s → 0 < lookers w s
unfolding lookers
looks_from w s u = omega (arith, page_below (is_seen s) (is_seen_absent s) w u.0 u.1, ap (is_seen s) u.2, is_seen_from s)

-- what is held, as two counts
abbrev pub label_held : World → ℕ → Bool
label_held w l = not (eqb l 0) && not (eqb (users w l) 0)

abbrev pub segment_held : World → ℕ → Bool
segment_held w s = not (eqb (lookers w s) 0)

pub labels_are : (w : World) (n : ℕ) → labels_from w n ≡ count (label_held w) n
unfolding labels_from count
labels_are w zero = refl
labels_are w (suc n) =
    let here : cond (eqb n 0) 0 (cond (eqb (users w n) 0) 0 1) ≡ one (label_held w n) = both (eqb n 0) (eqb (users w n) 0) in
    omega (arith, labels_are w n)
  where
    both : (a b : Bool) → ◌≡◌ {A = ℕ} (cond a 0 (cond b 0 1)) (one (not a && not b))
    both true b = refl
    both false true = refl
    both false false = refl

pub segments_are : (w : World) (n : ℕ) → segments_from w n ≡ count (segment_held w) n
unfolding segments_from count
segments_are w zero = refl
segments_are w (suc n) =
    let here : cond (eqb (lookers w n) 0) 0 1 ≡ one (segment_held w n) = turned (eqb (lookers w n) 0) in omega (arith, segments_are w n)
  where
    turned : (a : Bool) → ◌≡◌ {A = ℕ} (cond a 0 1) (one (not a))
    turned true = refl
    turned false = refl

pub held_is : (w : World) → held w ≡ count (label_held w) w.next + count (segment_held w) (length w.segments)
unfolding held
held_is w = omega (arith, labels_are w w.next, segments_are w (length w.segments))

pub label_held_of : (w : World) (l : ℕ) → label_held w l ≡ true → (l ≢ 0) × Uses w l
label_held_of w l e =
    let h = and_parts _ _ e in
    let some : users w l ≢ 0 = eqb-false (users w l) 0 (not-true _ h.1) in (eqb-false l 0 (not-true _ h.0), uses_of w l (omega arith))

pub label_held_from : (w : World) (l : ℕ) → l ≢ 0 → Uses w l → label_held w l ≡ true
label_held_from w l n u =
    let some : users w l ≢ 0 = omega (arith, uses_from w l u) in and_from _ _ (not_from_false _ (ne_eqb l 0 n)) (not_from_false _ (ne_eqb (users w l) 0 some))

pub segment_held_of : (w : World) (s : ℕ) → segment_held w s ≡ true → Looks w s
segment_held_of w s e = let some : lookers w s ≢ 0 = eqb-false (lookers w s) 0 (not-true _ e) in looks_of w s (omega arith)

pub segment_held_from : (w : World) (s : ℕ) → Looks w s → segment_held w s ≡ true
segment_held_from w s u = let some : lookers w s ≢ 0 = omega (arith, looks_from w s u) in not_from_false _ (ne_eqb (lookers w s) 0 some)

-- a world in which nothing is used or looked at that was not before holds no more
module _ (w x : World) where
  pub labels_le : (n : ℕ) → ((l : ℕ) → l < n → l ≢ 0 → Uses x l → Uses w l) → count (label_held x) n ≤ count (label_held w) n
  labels_le n h = count_le _ _ n (λ l k e. let u = label_held_of x l e in label_held_from w l u.0 (h l k u.0 u.1))

  pub segments_le : (n : ℕ) → ((s : ℕ) → Looks x s → Looks w s) → count (segment_held x) n ≤ count (segment_held w) n
  segments_le n h = count_le _ _ n (λ s k e. segment_held_from w s (h s (segment_held_of x s e)))

  pub held_le : x.next ≡ w.next → length x.segments ≡ length w.segments → ((l : ℕ) → l ≢ 0 → Uses x l → Uses w l) → ((s : ℕ) → Looks x s → Looks w s) → held x ≤ held w
  held_le n m h k =
      omega (
        arith,
        held_is x,
        held_is w,
        labels_le w.next (λ l _. h l),
        segments_le (length w.segments) k,
        ap (count (label_held x)) n,
        ap (count (segment_held x)) m,
      )
