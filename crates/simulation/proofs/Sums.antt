-- Sums of a number over all entries of the page tables: one entry changed, another number, a member, two members, a bound.
use Rattle.std.proofs.Common.{◌≡◌, ℕ, suc, ◌+◌, ◌*◌, ◌<◌, ◌≤◌, ◌⊎◌, List, [], ◌∷◌, length, get_or, set, sym, ap, ◌∙◌, inl, inr, arith}
use Rattle.std.proofs.ByRecursion.{All-from_get_or, sum_by_le}
use Rattle.std.proofs.lemmas.List.Sums.{sum_by-cons, sum_by-set, get_or-le-sum_by}
use Rattle.std.proofs.lemmas.List.{get_or_past, get_or_default, get_or-set_same, get_or-set_other, set_past}
use Rattle.std.proofs.lemmas.Bool.{cases_lt, cases_eq}
use Rattle.fold.proofs.Sums.{sumBy_cong, sumBy_member}
use Rattle.frames.specs.Cut.{row}
use Rattle.tables.specs.Cells.{Held, Cell, none, nothing}
use Rattle.tables.specs.Rows.{entry_of, with_entry}
use Rattle.simulation.specs.Over.{over, over_row}

abbrev pub holds_at : List (List Cell) → ℕ → ℕ → Held
holds_at rows p v = (entry_of rows p v).holds

-- the entry that was written, and every other
pub entry_put : (rows : List (List Cell)) (p v : ℕ) (c : Cell) → p < length rows → v < length (row rows p) → entry_of (with_entry rows p v c) p v ≡ c
entry_put rows p v c h k =
    ap (λ (r : List Cell). get_or r v none) (get_or-set_same rows p (set (row rows p) v c) [] h) ∙ get_or-set_same (row rows p) v c none k

pub entry_other : (rows : List (List Cell)) (p v q u : ℕ) (c : Cell) → (q ≡ p → u ≡ v → ⊥) → entry_of (with_entry rows p v c) q u ≡ entry_of rows q u
entry_other rows p v q u c n =
    elim (cases_eq q p) [
      | inr d ↦ ap (λ (r : List Cell). get_or r u none) (get_or-set_other rows p q _ [] d)
      | inl e ↦
          elim (cases_lt p (length rows)) [
            | inr past ↦ ap (λ (rs : List (List Cell)). entry_of rs q u) (set_past rows p _ past)
            | inl h ↦
                ap (λ i. entry_of (with_entry rows p v c) i u) e ∙ ap (λ (r : List Cell). get_or r u none) (get_or-set_same rows p (set (row rows p) v c) [] h)
                ∙ get_or-set_other (row rows p) v u c none (λ d. n e d) ∙ ap (λ i. entry_of rows i u) (sym e)
          ]
    ]

-- an entry is none, or stands in a row
pub entry_stands : (rows : List (List Cell)) (p v : ℕ) → (entry_of rows p v ≡ none) ⊎ ((p < length rows) × (v < length (row rows p)))
entry_stands rows p v =
    elim (cases_lt v (length (row rows p))) [
      | inr past ↦ inl (get_or_past (row rows p) v none past)
      | inl k ↦
          elim (cases_lt p (length rows)) [
            | inl h ↦ inr (h, k)
            | inr past ↦ inl (ap (λ (r : List Cell). get_or r v none) (get_or_past rows p [] past))
          ]
    ]

-- after one entry has changed
pub over_put : (f : Held → ℕ) (rows : List (List Cell)) (p v : ℕ) (c : Cell) → p < length rows → v < length (row rows p) →
    over f (with_entry rows p v c) + f (holds_at rows p v) ≡ over f rows + f c.holds
over_put f rows p v c h k =
    let outer = sum_by-set (over_row f) rows p (set (row rows p) v c) [] h in
    let inner = sum_by-set (λ (x : Cell). f x.holds) (row rows p) v c none k in
    omega (arith, outer, inner)

-- another number that is the same of every entry
pub over_cong : (f g : Held → ℕ) (rows : List (List Cell)) → ((p v : ℕ) → p < length rows → v < length (row rows p) → f (holds_at rows p v) ≡ g (holds_at rows p v)) → over f rows ≡ over g rows
over_cong f g rows h =
    sumBy_cong (over_row f) (over_row g) rows
    (λ p d k. ap (over_row f) (get_or_default rows p d [] k)
    ∙ sumBy_cong (λ (x : Cell). f x.holds) (λ (x : Cell). g x.holds) (row rows p)
    (λ v e l. ap (λ (x : Cell). f x.holds) (get_or_default (row rows p) v e none l) ∙ h p v k l ∙ ap (λ (x : Cell). g x.holds) (sym (get_or_default (row rows p) v e none l)))
    ∙ ap (over_row g) (sym (get_or_default rows p d [] k)))

-- a sum that is not 0 has an entry that adds to it
pub over_member : (f : Held → ℕ) (rows : List (List Cell)) → 0 < over f rows → (p : ℕ) × (v : ℕ) × (p < length rows) × (v < length (row rows p)) × (0 < f (holds_at rows p v))
over_member f rows h =
    let m = sumBy_member (over_row f) rows h in
    let k = sumBy_member (λ (x : Cell). f x.holds) (row rows m.0) (m.2 []) in
    (m.0, k.0, m.1, k.1, k.2 none)

-- what one entry adds is at most the sum
pub over_below : (f : Held → ℕ) → f nothing ≡ 0 → (rows : List (List Cell)) (p v : ℕ) → f (holds_at rows p v) ≤ over f rows
over_below f z rows p v =
    elim (entry_stands rows p v) [
      | inl e ↦ omega (arith, ap (λ (c : Cell). f c.holds) e)
      | inr s ↦
          let inner : f (holds_at rows p v) ≤ over_row f (row rows p) = get_or-le-sum_by (λ (x : Cell). f x.holds) (row rows p) v none s.1 in
          let outer : over_row f (row rows p) ≤ over f rows = get_or-le-sum_by (over_row f) rows p [] s.0 in
          omega arith
    ]

-- and what two add
pub over_two : (f : Held → ℕ) → f nothing ≡ 0 → (rows : List (List Cell)) (p v q u : ℕ) → (q ≡ p → u ≡ v → ⊥) → f (holds_at rows p v) + f (holds_at rows q u) ≤ over f rows
over_two f z rows p v q u n =
    elim (entry_stands rows p v) [
      | inl e ↦ omega (arith, ap (λ (c : Cell). f c.holds) e, over_below f z rows q u)
      | inr s ↦
          let other : f (holds_at (with_entry rows p v none) q u) ≡ f (holds_at rows q u) = ap (λ (c : Cell). f c.holds) (entry_other rows p v q u none n) in
          omega (arith, over_put f rows p v none s.0 s.1, over_below f z (with_entry rows p v none) q u)
    ]

-- a sum of numbers of at most one is at most the number of entries
pub over_bound : (f : Held → ℕ) → ((h : Held) → f h ≤ 1) → (k : ℕ) (rows : List (List Cell)) → ((p : ℕ) → p < length rows → length (row rows p) ≤ k) → over f rows ≤ length rows * k
over_bound f small k [] wide = omega arith
over_bound f small k (r ∷ rows) wide =
    let here : over_row f r ≤ length r * 1 = sum_by_le (λ (c : Cell). f c.holds) 1 r (All-from_get_or (λ (c : Cell). f c.holds ≤ 1) r none (λ i h. small (get_or r i none).holds)) in
    let width : length r ≤ k = wide 0 (omega arith) in
    let rest : over f rows ≤ length rows * k = over_bound f small k rows (λ p h. wide (suc p) (omega arith)) in
    omega (arith, sum_by-cons (over_row f) r rows)
