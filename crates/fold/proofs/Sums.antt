-- Sums of a number over the elements of a list, and over the pages of all living processes: one element changed, a member, two members.
use Rattle.std.proofs.Common.{◌≡◌, ℕ, suc, ◌+◌, ◌<◌, ◌≤◌, true, cond, ◌⊎◌, List, [], ◌∷◌, length, get_or, set, sum_by, sym, refl, ap, ◌∙◌, inl, inr, arith}
use Rattle.std.proofs.lemmas.List.Sums.{sum_by-cons, sum_by-set, get_or-le-sum_by}
use Rattle.std.proofs.lemmas.List.{get_or_past}
use Rattle.std.proofs.lemmas.List.Recursion.{is_sum_by}
use Rattle.std.proofs.lemmas.Bool.{cases_lt, cases_Bool, cond-true, cond-false}
use Rattle.fold.specs.Fold.{Page, Process, World, absent, nobody, process, page, over_pages, over_all, with_page}
use Rattle.fold.proofs.Pages.{page_is, alive_below, page_other, repaged}

-- a sum depends only on what it adds up
pub sumBy_cong : {X : Type 0} (f g : X → ℕ) (xs : List X) → ((i : ℕ) (d : X) → i < length xs → f (get_or xs i d) ≡ g (get_or xs i d)) → sum_by f xs ≡ sum_by g xs
sumBy_cong f g [] h = refl
sumBy_cong f g (x ∷ xs) h =
    sum_by-cons f x xs ∙ ap (λ n. n + sum_by f xs) (h 0 x (omega arith))
    ∙ ap (λ n. g x + n) (sumBy_cong f g xs (λ i d l. h (suc i) d (omega arith))) ∙ sym (sum_by-cons g x xs)

-- a sum that is not 0 has an element that adds to it
pub sumBy_member : {X : Type 0} (f : X → ℕ) (xs : List X) → 0 < sum_by f xs → (i : ℕ) × (i < length xs) × ((d : X) → 0 < f (get_or xs i d))
sumBy_member f [] h = absurd (omega arith)
sumBy_member f (x ∷ xs) h =
    elim (cases_lt 0 (f x)) [
      | inl l ↦ (0, omega arith, λ d. l)
      | inr z ↦
          let rest : 0 < sum_by f xs = omega (arith, sum_by-cons f x xs) in
          let m = sumBy_member f xs rest in (suc m.0, omega (arith, m.1), m.2)
    ]

pub over_pages_is : (f : Page → ℕ) (xs : List Page) → over_pages f xs ≡ sum_by f xs
unfolding over_pages
over_pages_is f = is_sum_by (over_pages f) f refl (λ x xs. refl)

-- what a process adds
abbrev pub living : (Page → ℕ) → Process → ℕ
living f q = cond q.alive (sum_by f q.pages) 0

pub over_all_is : (f : Page → ℕ) (qs : List Process) → over_all f qs ≡ sum_by (living f) qs
unfolding over_all
over_all_is f = is_sum_by (over_all f) (living f) refl (λ q qs. ap (λ n. cond q.alive n 0 + over_all f qs) (over_pages_is f q.pages))

-- a sum over all pages after one page changed
pub over_all_changed : (f : Page → ℕ) (w : World) (p v : ℕ) (x : Page) → (process w p).alive ≡ true → v < length (process w p).pages →
    over_all f (with_page w p v x).processes + f (page w p v) ≡ over_all f w.processes + f x
unfolding with_page process
over_all_changed f w p v x a h =
    let new : over_all f (with_page w p v x).processes ≡ sum_by (living f) (set w.processes p (repaged w p v x)) = over_all_is f _ in
    let old : over_all f w.processes ≡ sum_by (living f) w.processes = over_all_is f w.processes in
    let outer = sum_by-set (living f) w.processes p (repaged w p v x) nobody (alive_below w p a) in
    let inner = sum_by-set f (process w p).pages v x absent h in
    let was : living f (process w p) ≡ sum_by f (process w p).pages = cond-true _ _ 0 a in
    let is : living f (repaged w p v x) ≡ sum_by f (set (process w p).pages v x) = cond-true _ _ 0 a in
    let there : f (page w p v) ≡ f (get_or (process w p).pages v absent) = ap f (page_is w p v ∙ cond-true _ _ absent a) in
    omega arith

-- a page is absent, or stands in a living process
pub stands : (w : World) (p v : ℕ) → (page w p v ≡ absent) ⊎ (((process w p).alive ≡ true) × (v < length (process w p).pages))
unfolding page
stands w p v =
    elim (cases_Bool (process w p).alive) [
      | inl a ↦ elim (cases_lt v (length (process w p).pages)) [ inl h ↦ inr (a, h) | inr h ↦ inl (cond-true _ _ absent a ∙ get_or_past (process w p).pages v absent h) ]
      | inr d ↦ inl (cond-false _ _ absent d)
    ]

-- what one page adds is at most the sum, and so for two pages
pub page_below : (f : Page → ℕ) → f absent ≡ 0 → (w : World) (p v : ℕ) → f (page w p v) ≤ over_all f w.processes
unfolding process
page_below f z w p v =
    elim (stands w p v) [
      | inl e ↦ omega (arith, ap f e)
      | inr s ↦
          let inner : f (get_or (process w p).pages v absent) ≤ sum_by f (process w p).pages = get_or-le-sum_by f (process w p).pages v absent s.1 in
          let outer : living f (process w p) ≤ sum_by (living f) w.processes = get_or-le-sum_by (living f) w.processes p nobody (alive_below w p s.0) in
          let is : living f (process w p) ≡ sum_by f (process w p).pages = cond-true _ _ 0 s.0 in
          let there : f (page w p v) ≡ f (get_or (process w p).pages v absent) = ap f (page_is w p v ∙ cond-true _ _ absent s.0) in
          omega (arith, over_all_is f w.processes)
    ]

pub two_below : (f : Page → ℕ) → f absent ≡ 0 → (w : World) (p v q u : ℕ) → (q ≡ p → u ≡ v → ⊥) → f (page w p v) + f (page w q u) ≤ over_all f w.processes
two_below f z w p v q u n =
    elim (stands w p v) [
      | inl e ↦ omega (arith, ap f e, page_below f z w q u)
      | inr s ↦
          let other : f (page (with_page w p v absent) q u) ≡ f (page w q u) = ap f (page_other w p v q u absent n) in
          omega (arith, over_all_changed f w p v absent s.0 s.1, page_below f z (with_page w p v absent) q u)
    ]

-- a sum that is not 0 has a page that adds to it
pub page_member : (f : Page → ℕ) (w : World) → 0 < over_all f w.processes → (p : ℕ) × (v : ℕ) × (0 < f (page w p v))
unfolding process
page_member f w h =
    let m = sumBy_member (living f) w.processes (omega (arith, over_all_is f w.processes)) in
    let p = m.0 in
    let some : 0 < living f (process w p) = m.2 nobody in
    elim (cases_Bool (process w p).alive) [
      | inl a ↦
          let k = sumBy_member f (process w p).pages (omega (arith, cond-true _ (sum_by f (process w p).pages) 0 a)) in
          let there : f (page w p k.0) ≡ f (get_or (process w p).pages k.0 absent) = ap f (page_is w p k.0 ∙ cond-true _ _ absent a) in
          (p, k.0, omega (arith, k.2 absent))
      | inr d ↦ absurd (omega (arith, cond-false _ (sum_by f (process w p).pages) 0 d))
    ]
