-- Who uses a label and who looks at a segment, in the machine of private memories, are who the manager counts.
use Rattle.std.proofs.Common.{◌≡◌, ℕ, suc, ◌*◌, ◌<◌, ◌≤◌, Bool, true, false, cond, ◌||◌, eqb, ltb, List, [], ◌∷◌, length, get_or, sum_by, sym, refl, ap, ◌∙◌, inl, inr, arith}
use Rattle.std.proofs.ByRecursion.{All-from_get_or, sum_by_le}
use Rattle.std.proofs.lemmas.List.Sums.{sum_by-cons, get_or-le-sum_by}
use Rattle.std.proofs.lemmas.Bool.{cases_lt, cases_eq, cases_Bool, cond-true, cond-false, eq-eqb, ne_eqb}
use Rattle.fold.specs.Fold.{Page, Sizes, World, absent, nobody, process, page, is_own, is_seen, over_all, users, lookers, more_than_one}
use Rattle.fold.proofs.Pages.{page_is}
use Rattle.fold.proofs.Sums.{sumBy_member, living, over_all_is}
use Rattle.frames.specs.Cut.{row}
use Rattle.tables.specs.Cells.{Held, Cell, none, nothing, zeros, at, segment}
use Rattle.disk.specs.Follows.{names, namers}
use Rattle.calls.specs.Machine.{Machine}
use Rattle.calls.specs.Calls.{holds}
use Rattle.simulation.specs.Over.{looks_at, over, over_row}
use Rattle.simulation.proofs.Sums.{over_below, over_bound}
use Rattle.simulation.proofs.Sim.{Sim, state, see}

-- two lists of the same length that add up the same number at each index
sumBy_same : {X Y : Type 0} (f : X → ℕ) (g : Y → ℕ) (xs : List X) (ys : List Y) (d : X) (e : Y) → length xs ≡ length ys → ((i : ℕ) → i < length xs → f (get_or xs i d) ≡ g (get_or ys i e)) → sum_by f xs ≡ sum_by g ys
sumBy_same f g [] [] d e l h = refl
sumBy_same f g [] (y ∷ ys) d e l h = absurd (omega arith)
sumBy_same f g (x ∷ xs) [] d e l h = absurd (omega arith)
sumBy_same f g (x ∷ xs) (y ∷ ys) d e l h =
    let here : f x ≡ g y = h 0 (omega arith) in
    let rest : sum_by f xs ≡ sum_by g ys = sumBy_same f g xs ys d e (omega arith) (λ i k. h (suc i) (omega arith)) in
    omega (arith, sum_by-cons f x xs, sum_by-cons g y ys)

-- a sum of which every number is 0
pub sumBy_none : {X : Type 0} (f : X → ℕ) (xs : List X) (d : X) → ((i : ℕ) → i < length xs → f (get_or xs i d) ≡ 0) → sum_by f xs ≡ 0
sumBy_none f xs d h =
    elim (cases_lt 0 (sum_by f xs)) [
      | inl some ↦ let m = sumBy_member f xs some in absurd (omega (arith, m.2 d, h m.0 m.1))
      | inr none ↦ omega arith
    ]

pub names_one : (x : ℕ) → names x (at x) ≡ 1
names_one x = cond-true _ 1 0 (eq-eqb x x refl)

pub names_some : (x : ℕ) (h : Held) → 0 < names x h → h ≡ at x
names_some x nothing k = absurd (omega arith)
names_some x zeros k = absurd (omega arith)
names_some x (segment s) k = absurd (omega arith)
names_some x (at y) k =
    elim (cases_eq x y) [ inl e ↦ ap at (sym e) | inr n ↦ absurd (omega (arith, cond-false {A = ℕ} (eqb x y) 1 0 (ne_eqb x y n))) ]

cond_few : (b : Bool) → cond b 1 0 ≤ 1
cond_few true = omega arith
cond_few false = omega arith

names_few : (x : ℕ) (h : Held) → names x h ≤ 1
names_few x nothing = omega arith
names_few x zeros = omega arith
names_few x (at y) = cond_few (eqb x y)
names_few x (segment s) = omega arith

looks_few : (s : ℕ) (h : Held) → looks_at s h ≤ 1
looks_few s nothing = omega arith
looks_few s zeros = omega arith
looks_few s (at y) = omega arith
looks_few s (segment t) = cond_few (eqb s t)

pub nothing≢at : (x : ℕ) → nothing ≡ at x → ⊥
nothing≢at x e = let z : ◌≡◌ {A = ℕ} 0 1 = cc in omega arith

pub nothing≢segment : (s : ℕ) → nothing ≡ segment s → ⊥
nothing≢segment s e = let z : ◌≡◌ {A = ℕ} 0 1 = cc in omega arith

pub at_same : (x y : ℕ) → at x ≡ at y → x ≡ y
at_same x y e = cc

module _ {z : Sizes} {lab : ℕ → ℕ} {m : Machine} {w : World} (sim : Sim z lab m w) where
  -- A number of what a process sees adds up to the same number of the entries. A process that is not there sees nothing.
  pub seen_sum : (f : Page → ℕ) (g : Held → ℕ) → f absent ≡ 0 → ((p v : ℕ) → f (page w p v) ≡ g (holds m p v)) → over_all f w.processes ≡ over g (state m).rows
  unfolding process
  seen_sum f g zero same =
      over_all_is f w.processes
      ∙ sumBy_same (living f) (over_row g) w.processes (state m).rows nobody [] (sim.shape.processes ∙ sym sim.shape.rows)
      (λ p h. let k : p < z.processes = omega (arith, sim.shape.processes) in
      elim (cases_Bool (process w p).alive) [
        | inl a ↦
            cond-true _ _ 0 a
            ∙ sumBy_same f (λ (c : Cell). g c.holds) (process w p).pages (row (state m).rows p) absent none (sim.shape.wide p k ∙ sym (sim.shape.columns p k))
            (λ v _. ap f (sym (page_is w p v ∙ cond-true _ _ absent a)) ∙ same p v)
        | inr d ↦
            cond-false _ _ 0 d
            ∙ sym (sumBy_none (λ (c : Cell). g c.holds) (row (state m).rows p) none (λ v _. sym (same p v) ∙ ap f (page_is w p v ∙ cond-false _ _ absent d) ∙ zero))
      ])

  pub lookers_same : (s : ℕ) → s < z.segments → lookers w s ≡ get_or (state m).lookers s 0
  unfolding lookers is_seen
  lookers_same s h = seen_sum (is_seen s) (looks_at s) refl (λ p v. ap (is_seen s) (sim.pages p v) ∙ seen_as (holds m p v)) ∙ sym (sim.lookers s h)
    where
      seen_as : (h : Held) → is_seen s (see lab (state m).pages h) ≡ looks_at s h
      seen_as nothing = refl
      seen_as zeros = refl
      seen_as (at x) = refl
      seen_as (segment t) = refl

  -- a location that segments name is where one lies
  pub segment_there : (x : ℕ) → 0 < namers x (state m).segments → (s : ℕ) × (s < z.segments) × ((get_or (state m).segments s none).holds ≡ at x)
  segment_there x h =
      let k = sumBy_member (λ (c : Cell). names x c.holds) (state m).segments h in (k.0, omega (arith, k.1, sim.shape.table), names_some x _ (k.2 none))

  pub segment_names : (s x : ℕ) → s < z.segments → (get_or (state m).segments s none).holds ≡ at x → 1 ≤ namers x (state m).segments
  segment_names s x h e =
      omega (arith, get_or-le-sum_by (λ (c : Cell). names x c.holds) (state m).segments s none (omega (arith, sim.shape.table)), ap (names x) e, names_one x)

  -- A segment that lies somewhere is looked at, else it would lie nowhere, and is all that lies there.
  pub lies_alone : (s x : ℕ) → s < z.segments → (get_or (state m).segments s none).holds ≡ at x → (x < z.hold) × (get_or (state m).counts x 0 ≡ 1) × (0 < get_or (state m).lookers s 0)
  lies_alone s x h e =
      elim (cases_lt 0 (get_or (state m).lookers s 0)) [
        | inr idle ↦ absurd (nothing≢at x (sym (sim.idle s h (omega arith)) ∙ e))
        | inl some ↦
            let l = sim.lying s h some in
            let is : l.where_it_is ≡ x = at_same _ _ (sym l.at_it ∙ e) in
            (omega (arith, l.within), ap (λ y. get_or (state m).counts y 0) (sym is) ∙ l.alone, some)
      ]

  pub entry_names : (p v x : ℕ) → holds m p v ≡ at x → 1 ≤ over (names x) (state m).rows
  entry_names p v x e = omega (arith, over_below (names x) refl (state m).rows p v, ap (names x) e, names_one x)

  -- So where an entry names a location, no segment lies.
  pub no_segment_there : (p v x : ℕ) → holds m p v ≡ at x → namers x (state m).segments ≡ 0
  no_segment_there p v x e =
      elim (cases_lt 0 (namers x (state m).segments)) [
        | inr none ↦ omega arith
        | inl some ↦
            let s = segment_there x some in
            let one = lies_alone s.0 x s.1 s.2 in absurd (omega (arith, one.1, sim.counts x one.0, entry_names p v x e))
      ]

  -- The pages with the label of x are the entries that name x.
  pub users_same : (p v x : ℕ) → holds m p v ≡ at x → users w (lab x) ≡ get_or (state m).counts x 0
  unfolding users is_own
  users_same p v x e =
      let entries : users w (lab x) ≡ over (names x) (state m).rows =
      seen_sum (is_own (lab x)) (names x) refl (λ q u. ap (is_own (lab x)) (sim.pages q u) ∙ owned q u (holds m q u) refl) in
      omega (arith, sim.counts x (sim.labels p v x e).0, no_segment_there p v x e)
    where
      owned : (q u : ℕ) (h : Held) → holds m q u ≡ h → is_own (lab x) (see lab (state m).pages h) ≡ names x h
      owned q u nothing f = refl
      owned q u zeros f = cond-false _ 1 0 (ne_eqb _ 0 (sim.labels p v x e).1)
      owned q u (segment s) f = refl
      owned q u (at y) f =
          elim (cases_eq x y) [
            | inl same ↦ ap (λ b. cond b 1 0) (eq-eqb _ _ (ap lab same) ∙ sym (eq-eqb x y same))
            | inr other ↦ ap (λ b. cond b 1 0) (ne_eqb _ _ (λ l. other (sim.apart p v q u x y e f l)) ∙ sym (ne_eqb x y other))
          ]

  -- A store copies where the manager copies.
  pub copy_same : (p v x : ℕ) → holds m p v ≡ at x → (eqb (lab x) 0 || more_than_one (users w (lab x))) ≡ ltb 1 (get_or (state m).counts x 0)
  copy_same p v x e =
      ap (λ b. b || more_than_one (users w (lab x))) (ne_eqb (lab x) 0 (sim.labels p v x e).1) ∙ ap (ltb 1) (users_same p v x e)

  -- there are at most 16 rows of at most 64 entries
  few : (f : Held → ℕ) → ((h : Held) → f h ≤ 1) → over f (state m).rows ≤ 16 * 64
  few f one =
      let most : over f (state m).rows ≤ length (state m).rows * 64 =
      over_bound f one 64 (state m).rows (λ p h. omega (arith, sim.shape.columns p (omega (arith, sim.shape.rows)), sim.shape.few_pages)) in
      omega (arith, sim.shape.rows, sim.shape.few_processes)

  -- All counts are far below what a table can hold.
  pub count_small : (x : ℕ) → x < z.hold → get_or (state m).counts x 0 < 65535
  count_small x h =
      let entries : over (names x) (state m).rows ≤ 16 * 64 = few (names x) (names_few x) in
      let segments : namers x (state m).segments ≤ length (state m).segments * 1 =
      sum_by_le (λ (c : Cell). names x c.holds) 1 (state m).segments (All-from_get_or (λ (c : Cell). names x c.holds ≤ 1) (state m).segments none (λ i _. names_few x _)) in
      omega (arith, sim.counts x h, sim.shape.table, sim.shape.few_segments)

  pub lookers_small : (s : ℕ) → s < z.segments → get_or (state m).lookers s 0 < 65535
  lookers_small s h = omega (arith, sim.lookers s h, few (looks_at s) (looks_few s))
