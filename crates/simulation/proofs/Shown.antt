-- What a walk answers, page by page of the private machine: where each page lies, with which bytes, and who else lies there.
use Rattle.std.proofs.Common.{◌≡◌, ℕ, ◌<◌, true, not, ltb, leb, ◌≢◌, List, get_or, replicate, sym, refl, ap, ◌∙◌, inl, inr, arith}
use Rattle.std.proofs.lemmas.Bool.{cases_lt}
use Rattle.std.proofs.lemmas.Bool.Decides.{nat_tests}
use Rattle.fold.specs.Fold.{Sizes, World, absent, own, seen, page}
use Rattle.frames.specs.Cut.{row}
use Rattle.tables.specs.Cells.{Held, nothing, zeros, at, segment}
use Rattle.tables.specs.State.{Walked, nowhere, blank, lies, walk, walked, walked_segment}
use Rattle.disk.specs.Follows.{bytes_at}
use Rattle.copies.specs.Laws.{copies_first}
use Rattle.copies.specs.Own.{must_copy}
use Rattle.calls.specs.Machine.{Machine}
use Rattle.calls.specs.Calls.{holds}
use Rattle.simulation.specs.Shown.{must, page_bytes}
use Rattle.simulation.proofs.Fork.{see_absent}
use Rattle.simulation.proofs.Hits.{looked_lies, sees, spot, walk_lies, walks_segment}
use Rattle.simulation.proofs.Room.{own_at}
use Rattle.simulation.proofs.Sim.{Sim, see, state}
use Rattle.simulation.proofs.Storing.{own_same}
use Rattle.simulation.proofs.Users.{copy_same}

module _ {z : Sizes} {lab : ℕ → ℕ} {m : Machine} {w : World} (sim : Sim z lab m w) where
  -- a walk of a page, by what its entry holds
  pub walks : (p v : ℕ) (h : Held) → holds m p v ≡ h → walk (state m) p v ≡ walked (state m).segments (state m).counts h
  walks p v h e = ap (walked (state m).segments (state m).counts) e

  -- the page that the private machine has, by what the entry holds
  pub page_as : (p v : ℕ) (h : Held) → holds m p v ≡ h → page w p v ≡ see lab (state m).pages h
  page_as p v h e = sees z lab m w sim p v h e

  pub absent_nowhere : (p v : ℕ) → page w p v ≡ absent → (walk (state m) p v).spot ≡ nowhere
  absent_nowhere p v e = spot (walks p v nothing (see_absent lab (state m).pages (holds m p v) (sym e ∙ sim.pages p v)))

  pub blank_zeros : (p v : ℕ) → (walk (state m) p v).spot ≡ blank → page w p v ≡ own 0 (replicate 256 0)
  blank_zeros p v e = by_held (holds m p v) refl
    where
      by_held : (h : Held) → holds m p v ≡ h → page w p v ≡ own 0 (replicate 256 0)
      by_held nothing k = absurd (let f : ◌≡◌ {A = ℕ} 0 1 = cc (spot (walks p v nothing k)) in omega arith)
      by_held zeros k = page_as p v zeros k
      by_held (at x) k = absurd (let f : ◌≡◌ {A = ℕ} 0 1 = cc (spot (walks p v (at x) k)) in omega arith)
      by_held (segment s) k = absurd (let f : ◌≡◌ {A = ℕ} 0 1 = cc (spot (walks_segment z lab m w sim p v s k)) in omega arith)

  -- an own page of label 0 has the entry zeros: every location that an entry names has another label
  zero_holds : (p v : ℕ) (ws : List ℕ) → page w p v ≡ own 0 ws → (h : Held) → holds m p v ≡ h → h ≡ zeros
  zero_holds p v ws e nothing k = absurd (let f : ◌≡◌ {A = ℕ} 0 1 = cc (page_as p v nothing k) in omega arith)
  zero_holds p v ws e zeros k = refl
  zero_holds p v ws e (at x) k = absurd ((sim.labels p v x k).1 (own_same (sym (page_as p v (at x) k) ∙ e)).0)
  zero_holds p v ws e (segment s) k = absurd (let f : ◌≡◌ {A = ℕ} 0 1 = cc (page_as p v (segment s) k) in omega arith)

  pub zero_blank : (p v : ℕ) (ws : List ℕ) → page w p v ≡ own 0 ws → (walk (state m) p v).spot ≡ blank
  zero_blank p v ws e = spot (walks p v zeros (zero_holds p v ws e (holds m p v) refl))

  -- a page that looks at a segment has that entry
  pub seen_holds : (p v s : ℕ) → page w p v ≡ seen s → (h : Held) → holds m p v ≡ h → h ≡ segment s
  seen_holds p v s e nothing k = absurd (let f : ◌≡◌ {A = ℕ} 0 1 = cc (page_as p v nothing k) in omega arith)
  seen_holds p v s e zeros k = absurd (let f : ◌≡◌ {A = ℕ} 0 1 = cc (page_as p v zeros k) in omega arith)
  seen_holds p v s e (at x) k = absurd (let f : ◌≡◌ {A = ℕ} 0 1 = cc (page_as p v (at x) k) in omega arith)
  seen_holds p v s e (segment t) k = let f : seen t ≡ seen s = sym (page_as p v (segment t) k) ∙ e in ap segment (let same : t ≡ s = cc in same)

  -- the bytes where a page lies are the page's
  pub shown : (p v : ℕ) → bytes_at (state m) (walk (state m) p v).spot ≡ page_bytes w (page w p v)
  shown p v = by_held (holds m p v) refl
    where
      by_held : (h : Held) → holds m p v ≡ h → bytes_at (state m) (walk (state m) p v).spot ≡ page_bytes w (page w p v)
      by_held nothing k = ap (bytes_at (state m)) (spot (walks p v nothing k)) ∙ sym (ap (page_bytes w) (page_as p v nothing k))
      by_held zeros k = ap (bytes_at (state m)) (spot (walks p v zeros k)) ∙ sym (ap (page_bytes w) (page_as p v zeros k))
      by_held (at x) k = ap (bytes_at (state m)) (spot (walks p v (at x) k)) ∙ sym (ap (page_bytes w) (page_as p v (at x) k))
      by_held (segment s) k =
          ap (bytes_at (state m)) (spot (walks_segment z lab m w sim p v s k)) ∙ (looked_lies z lab m w sim p v s k).bytes ∙ sym (ap (page_bytes w) (page_as p v (segment s) k))

  pub lies_shown : (p v x : ℕ) → (walk (state m) p v).spot ≡ lies x → (x < z.hold) × (row (state m).pages x ≡ page_bytes w (page w p v))
  lies_shown p v x e = ((walk_lies z lab m w sim p v x e).0, sym (ap (bytes_at (state m)) e) ∙ shown p v)

  -- a store copies where it must
  pub copies_when : (p v l : ℕ) (ws : List ℕ) → page w p v ≡ own l ws → copies_first m.whole p v ≡ must w l
  copies_when p v l ws e = by_held (holds m p v) refl
    where
      by_held : (h : Held) → holds m p v ≡ h → must_copy (state m).counts h ≡ must w l
      by_held nothing k = absurd (let f : ◌≡◌ {A = ℕ} 0 1 = cc (page_as p v nothing k) in omega arith)
      by_held zeros k = ap (must w) (own_same (sym (page_as p v zeros k) ∙ e)).0
      by_held (at x) k = sym (copy_same sim p v x k) ∙ ap (must w) (own_same (sym (page_as p v (at x) k) ∙ e)).0
      by_held (segment s) k = absurd (let f : ◌≡◌ {A = ℕ} 0 1 = cc (page_as p v (segment s) k) in omega arith)

  -- and a walk says so
  pub free_own : (p v l : ℕ) (ws : List ℕ) → page w p v ≡ own l ws → (walk (state m) p v).free ≡ not (must w l)
  free_own p v l ws e = by_held (holds m p v) refl ∙ ap not (copies_when p v l ws e)
    where
      turned : (n : ℕ) → leb n 1 ≡ not (ltb 1 n)
      turned n = elim (cases_lt 1 n) [ inl h ↦ grind (arith, nat_tests) | inr h ↦ grind (arith, nat_tests) ]

      by_held : (h : Held) → holds m p v ≡ h → (walked (state m).segments (state m).counts h).free ≡ not (must_copy (state m).counts h)
      by_held nothing k = absurd (let f : ◌≡◌ {A = ℕ} 0 1 = cc (page_as p v nothing k) in omega arith)
      by_held zeros k = refl
      by_held (at x) k = turned (get_or (state m).counts x 0)
      by_held (segment s) k = absurd (let f : ◌≡◌ {A = ℕ} 0 1 = cc (page_as p v (segment s) k) in omega arith)

  pub free_seen : (p v s : ℕ) → page w p v ≡ seen s → (walk (state m) p v).free ≡ true
  free_seen p v s e = ap (λ (a : Walked). a.free) (walks_segment z lab m w sim p v s (seen_holds p v s e (holds m p v) refl))

  -- an own page with a label lies where all pages of that label lie
  own_place : (p v l : ℕ) (ws : List ℕ) → l ≢ 0 → page w p v ≡ own l ws → (x : ℕ) × (holds m p v ≡ at x) × (lab x ≡ l)
  own_place p v l ws n e = own_at sim p v l ws n (holds m p v) refl (sym (sim.pages p v) ∙ e)

  pub own_lies : (p v l : ℕ) (ws : List ℕ) → l ≢ 0 → page w p v ≡ own l ws →
      (x : ℕ) × ((walk (state m) p v).spot ≡ lies x) × ((q u : ℕ) (us : List ℕ) → page w q u ≡ own l us → (walk (state m) q u).spot ≡ lies x)
  own_lies p v l ws n e =
      let a = own_place p v l ws n e in (
        a.0,
        spot (walks p v (at a.0) a.1),
        λ q u us f.
            let b = own_place q u l us n f in
            let same : b.0 ≡ a.0 = sim.apart q u p v b.0 a.0 b.1 a.1 (b.2 ∙ sym a.2) in
            spot (walks q u (at b.0) b.1) ∙ ap lies same,
      )

  -- and a segment where all who look at it find it
  pub seen_lies : (p v s : ℕ) → page w p v ≡ seen s →
      (x : ℕ) × ((walk (state m) p v).spot ≡ lies x) × ((q u : ℕ) → page w q u ≡ seen s → (walk (state m) q u).spot ≡ lies x)
  seen_lies p v s e =
      let a = looked_lies z lab m w sim p v s (seen_holds p v s e (holds m p v) refl) in
      let there : (q u : ℕ) → page w q u ≡ seen s → (walk (state m) q u).spot ≡ lies a.where_it_is =
      λ q u f. spot (walks q u (segment s) (seen_holds q u s f (holds m q u) refl)) ∙ spot (ap walked_segment a.at_it) in
      (a.where_it_is, there p v e, there)
