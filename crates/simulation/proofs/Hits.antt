-- What a walk answers is what is seen, and a slot that is found answers as a walk does.
use Rattle.std.proofs.Common.{◌≡◌, ℕ, ◌<◌, ◌≤◌, Bool, true, false, cond, not, ◌≢◌, get_or, replicate, Some, None, Option, sym, refl, ap, ◌∙◌, subst, inl, inr, arith}
use Rattle.std.proofs.lemmas.List.{get_or_past, get_or-replicate, length-replicate}
use Rattle.std.proofs.lemmas.Bool.{and_parts, cases_Bool, cases_lt, cond-false, cond-true, eq-eqb, eqb-true, false≢true, ltb-true}
use Rattle.fold.specs.Fold.{Sizes, World, absent, done, loaded, page}
use Rattle.frames.specs.Cut.{row}
use Rattle.tables.specs.Cells.{Held, nothing, zeros, at, segment}
use Rattle.tables.specs.State.{Spot, Walked, blank, lies, nowhere, walk, walked, walked_segment}
use Rattle.lookaside.specs.declared.slots.Slot.{Slot}
use Rattle.lookaside.specs.Purge.{lies_at}
use Rattle.lookaside.specs.Slots.{find_slot, hit, hits, slot_of}
use Rattle.lookaside.proofs.Options.{none≢some, some_same}
use Rattle.calls.specs.Machine.{Machine}
use Rattle.calls.specs.Calls.{holds}
use Rattle.simulation.specs.Over.{looks_at, over}
use Rattle.simulation.proofs.Moves.{named_counted}
use Rattle.simulation.proofs.Sim.{Lying, Sim, SlotsTrue, see, state}
use Rattle.simulation.proofs.Sums.{over_below}

pub spot : {a b : Walked} → a ≡ b → a.spot ≡ b.spot
spot e = ap (λ (a : Walked). a.spot) e

pub lies_same : {x y : ℕ} → lies x ≡ lies y → x ≡ y
lies_same e = cc

all_zeros : (o : ℕ) → get_or {A = ℕ} (replicate 256 0) o 0 ≡ 0
all_zeros o =
    elim (cases_lt o 256) [ inl h ↦ get_or-replicate 256 o 0 0 h | inr h ↦ get_or_past (replicate 256 0) o 0 (simp length-replicate h) ]

module _ (z : Sizes) (lab : ℕ → ℕ) (m : Machine) (w : World) (sim : Sim z lab m w) where
  -- a segment that an entry looks at lies somewhere
  pub looked_lies : (p v s : ℕ) → holds m p v ≡ segment s → Lying z m w s
  looked_lies p v s e =
      let h : s < z.segments = sim.looks p v s e in
      let here : looks_at s (holds m p v) ≡ 1 = ap (looks_at s) e ∙ cond-true _ 1 0 (eq-eqb s s refl) in
      let below : looks_at s (holds m p v) ≤ over (looks_at s) (state m).rows = over_below (looks_at s) refl (state m).rows p v in
      sim.lying s h (omega (arith, sim.lookers s h))

  -- what a walk of page v of p answers, by what the page is
  module _ (p v : ℕ) where
    walks : (h : Held) → holds m p v ≡ h → walk (state m) p v ≡ walked (state m).segments (state m).counts h
    walks h e = ap (walked (state m).segments (state m).counts) e

    pub walks_segment : (s : ℕ) (e : holds m p v ≡ segment s) → walk (state m) p v ≡ record { spot = lies (looked_lies p v s e).where_it_is; free = true }
    walks_segment s e = walks (segment s) e ∙ ap walked_segment (looked_lies p v s e).at_it

    pub sees : (h : Held) → holds m p v ≡ h → page w p v ≡ see lab (state m).pages h
    sees h e = sim.pages p v ∙ ap (see lab (state m).pages) e

    -- a page that lies at x: x is there and named, and the bytes there are seen
    abbrev pub SeenAt : ℕ → Type 0
    SeenAt x = (x < z.hold) × (get_or (state m).counts x 0 ≢ 0) × ((o : ℕ) → loaded w o (page w p v) ≡ done (get_or (row (state m).pages x) o 0))

    lies_by : (x : ℕ) (h : Held) → holds m p v ≡ h → (walk (state m) p v).spot ≡ lies x → SeenAt x
    unfolding loaded
    lies_by x nothing e k = absurd (let no : ◌≡◌ {A = ℕ} 0 1 = cc (spot (walks nothing e)) in omega arith)
    lies_by x zeros e k = absurd (let no : ◌≡◌ {A = ℕ} 0 1 = cc (spot (walks zeros e)) in omega arith)
    lies_by x (at y) e k =
        let same : y ≡ x = lies_same (sym (spot (walks (at y) e)) ∙ k) in
        subst SeenAt same ((sim.labels p v y e).0, named_counted z lab m w sim p v y e, λ o. ap (loaded w o) (sees (at y) e))
    lies_by x (segment s) e k =
        let l = looked_lies p v s e in
        let same : l.where_it_is ≡ x = lies_same (sym (spot (walks_segment s e)) ∙ k) in
        subst SeenAt same
        (l.within, λ no. (let one : ◌≡◌ {A = ℕ} 1 0 = sym l.alone ∙ no in omega arith), λ o. ap (loaded w o) (sees (segment s) e) ∙ ap (λ bs. done (get_or bs o 0)) (sym l.bytes))

    blank_by : (o : ℕ) (h : Held) → holds m p v ≡ h → (walk (state m) p v).spot ≡ blank → loaded w o (page w p v) ≡ done 0
    unfolding loaded
    blank_by o nothing e k = absurd (let no : ◌≡◌ {A = ℕ} 0 1 = cc (spot (walks nothing e)) in omega arith)
    blank_by o zeros e k = ap (loaded w o) (sees zeros e) ∙ ap done (all_zeros o)
    blank_by o (at y) e k = absurd (let no : ◌≡◌ {A = ℕ} 0 1 = cc (spot (walks (at y) e)) in omega arith)
    blank_by o (segment s) e k = absurd (let no : ◌≡◌ {A = ℕ} 0 1 = cc (spot (walks_segment s e)) in omega arith)

    nowhere_by : (h : Held) → holds m p v ≡ h → (walk (state m) p v).spot ≡ nowhere → page w p v ≡ absent
    nowhere_by nothing e k = sees nothing e
    nowhere_by zeros e k = absurd (let no : ◌≡◌ {A = ℕ} 0 1 = cc (spot (walks zeros e)) in omega arith)
    nowhere_by (at y) e k = absurd (let no : ◌≡◌ {A = ℕ} 0 1 = cc (spot (walks (at y) e)) in omega arith)
    nowhere_by (segment s) e k = absurd (let no : ◌≡◌ {A = ℕ} 0 1 = cc (spot (walks_segment s e)) in omega arith)

    pub walk_lies : (x : ℕ) → (walk (state m) p v).spot ≡ lies x → SeenAt x
    walk_lies x k = lies_by x (holds m p v) refl k

    pub walk_blank : (o : ℕ) → (walk (state m) p v).spot ≡ blank → loaded w o (page w p v) ≡ done 0
    walk_blank o k = blank_by o (holds m p v) refl k

    pub walk_nowhere : (walk (state m) p v).spot ≡ nowhere → page w p v ≡ absent
    walk_nowhere k = nowhere_by (holds m p v) refl k

-- a walk that a slot answers comes to the slot's frame
pub lies_there : (s : Spot) (f : ℕ) → lies_at s f ≡ true → s ≡ lies f
lies_there nowhere f e = absurd (false≢true e)
lies_there blank f e = absurd (false≢true e)
lies_there (lies x) f e = ap lies (eqb-true x f e)

pub same_right : (a b : Bool) → cond a b (not b) ≡ true → a ≡ b
same_right true b e = sym e
same_right false true e = e
same_right false false e = refl

-- a slot that is found is the one in its place, and of this page
found_there : (frames p v : ℕ) (o : Option Slot) (s : Slot) → hit frames p v o ≡ Some s → (o ≡ Some s) × (s.process ≡ p) × (s.page ≡ v)
found_there frames p v None s e = absurd (none≢some s e)
found_there frames p v (Some t) s e =
    elim (cases_Bool (hits frames p v t)) [
      | inr n ↦ absurd (none≢some s (sym (cond-false _ (Some t) None n) ∙ e))
      | inl y ↦
          let is : Some t ≡ Some s = sym (cond-true _ (Some t) None y) ∙ e in
          let mine = and_parts _ _ (and_parts _ _ y).0 in
          (is, subst (λ (u : Slot). u.process ≡ p) (some_same is) (eqb-true _ p mine.0), subst (λ (u : Slot). u.page ≡ v) (some_same is) (eqb-true _ v mine.1))
    ]

-- what a slot that is found says is what a walk answers
pub slot_walks : (m : Machine) (p v : ℕ) (s : Slot) → find_slot m.whole.slots m.frames p v ≡ Some s → SlotsTrue m →
    ((walk (state m) p v).spot ≡ lies s.frame) × ((walk (state m) p v).free ≡ s.free) × (s.frame < m.frames)
slot_walks m p v s e true-all =
    let f = found_there m.frames p v (get_or m.whole.slots (slot_of p v) None) s e in
    let right = and_parts _ _ (true-all (slot_of p v) s f.0) in
    let there = and_parts _ _ right.0 in
    let mine : walk (state m) s.process s.page ≡ walk (state m) p v = (λ i. walk (state m) (f.1 i) (f.2 i)) in
    (sym (spot mine) ∙ lies_there _ s.frame there.0, sym (ap (λ (a : Walked). a.free) mine) ∙ same_right _ s.free right.1, ltb-true s.frame m.frames there.1)
