-- Nothing is lost and nothing is left over: who lies at one location, which locations are in use, and that pages may move.
use Rattle.std.proofs.Common.{◌≡◌, ℕ, ◌<◌, false, ◌≢◌, ◌⊎◌, get_or, Some, None, sym, refl, ap, ◌∙◌, inl, inr, arith}
use Rattle.std.proofs.lemmas.List.{get_or_past}
use Rattle.std.proofs.lemmas.Bool.{and_parts, cases_eq, cases_lt, cond-false, ltb-true}
use Rattle.fold.specs.Fold.{Sizes, World, absent, page}
use Rattle.fold.proofs.Held.{Looks, looks_of}
use Rattle.fold.proofs.Pages.{page_is}
use Rattle.tables.specs.Cells.{Held, Cell, none, nothing, zeros, at, segment}
use Rattle.tables.specs.State.{lies, walk, walked_segment}
use Rattle.lookaside.specs.declared.slots.Slot.{Slot}
use Rattle.disk.specs.Follows.{NobodyAt, names, segment_spot}
use Rattle.disk.specs.Frames.{Chooses, Ready}
use Rattle.disk.specs.Whole.{Choice}
use Rattle.calls.specs.Machine.{Machine, living}
use Rattle.calls.specs.Calls.{holds}
use Rattle.simulation.specs.Over.{over}
use Rattle.simulation.proofs.Hits.{lies_same, lies_there, same_right, spot, walk_lies}
use Rattle.simulation.proofs.Room.{segments_apart}
use Rattle.simulation.proofs.Shown.{absent_nowhere, page_as, seen_holds, walks}
use Rattle.simulation.proofs.Sim.{Sim, SlotsTrue, state}
use Rattle.simulation.proofs.Sums.{over_member}
use Rattle.simulation.proofs.Users.{lies_alone, lookers_same, names_some, no_segment_there, segment_names, segment_there}

-- where a segment lies is what its entry names
spot_at : (h : Held) (x : ℕ) → (walked_segment h).spot ≡ lies x → h ≡ at x
spot_at nothing x e = absurd (let f : ◌≡◌ {A = ℕ} 0 1 = cc in omega arith)
spot_at zeros x e = absurd (let f : ◌≡◌ {A = ℕ} 0 1 = cc in omega arith)
spot_at (at y) x e = ap at (lies_same e)
spot_at (segment s) x e = absurd (let f : ◌≡◌ {A = ℕ} 0 1 = cc in omega arith)

module _ {z : Sizes} {lab : ℕ → ℕ} {m : Machine} {w : World} (sim : Sim z lab m w) where
  -- a page lies at x because its entry names x, or because it looks at a segment that lies there
  lies_as : (p v x : ℕ) → (walk (state m) p v).spot ≡ lies x → (h : Held) → holds m p v ≡ h →
      (h ≡ at x) ⊎ ((s : ℕ) × (s < z.segments) × (h ≡ segment s) × ((get_or (state m).segments s none).holds ≡ at x))
  lies_as p v x e nothing k = absurd (let f : ◌≡◌ {A = ℕ} 0 1 = cc (spot (walks sim p v nothing k)) in omega arith)
  lies_as p v x e zeros k = absurd (let f : ◌≡◌ {A = ℕ} 0 1 = cc (spot (walks sim p v zeros k)) in omega arith)
  lies_as p v x e (at y) k = inl (ap at (lies_same (sym (spot (walks sim p v (at y) k)) ∙ e)))
  lies_as p v x e (segment s) k = inr (s, sim.looks p v s k, refl, spot_at _ x (sym (spot (walks sim p v (segment s) k)) ∙ e))

  -- two pages that lie at one location are the same page
  pub one_page : (p v q u x : ℕ) → (walk (state m) p v).spot ≡ lies x → (walk (state m) q u).spot ≡ lies x → page w p v ≡ page w q u
  one_page p v q u x e f =
      elim (lies_as p v x e (holds m p v) refl) [
        | inl a ↦
            elim (lies_as q u x f (holds m q u) refl) [
              | inl b ↦ page_as sim p v (at x) a ∙ sym (page_as sim q u (at x) b)
              | inr b ↦ absurd (omega (arith, no_segment_there sim p v x a, segment_names sim b.0 x b.1 b.3))
            ]
        | inr a ↦
            elim (lies_as q u x f (holds m q u) refl) [
              | inl b ↦ absurd (omega (arith, no_segment_there sim q u x b, segment_names sim a.0 x a.1 a.3))
              | inr b ↦
                  let same : a.0 ≡ b.0 = segments_apart sim a.0 b.0 x a.1 b.1 a.3 b.3 in
                  page_as sim p v (segment b.0) (a.2 ∙ ap segment same) ∙ sym (page_as sim q u (segment b.0) b.2)
            ]
      ]

  -- a segment that lies at x is one of the machine's, and x has the count 1
  segment_counted : (s x : ℕ) → segment_spot (state m) s ≡ lies x → (s < z.segments) × ((get_or (state m).segments s none).holds ≡ at x)
  segment_counted s x e =
      elim (cases_lt s z.segments) [
        | inl h ↦ (h, spot_at _ x e)
        | inr h ↦ absurd (let f : ◌≡◌ {A = ℕ} 0 1 = cc (ap (λ (c : Cell). (walked_segment c.holds).spot) (get_or_past (state m).segments s none (omega (arith, sim.shape.table)))) in omega arith)
      ]

  -- nobody lies at a location of count 0
  pub nobody_at : (x : ℕ) → get_or (state m).counts x 0 ≡ 0 → NobodyAt (state m) x
  nobody_at x free =
      record {
        page = λ p v e. (walk_lies z lab m w sim p v x e).1 free;
        segment = λ s e. let k = segment_counted s x e in omega (arith, (lies_alone sim s x k.0 k.1).1);
      }

  -- a segment that lies at x is looked at: a page lies there
  segment_seen : (s x : ℕ) → s < z.segments → (get_or (state m).segments s none).holds ≡ at x → (p : ℕ) × (v : ℕ) × ((walk (state m) p v).spot ≡ lies x)
  segment_seen s x h e = looked_at (looks_of w s (omega (arith, lookers_same sim s h, (lies_alone sim s x h e).2)))
    where
      looked_at : Looks w s → (p : ℕ) × (v : ℕ) × ((walk (state m) p v).spot ≡ lies x)
      looked_at (p, v, k) = (p, v, spot (walks sim p v (segment s) (seen_holds sim p v s k (holds m p v) refl)) ∙ spot (ap walked_segment e))

  -- and where a count is not 0, some page lies
  pub somebody_at : (x : ℕ) → x < z.hold → get_or (state m).counts x 0 ≢ 0 → (p : ℕ) × (v : ℕ) × ((walk (state m) p v).spot ≡ lies x)
  somebody_at x h some =
      elim (cases_lt 0 (over (names x) (state m).rows)) [
        | inl l ↦
            let e = over_member (names x) (state m).rows l in
            (e.0, e.1, spot (walks sim e.0 e.1 (at x) (names_some x _ e.4)))
        | inr g ↦ let s = segment_there sim x (omega (arith, sim.counts x h)) in segment_seen s.0 x s.1 s.2
      ]

  -- so when nobody is there, nothing is in use
  pub nothing_used : ((p : ℕ) → living m p ≡ false) → (x : ℕ) → get_or (state m).counts x 0 ≡ 0
  nothing_used gone x =
      elim (cases_lt x z.hold) [
        | inr past ↦ get_or_past (state m).counts x 0 (omega (arith, sim.shape.counts))
        | inl h ↦
            elim (cases_eq (get_or (state m).counts x 0) 0) [
              | inl e ↦ e
              | inr some ↦
                  let a = somebody_at x h some in
                  let none : page w a.0 a.1 ≡ absent = page_is w a.0 a.1 ∙ cond-false _ _ absent (sim.alive a.0 ∙ gone a.0) in
                  absurd (let f : ◌≡◌ {A = ℕ} 0 1 = cc (sym (absent_nowhere sim a.0 a.1 none) ∙ a.2) in omega arith)
            ]
      ]

  -- a slot of the look-aside table is what a walk answers
  pub slot_walk : SlotsTrue m → (i : ℕ) (s : Slot) → get_or m.whole.slots i None ≡ Some s →
      (walk (state m) s.process s.page ≡ record { spot = lies s.frame; free = s.free }) × (s.frame < m.frames)
  slot_walk all i s e =
      let right = and_parts _ _ (all i s e) in
      let there = and_parts _ _ right.0 in
      let where_it_is = lies_there _ s.frame there.0 in
      let may = same_right _ s.free right.1 in
      ((λ j. record { spot = where_it_is j; free = may j }), ltb-true s.frame m.frames there.1)

  -- pages may move: counts are right, and each location has its count and its page
  pub ready : (choose : Choice) → Chooses choose m.frames m.whole → Ready choose m.frames m.whole
  ready choose chooses =
      record {
        right = λ l h. sim.counts l (omega (arith, sim.shape.counts));
        chooses = chooses;
        within = omega (arith, sim.shape.within, sim.shape.counts);
        pages = sim.shape.pages ∙ sym sim.shape.counts;
      }
