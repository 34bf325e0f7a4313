-- A store: both machines answer the same and go on together, by a slot or by the entry.
use Rattle.std.proofs.Common.{◌≡◌, ℕ, ◌<◌, ◌≤◌, Bool, true, false, cond, ◌&&◌, ltb, get_or, set, replicate, Some, None, Option, sym, refl, ap, ◌∙◌, subst, inl, inr, arith}
use Rattle.std.proofs.lemmas.Bool.{and_parts, cases_Bool, cond_both, cond-false, cond-true, leb-true, le-ltb, ltb-false, ltb-true}
use Rattle.fold.specs.Fold.{Answer, Sizes, World, call, done, fault, inside, own, page, store, stored, with_page}
use Rattle.fold.proofs.Ways.{segment as bytes_of, with_segment}
use Rattle.frames.specs.Cut.{row}
use Rattle.tables.specs.Cells.{Held, none, nothing, zeros, at, segment}
use Rattle.tables.specs.State.{Walked, lies, walked, walked_segment}
use Rattle.lookaside.specs.declared.slots.Slot.{Slot}
use Rattle.disk.specs.Whole.{Choice, Whole}
use Rattle.copies.specs.declared.anew.Written.{Written}
use Rattle.copies.specs.Own.{alone_by, must_copy, reached, stored_own, written_in}
use Rattle.segments.specs.Reach.{put_by, reach_page, reached_by, stored_to_segment}
use Rattle.calls.specs.Machine.{Machine, living, with_whole}
use Rattle.calls.specs.Calls.{calls_by, holds, own_stored, segment_stored, slot_found, store_by, store_hit, store_walked}
use Rattle.simulation.specs.Run.{Usable}
use Rattle.simulation.proofs.Anew.{anew_together}
use Rattle.simulation.proofs.Hits.{looked_lies, sees, slot_walks, spot, walks_segment}
use Rattle.simulation.proofs.Moves.{held_to, named_counted}
use Rattle.simulation.proofs.Reaching.{page_reached, reached_count, reached_holds, reached_walk}
use Rattle.simulation.proofs.Sim.{Sim, SlotsTrue, see, state}
use Rattle.simulation.proofs.Step.{Together, carried}
use Rattle.simulation.proofs.Storing.{hit_alone, hit_segment, stored_alone, stored_segment}
use Rattle.simulation.proofs.Users.{copy_same}

module _ (z : Sizes) (lab : ℕ → ℕ) (m : Machine) (w : World) (sim : Sim z lab m w) (all : SlotsTrue m) (choose : Choice) (usable : Usable choose m.frames)
    (p v o b : ℕ) (alive : living m p ≡ true) (range : v < z.pages) where
  -- an own page that nobody else has is reached in a frame, and changes there
  reached_alone : (x : ℕ) → holds m p v ≡ at x → get_or (state m).counts x 0 ≤ 1 →
      Together z (own_stored m p v (written_in p v o b (reached choose m.frames m.whole x)).0 (written_in p v o b (reached choose m.frames m.whole x)).1)
      (with_page w p v (own (lab x) (set (row (state m).pages x) o b)), done 0)
  reached_alone x e few =
      let r = reached choose m.frames m.whole x in
      let k = page_reached z lab m w sim choose usable x (sim.labels p v x e).0 in
      stored_alone z k.lab' (with_whole m r.0) w k.moved.sim (k.slots all) p v o b r.1.frame k.within alive range (reached_holds z lab m w sim x r k p v e)
      (omega (arith, reached_count z lab m w sim x r k (named_counted z lab m w sim p v x e))) (lab x) (row (state m).pages x) (sees z lab m w sim p v (at x) e)

  -- and so does a segment, for all who look at it
  reached_segment : (s : ℕ) → holds m p v ≡ segment s →
      Together z (segment_stored m p v (stored_to_segment choose m.frames m.whole p v o b).0 (stored_to_segment choose m.frames m.whole p v o b).1)
      (with_segment w s (set (bytes_of w s) o b), done 0)
  unfolding stored_to_segment reach_page
  reached_segment s e =
      let l = looked_lies z lab m w sim p v s e in
      let x = l.where_it_is in
      let r = reached choose m.frames m.whole x in
      let k = page_reached z lab m w sim choose usable x l.within in
      let walks = walks_segment z lab m w sim p v s e in
      let here : (get_or r.0.state.segments s none).holds ≡ at r.1.frame =
      k.moved.segments s ∙ ap (held_to k.to) l.at_it ∙ ap at (k.lands (λ no. omega (arith, l.alone))) in
      subst (λ a. let q = put_by o b (reached_by choose m.frames m.whole a).0 (reached_by choose m.frames m.whole a).1 in
      Together z (segment_stored m p v q.0 q.1) (with_segment w s (set (bytes_of w s) o b), done 0)) (sym (spot walks))
      (stored_segment z k.lab' (with_whole m r.0) w k.moved.sim (k.slots all) p v o b r.1.frame k.within s (sim.looks p v s e) here
      (reached_walk z lab m w sim x r k p v (spot walks) ∙ ap (λ (a : Walked). record { spot = lies r.1.frame; free = a.free }) walks))

  -- a store by the entry
  walked_by : (h : Held) → holds m p v ≡ h → Together z (store_walked choose m p v o b h) (stored z w p v o b (see lab (state m).pages h))
  unfolding stored stored_own
  walked_by nothing e = record { lab = lab; sim = sim; slots = all; same = refl }
  walked_by zeros e =
      carried (ap (λ (q : Whole × Option Written). own_stored m p v q.0 q.1) (cond-true _ _ _ (ap (must_copy (state m).counts) e))) refl
      (anew_together z lab m w sim all choose usable p v o b alive range 0 (replicate 256 0) (sees z lab m w sim p v zeros e) (ap (must_copy (state m).counts) e))
  walked_by (at x) e =
      let same = copy_same sim p v x e in
      let must : must_copy (state m).counts (holds m p v) ≡ ltb 1 (get_or (state m).counts x 0) = ap (must_copy (state m).counts) e in
      elim (cases_Bool (ltb 1 (get_or (state m).counts x 0))) [
        | inl shared ↦
            carried (ap (λ (q : Whole × Option Written). own_stored m p v q.0 q.1) (cond-true _ _ _ (must ∙ shared))) (cond-true _ _ _ (same ∙ shared))
            (anew_together z lab m w sim all choose usable p v o b alive range (lab x) (row (state m).pages x) (sees z lab m w sim p v (at x) e) (must ∙ shared))
        | inr alone ↦
            carried (ap (λ (q : Whole × Option Written). own_stored m p v q.0 q.1) (cond-false _ _ _ (must ∙ alone) ∙ ap (alone_by choose m.frames m.whole p v o b) e))
            (cond-false _ _ _ (same ∙ alone)) (reached_alone x e (ltb-false 1 _ alone))
      ]
  walked_by (segment s) e = reached_segment s e

  -- a store by a slot: the walk finds the page in the slot's frame, where it may be stored to
  hit_by : (s : Slot) → s.frame < m.frames → (h : Held) → holds m p v ≡ h → (walked (state m).segments (state m).counts h).spot ≡ lies s.frame →
      (walked (state m).segments (state m).counts h).free ≡ true → Together z (store_hit m o b s) (stored z w p v o b (see lab (state m).pages h))
  unfolding stored
  hit_by s within nothing e k may = absurd (let no : ◌≡◌ {A = ℕ} 0 1 = cc in omega arith)
  hit_by s within zeros e k may = absurd (let no : ◌≡◌ {A = ℕ} 0 1 = cc in omega arith)
  hit_by s within (at x) e k may =
      let here : x ≡ s.frame = cc in
      let few : get_or (state m).counts x 0 ≤ 1 = leb-true _ 1 may in
      carried refl (cond-false _ _ _ (copy_same sim p v x e ∙ le-ltb 1 _ few))
      (hit_alone z lab m w sim all p v o b s.frame within alive range (e ∙ ap at here) (subst (λ f. get_or (state m).counts f 0 ≤ 1) here few) (lab x) (row (state m).pages x) (sees z lab m w sim p v (at x) e))
  hit_by s within (segment t) e k may =
      let l = looked_lies z lab m w sim p v t e in
      let here : lies l.where_it_is ≡ lies s.frame = sym (ap (λ h. (walked_segment h).spot) l.at_it) ∙ k in
      let same : l.where_it_is ≡ s.frame = cc in
      hit_segment z lab m w sim all p v o b s.frame within t (sim.looks p v t e) (l.at_it ∙ ap at same)

  -- a store by the slot that is found, if it says that no copy is needed, else by the entry
  found_by : (s : Option Slot) → slot_found m p v ≡ s → Together z (store_by choose m p v o b s) (stored z w p v o b (see lab (state m).pages (holds m p v)))
  found_by None e = walked_by (holds m p v) refl
  found_by (Some s) e =
      let is = slot_walks m p v s e all in
      cond_both s.free _ _ (λ r. Together z r (stored z w p v o b (see lab (state m).pages (holds m p v))))
      (λ free. hit_by s is.2 (holds m p v) refl is.0 (is.1 ∙ free)) (λ _. walked_by (holds m p v) refl)

module _ (z : Sizes) (lab : ℕ → ℕ) (m : Machine) (w : World) (sim : Sim z lab m w) (all : SlotsTrue m) (choose : Choice) (usable : Usable choose m.frames) (p v o b : ℕ) where
  -- what may not be asked for is a fault on both sides
  tested : (may : Bool) (r : Machine × Answer) (x : World × Answer) → (may ≡ true → Together z r x) → Together z (cond may r (m, fault)) (cond may x (w, fault))
  tested true r x t = t refl
  tested false r x t = record { lab = lab; sim = sim; slots = all; same = refl }

  pub store_together : Together z (calls_by choose z m (store p v o b)) (call z w (store p v o b))
  unfolding calls_by call inside
  store_together =
      let may : Bool → Bool = λ there. (there && ltb v z.pages) && ltb o z.words in
      subst (λ there. Together z (calls_by choose z m (store p v o b)) (cond (may there) (stored z w p v o b (page w p v)) (w, fault))) (sym (sim.alive p))
      (tested (may (living m p)) (store_by choose m p v o b (slot_found m p v)) (stored z w p v o b (page w p v)) (λ yes.
      let may-page = and_parts _ _ (and_parts _ _ yes).0 in
      carried refl (ap (stored z w p v o b) (sim.pages p v))
      (found_by z lab m w sim all choose usable p v o b may-page.0 (ltb-true v z.pages may-page.1) (slot_found m p v) refl)))
