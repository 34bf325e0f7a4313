-- A store that needs a page of its own: full where all is used up, else in a frame that nobody had, under a new label.
use Rattle.std.proofs.Common.{◌≡◌, ℕ, suc, ◌<◌, true, false, cond, ltb, leb, List, get_or, set, replicate, Some, None, Option, sym, refl, ap, ◌∙◌, subst, inl, inr, arith}
use Rattle.std.proofs.lemmas.Bool.{cases_Bool, cond-false, cond-true, false≢true, le-leb, leb-true, ltb-true}
use Rattle.fold.specs.Fold.{Answer, Sizes, World, done, full, held, own, page}
use Rattle.fold.proofs.Ways.{with_label}
use Rattle.frames.specs.Counts.{counted_down, counted_up}
use Rattle.frames.specs.Cut.{row}
use Rattle.tables.specs.Cells.{Held, nothing, zeros, at, segment}
use Rattle.lookaside.specs.declared.slots.Slot.{Slot}
use Rattle.disk.specs.declared.registers.Taken.{Taken}
use Rattle.disk.specs.Whole.{Choice, Whole, settled, take_frame, taken_by}
use Rattle.lookaside.proofs.Options.{none≢some}
use Rattle.disk.proofs.Taking.{none_only_if_full}
use Rattle.copies.specs.Anew.{filled_by, read_by, stored_anew, written_by}
use Rattle.copies.specs.Laws.{UsedUp}
use Rattle.copies.specs.Own.{must_copy}
use Rattle.copies.specs.Stores.{copy_stored, first_stored, own_cell}
use Rattle.calls.specs.Machine.{Machine, living, with_whole}
use Rattle.calls.specs.Calls.{holds, own_stored, stored_in}
use Rattle.simulation.specs.Run.{Usable}
use Rattle.simulation.proofs.Moves.{held_to}
use Rattle.simulation.proofs.Puts.{Put, copy_put, put_sim, put_state, put_walk, relabelled, zeros_put}
use Rattle.simulation.proofs.Room.{full_used_up, used_up_full}
use Rattle.simulation.proofs.Sim.{Sim, SlotsTrue, see, state}
use Rattle.simulation.proofs.Step.{Together}
use Rattle.simulation.proofs.Storing.{own_same, stored_so}
use Rattle.simulation.proofs.Taking.{settled_true, taken}

-- frame f is free: it becomes the page's own
module _ (z : Sizes) (lab : ℕ → ℕ) (m : Machine) (w : World) (sim : Sim z lab m w) (p v o b f : ℕ) (alive : living m p ≡ true) (range : v < z.pages)
    (within : f < m.frames) (free : get_or (state m).counts f 0 ≡ 0) (l : ℕ) (ws : List ℕ) (seen : page w p v ≡ own l ws)
    (hand reads writes : ℕ) (slots : List (Option Slot)) where
  there : f < z.hold
  there = omega (arith, sim.shape.within)

  filled_put : (cs : List ℕ) → Put z lab m w p v f w.next (suc w.next) cs → (us : List ℕ) → us ≡ ws →
      Together z (stored_in m p v (settled m.frames (put_state (state m) p v f (own_cell f) cs (set us o b)) hand reads writes slots) f) (with_label w p v (set ws o b), done 0)
  filled_put cs put us e =
      let now = with_whole m (settled m.frames (put_state (state m) p v f (own_cell f) cs (set us o b)) hand reads writes slots) in
      subst (λ ys. Together z (stored_in m p v now.whole f) (with_label w p v (set ys o b), done 0)) e
      (stored_so z (relabelled lab f w.next) now (with_label w p v (set us o b))
      (put_sim z lab m w sim p v f w.next (suc w.next) cs (set us o b) put (own_cell f) refl hand reads writes now.whole.slots)
      (settled_true m now.whole.state hand reads writes slots) p v f
      (put_walk z lab m w sim p v f w.next (suc w.next) cs (set us o b) put (own_cell f) refl hand reads writes now.whole.slots) within)

  -- the page that is copied is what the process sees
  copied : (h : Held) → holds m p v ≡ h → (us : List ℕ) (k : ℕ) → see lab (state m).pages h ≡ own k us → us ≡ ws
  copied h e us k is = (own_same (sym is ∙ sym (sim.pages p v ∙ ap (see lab (state m).pages) e) ∙ seen)).1

  filled : (h : Held) → holds m p v ≡ h → must_copy (state m).counts h ≡ true →
      Together z (stored_in m p v (settled m.frames (filled_by (state m) p v f o b h) hand reads writes slots) f) (with_label w p v (set ws o b), done 0)
  unfolding first_stored copy_stored
  filled nothing e must = absurd (false≢true must)
  filled (segment s) e must = absurd (false≢true must)
  filled zeros e must =
      filled_put (counted_up (state m).counts f) (zeros_put z lab m w sim p v alive range f there free e) (replicate 256 0) (copied zeros e (replicate 256 0) 0 refl)
  filled (at x) e must =
      filled_put (counted_up (counted_down (state m).counts x) f) (copy_put z lab m w sim p v alive range f there free x e (ltb-true 1 _ must)) (row (state m).pages x)
      (copied (at x) e (row (state m).pages x) (lab x) refl)

-- a page that has moved is copied where it was
still_copied : (to : ℕ → ℕ) (cs ds : List ℕ) → ((x : ℕ) → get_or ds (to x) 0 ≡ get_or cs x 0) → (h : Held) → must_copy ds (held_to to h) ≡ must_copy cs h
still_copied to cs ds same nothing = refl
still_copied to cs ds same zeros = refl
still_copied to cs ds same (at x) = ap (ltb 1) (same x)
still_copied to cs ds same (segment s) = refl

module _ (z : Sizes) (lab : ℕ → ℕ) (m : Machine) (w : World) (sim : Sim z lab m w) (all : SlotsTrue m) (choose : Choice) (usable : Usable choose m.frames)
    (p v o b : ℕ) (alive : living m p ≡ true) (range : v < z.pages) (l : ℕ) (ws : List ℕ) (seen : page w p v ≡ own l ws) where
  abbrev took : Whole × Option Taken
  took = take_frame choose m.frames m.whole

  abbrev answered : World × Answer
  answered = cond (leb z.hold (held w)) (w, full) (with_label w p v (set ws o b), done 0)

  nothing_taken : UsedUp m.frames m.whole → took.1 ≡ None
  unfolding take_frame
  nothing_taken u = λ i. (taken_by choose m.frames m.whole (u.frame i) (u.place i)).1

  room : (t : Taken) → took.1 ≡ Some t → leb z.hold (held w) ≡ false
  room t e =
      elim (cases_Bool (leb z.hold (held w))) [
        | inr less ↦ less
        | inl most ↦ absurd (none≢some t (sym (nothing_taken (full_used_up sim (leb-true _ _ most))) ∙ e))
      ]

  anew_by : must_copy (state m).counts (holds m p v) ≡ true → (t : Option Taken) → took.1 ≡ t →
      Together z (own_stored m p v (written_by m.frames took.0 p v o b t).0 (written_by m.frames took.0 p v o b t).1) answered
  anew_by must None e =
      let k = taken z lab m w sim choose usable in
      let n = none_only_if_full choose m.frames m.whole e in
      let used_up : leb z.hold (held w) ≡ true = le-leb _ _ (used_up_full sim (record { frame = n.frame; place = n.place })) in
      subst (λ r. Together z (with_whole m took.0, full) r) (sym (cond-true _ _ _ used_up))
      (record { lab = k.lab'; sim = k.moved.sim; slots = k.slots all; same = refl })
  anew_by must (Some t) e =
      let k = taken z lab m w sim choose usable in
      let now = with_whole m took.0 in
      let f = k.given t e in
      let h = holds now p v in
      let still : must_copy (state now).counts h ≡ true =
      ap (must_copy (state now).counts) (k.moved.entries p v) ∙ still_copied k.to (state m).counts (state now).counts k.moved.counts (holds m p v) ∙ must in
      subst (λ r. Together z (stored_in m p v (settled m.frames (filled_by took.0.state p v t.frame o b h) took.0.hand (read_by m.frames h took.0.reads) took.0.writes took.0.slots) t.frame) r) (sym (cond-false _ _ _ (room t e)))
      (filled z k.lab' now w k.moved.sim p v o b t.frame alive range f.0 f.1 l ws seen took.0.hand (read_by m.frames h took.0.reads) took.0.writes took.0.slots h refl still)

  pub anew_together : must_copy (state m).counts (holds m p v) ≡ true →
      Together z (own_stored m p v (stored_anew choose m.frames m.whole p v o b).0 (stored_anew choose m.frames m.whole p v o b).1) answered
  unfolding stored_anew
  anew_together must = anew_by must took.1 refl
