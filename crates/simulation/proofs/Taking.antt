-- A frame is taken, whatever the choice: what is seen stays, and the frame is free.
use Rattle.std.proofs.Common.{◌≡◌, ℕ, zero, suc, ◌+◌, ◌<◌, List, length, get_or, set, Some, None, Option, sym, refl, ap, ◌∙◌, subst, arith}
use Rattle.std.proofs.lemmas.List.{get_or-drop, get_or-take, length-drop, length-set, length-take}
use Rattle.std.proofs.lemmas.Bool.{cond_both}
use Rattle.fold.specs.Fold.{Sizes, World}
use Rattle.frames.specs.Turn.{Turned, next_frame, start, turn, turn_from}
use Rattle.frames.proofs.Turn.{hand_goes_round}
use Rattle.tables.specs.Cells.{swapped}
use Rattle.tables.specs.State.{State}
use Rattle.lookaside.specs.declared.slots.Slot.{Slot}
use Rattle.lookaside.proofs.Laws.{purged_is_true}
use Rattle.disk.specs.declared.registers.Taken.{Taken}
use Rattle.disk.specs.Whole.{Choice, Whole, free_frame, free_place, sent_out, settled, take_frame, taken_by}
use Rattle.disk.proofs.Follows.{swapped_y}
use Rattle.lookaside.proofs.Options.{none≢some, some_same}
use Rattle.disk.proofs.Taking.{free_at}
use Rattle.calls.specs.Machine.{Machine, with_whole}
use Rattle.simulation.specs.Run.{Usable}
use Rattle.simulation.proofs.Moves.{Moved, out_moved, stayed}
use Rattle.simulation.proofs.Sim.{Sim, SlotsTrue, state}

-- the hand only clears marks
marks_stay : (n more f k : ℕ) (used : List ℕ) → length (turn_from n more f k used).used ≡ length used
unfolding turn_from
marks_stay n zero f k used = refl
marks_stay n (suc more) f k used =
    cond_both _ _ _ (λ (t : Turned). length t.used ≡ length used) (λ e. refl) (λ e. marks_stay n more (next_frame n f) (k + 1) (set used f 0) ∙ length-set used f 0)

pub turn_usable : (frames : ℕ) → 0 < frames → Usable turn frames
turn_usable frames some hand used e =
    (subst (λ n. (turn n hand used).frame < n) e (hand_goes_round hand used (omega arith)).within, marks_stay frames frames (start frames hand) 0 used ∙ e)

-- the slots that a purge leaves are true
pub settled_true : (m : Machine) (s : State) (hand reads writes : ℕ) (slots : List (Option Slot)) → SlotsTrue (with_whole m (settled m.frames s hand reads writes slots))
settled_true m s hand reads writes slots = purged_is_true s.rows s.segments s.counts m.frames slots

-- a frame was asked for: r is what all is then, and the frame that was given
pub record Took (z : Sizes) (lab : ℕ → ℕ) (m : Machine) (w : World) (r : Whole × Option Taken) : Type 0 where
  pub lab' : ℕ → ℕ
  pub to : ℕ → ℕ
  pub moved : Moved z lab m w r.0 lab' to
  pub given : (t : Taken) → r.1 ≡ Some t → (t.frame < m.frames) × (get_or r.0.state.counts t.frame 0 ≡ 0)
  pub slots : SlotsTrue m → SlotsTrue (with_whole m r.0)

module _ (z : Sizes) (lab : ℕ → ℕ) (m : Machine) (w : World) (sim : Sim z lab m w) where
  pub free_frame_at : (f : ℕ) → free_frame m.frames m.whole ≡ Some f → (f < m.frames) × (get_or (state m).counts f 0 ≡ 0)
  free_frame_at f e =
      let free = free_at _ f e in
      let within : f < m.frames = omega (arith, free.0, length-take m.frames (state m).counts) in
      (within, sym (get_or-take m.frames (state m).counts f 0 within) ∙ free.1)

  pub free_place_at : (d : ℕ) → free_place m.frames m.whole ≡ Some d → (m.frames + d < z.hold) × (get_or (state m).counts (m.frames + d) 0 ≡ 0)
  free_place_at d e =
      let free = free_at _ d e in
      (omega (arith, free.0, length-drop m.frames (state m).counts, sim.shape.counts), sym (get_or-drop m.frames (state m).counts d 0) ∙ free.1)

  module _ (choose : Choice) (usable : Usable choose m.frames) where
    -- the frame that is chosen
    abbrev pub chosen : Turned
    chosen = choose m.frames m.whole.hand (state m).used

    pub chosen_within : chosen.frame < m.frames
    chosen_within = (usable m.whole.hand (state m).used sim.shape.used).0

    -- its page is out, at a place that was free
    pub sent : (d : ℕ) → free_place m.frames m.whole ≡ Some d →
        Moved z lab m w (sent_out choose m.frames d m.whole).0 (λ l. lab (swapped chosen.frame (m.frames + d) l)) (swapped chosen.frame (m.frames + d))
    sent d e =
        let free = free_place_at d e in
        out_moved z lab m w sim chosen.frame (m.frames + d) (omega (arith, chosen_within, sim.shape.within)) free.0 _ chosen.used
        (usable m.whole.hand (state m).used sim.shape.used).1 free.1 refl

    -- and nobody names it any more
    pub sent_free : (d : ℕ) → free_place m.frames m.whole ≡ Some d → get_or (sent_out choose m.frames d m.whole).0.state.counts chosen.frame 0 ≡ 0
    sent_free d e =
        ap (λ l. get_or (sent_out choose m.frames d m.whole).0.state.counts l 0) (sym (swapped_y chosen.frame (m.frames + d)))
        ∙ (sent d e).counts (m.frames + d) ∙ (free_place_at d e).1

    took_by : (a b : Option ℕ) → free_frame m.frames m.whole ≡ a → free_place m.frames m.whole ≡ b → Took z lab m w (taken_by choose m.frames m.whole a b)
    took_by (Some f) b e k =
        record {
          lab' = lab;
          to = λ l. l;
          moved = stayed z lab m w sim;
          given = λ t h. let same : f ≡ t.frame = ap (λ (s : Taken). s.frame) (some_same h) in subst (λ n. (n < m.frames) × (get_or (state m).counts n 0 ≡ 0)) same (free_frame_at f e);
          slots = λ all. all;
        }
    took_by None None e k =
        record { lab' = lab; to = λ l. l; moved = stayed z lab m w sim; given = λ t h. absurd (none≢some t h); slots = λ all. all }
    took_by None (Some d) e k =
        record {
          lab' = λ l. lab (swapped chosen.frame (m.frames + d) l);
          to = swapped chosen.frame (m.frames + d);
          moved = sent d k;
          given = λ t h.
              let same : chosen.frame ≡ t.frame = ap (λ (s : Taken). s.frame) (some_same h) in
              subst (λ n. (n < m.frames) × (get_or (sent_out choose m.frames d m.whole).0.state.counts n 0 ≡ 0)) same (chosen_within, sent_free d k);
          slots = λ all. purged_is_true _ _ _ m.frames m.whole.slots;
        }

    -- a frame that is given is free, and what is seen stays
    pub taken : Took z lab m w (take_frame choose m.frames m.whole)
    unfolding take_frame
    taken = took_by (free_frame m.frames m.whole) (free_place m.frames m.whole) refl refl
