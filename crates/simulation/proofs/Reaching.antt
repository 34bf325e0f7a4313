-- A page is reached in a frame, whatever the choice: what is seen stays.
use Rattle.std.proofs.Common.{◌≡◌, ℕ, ◌+◌, ◌-◌, ◌<◌, ltb, ◌≢◌, get_or, Some, None, Option, sym, refl, ap, ◌∙◌, subst, arith}
use Rattle.std.proofs.lemmas.Bool.{cond_both, ltb-false, ltb-true}
use Rattle.fold.specs.Fold.{Sizes, World}
use Rattle.frames.specs.Cut.{row}
use Rattle.tables.specs.Cells.{at, swapped}
use Rattle.tables.specs.State.{lies, walk}
use Rattle.lookaside.proofs.Laws.{purged_is_true}
use Rattle.disk.specs.declared.registers.Taken.{Taken}
use Rattle.disk.specs.Moves.{relocated}
use Rattle.disk.specs.Whole.{Choice, Whole, bring_in, brought_by, fetched, free_frame, free_place, sent_out, traded}
use Rattle.disk.proofs.Follows.{swapped_other, swapped_y}
use Rattle.copies.specs.Own.{reached}
use Rattle.calls.specs.Machine.{Machine, with_whole}
use Rattle.calls.specs.Calls.{holds}
use Rattle.simulation.specs.Run.{Usable}
use Rattle.simulation.proofs.Hits.{walk_lies}
use Rattle.simulation.proofs.Moves.{Moved, exchange_moved, held_to, in_moved, moved_on, named_counted, spot_to, stayed, walk_moved}
use Rattle.simulation.proofs.Sim.{Sim, SlotsTrue, state}
use Rattle.simulation.proofs.Taking.{chosen, chosen_within, free_frame_at, free_place_at, sent, sent_free}

-- The page at x was asked for: r is what all is then, and the frame where the page is. A location that nobody names has no page: what was there need not land.
pub record Reached (z : Sizes) (lab : ℕ → ℕ) (m : Machine) (w : World) (x : ℕ) (r : Whole × Taken) : Type 0 where
  pub lab' : ℕ → ℕ
  pub to : ℕ → ℕ
  pub moved : Moved z lab m w r.0 lab' to
  pub within : r.1.frame < m.frames
  pub lands : get_or (state m).counts x 0 ≢ 0 → to x ≡ r.1.frame
  pub slots : SlotsTrue m → SlotsTrue (with_whole m r.0)

-- the page in place d comes to a frame that nobody names
fetched_moved : (z : Sizes) (lab : ℕ → ℕ) (m : Machine) (w : World) → Sim z lab m w → (f d : ℕ) → f < m.frames → m.frames + d < z.hold → get_or (state m).counts f 0 ≡ 0 →
    Moved z lab m w (fetched m.frames f d m.whole) (λ l. lab (swapped f (m.frames + d) l)) (swapped f (m.frames + d))
unfolding relocated
fetched_moved z lab m w sim f d hf hd free =
    in_moved z lab m w sim f (m.frames + d) (omega (arith, sim.shape.within)) hd (fetched m.frames f d m.whole) (state m).used sim.shape.used free refl

module _ (z : Sizes) (lab : ℕ → ℕ) (m : Machine) (w : World) (sim : Sim z lab m w) (choose : Choice) (usable : Usable choose m.frames) where
  -- it comes from place d: to a frame that is free; to the chosen one, whose page goes out first; or it changes places with that page
  brought : (d : ℕ) → m.frames + d < z.hold → (a b : Option ℕ) → free_frame m.frames m.whole ≡ a → free_place m.frames m.whole ≡ b →
      Reached z lab m w (m.frames + d) (brought_by choose m.frames d m.whole a b)
  brought d h (Some f) b e k =
      let free = free_frame_at z lab m w sim f e in
      record {
        lab' = λ l. lab (swapped f (m.frames + d) l);
        to = swapped f (m.frames + d);
        moved = fetched_moved z lab m w sim f d free.0 h free.1;
        within = free.0;
        lands = λ n. swapped_y f (m.frames + d);
        slots = λ all. purged_is_true _ _ _ m.frames m.whole.slots;
      }
  brought d h None (Some e) j k =
      let g = (chosen z lab m w sim choose usable).frame in
      let within : g < m.frames = chosen_within z lab m w sim choose usable in
      let out = sent z lab m w sim choose usable e k in
      let one = (sent_out choose m.frames e m.whole).0 in
      let back = fetched_moved z (λ l. lab (swapped g (m.frames + e) l)) (with_whole m one) w out.sim g d within h (sent_free z lab m w sim choose usable e k) in
      record {
        lab' = λ l. lab (swapped g (m.frames + e) (swapped g (m.frames + d) l));
        to = λ l. swapped g (m.frames + d) (swapped g (m.frames + e) l);
        moved = moved_on z lab m w one _ _ _ _ _ out back;
        within = within;
        lands = λ n.
            let other : m.frames + d ≢ m.frames + e = λ same. n (ap (λ l. get_or (state m).counts l 0) same ∙ (free_place_at z lab m w sim e k).1) in
            ap (swapped g (m.frames + d)) (swapped_other g (m.frames + e) (m.frames + d) (λ same. omega arith) other) ∙ swapped_y g (m.frames + d);
        slots = λ all. purged_is_true _ _ _ m.frames one.slots;
      }
  brought d h None None j k =
      let t = chosen z lab m w sim choose usable in
      let within : t.frame < m.frames = chosen_within z lab m w sim choose usable in
      record {
        lab' = λ l. lab (swapped t.frame (m.frames + d) l);
        to = swapped t.frame (m.frames + d);
        moved = exchange_moved z lab m w sim t.frame (m.frames + d) (omega (arith, sim.shape.within)) h (traded choose m.frames d m.whole).0 t.used
            (usable m.whole.hand (state m).used sim.shape.used).1 refl;
        within = within;
        lands = λ n. swapped_y t.frame (m.frames + d);
        slots = λ all. purged_is_true _ _ _ m.frames m.whole.slots;
      }

  -- a page that is in a frame already stays there
  pub page_reached : (x : ℕ) → x < z.hold → Reached z lab m w x (reached choose m.frames m.whole x)
  unfolding bring_in
  page_reached x h =
      cond_both (ltb x m.frames) _ _ (Reached z lab m w x)
      (λ e. record { lab' = lab; to = λ l. l; moved = stayed z lab m w sim; within = ltb-true x m.frames e; lands = λ n. refl; slots = λ all. all })
      (λ e. let is : m.frames + (x - m.frames) ≡ x = omega (arith, ltb-false x m.frames e) in
      subst (λ l. Reached z lab m w l (bring_in choose m.frames (x - m.frames) m.whole)) is
      (brought (x - m.frames) (omega (arith, is)) (free_frame m.frames m.whole) (free_place m.frames m.whole) refl refl))

-- what was at x is in the frame
module _ (z : Sizes) (lab : ℕ → ℕ) (m : Machine) (w : World) (sim : Sim z lab m w) (x : ℕ) (r : Whole × Taken) (k : Reached z lab m w x r) where
  pub reached_walk : (p v : ℕ) → (walk (state m) p v).spot ≡ lies x → walk r.0.state p v ≡ record { spot = lies r.1.frame; free = (walk (state m) p v).free }
  reached_walk p v e =
      let lands = k.lands (walk_lies z lab m w sim p v x e).1 in
      walk_moved z lab m w r.0 k.lab' k.to k.moved p v ∙ ap (λ s. record { spot = spot_to k.to s; free = (walk (state m) p v).free }) e
      ∙ ap (λ l. record { spot = lies l; free = (walk (state m) p v).free }) lands

  pub reached_holds : (p v : ℕ) → holds m p v ≡ at x → holds (with_whole m r.0) p v ≡ at r.1.frame
  reached_holds p v e = k.moved.entries p v ∙ ap (held_to k.to) e ∙ ap at (k.lands (named_counted z lab m w sim p v x e))

  pub reached_bytes : x < z.hold → get_or (state m).counts x 0 ≢ 0 → row r.0.state.pages r.1.frame ≡ row (state m).pages x
  reached_bytes h n = ap (row r.0.state.pages) (sym (k.lands n)) ∙ k.moved.bytes x h n

  pub reached_count : get_or (state m).counts x 0 ≢ 0 → get_or r.0.state.counts r.1.frame 0 ≡ get_or (state m).counts x 0
  reached_count n = ap (λ l. get_or r.0.state.counts l 0) (sym (k.lands n)) ∙ k.moved.counts x
