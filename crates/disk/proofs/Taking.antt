-- A frame that was taken is free, and none is given only where nothing is.
use Rattle.std.proofs.Common.{◌≡◌, ℕ, ◌+◌, ◌<◌, ◌≤◌, ◌≢◌, List, length, get_or, Some, None, Option, sym, refl, ap, ◌∙◌, subst, arith, MatchOption}
use Rattle.std.proofs.lemmas.List.{get_or-take, get_or-drop, length-take, length-drop}
use Rattle.frames.specs.Counts.{lowest_free}
use Rattle.frames.proofs.Lowest.{lowest_is_free}
use Rattle.lookaside.proofs.Options.{none≢some, some_same}
use Rattle.disk.specs.declared.registers.Taken.{Taken}
use Rattle.disk.specs.Moves.{swap_at, relocated}
use Rattle.disk.specs.Whole.{Choice, Whole, free_frame, free_place, taken_by, take_frame}
use Rattle.disk.specs.Frames.{Chooses, TakenIsFree, NoneOnlyIfFull}
use Rattle.disk.proofs.Follows.{swap_first}

-- the lowest free index is within, and has count 0
pub free_at : (cs : List ℕ) (i : ℕ) → lowest_free cs ≡ Some i → (i < length cs) × (get_or cs i 0 ≡ 0)
free_at cs i e =
    let h = subst (λ (r : Option ℕ). MatchOption r ((k : ℕ) → k < length cs → get_or cs k 0 ≢ 0) (λ j. (j < length cs) × (get_or cs j 0 ≡ 0) × ((k : ℕ) → k < j → get_or cs k 0 ≢ 0))) e (lowest_is_free cs) in
    (h.0, h.1)

-- a free frame and a free place are locations of count 0
module _ (frames : ℕ) (w : Whole) where
  pub frame_free : (f : ℕ) → free_frame frames w ≡ Some f → (f < frames) × (get_or w.state.counts f 0 ≡ 0)
  frame_free f e =
      let free = free_at _ f e in
      let within : f < frames = omega (arith, free.0, length-take frames w.state.counts) in
      (within, sym (get_or-take frames w.state.counts f 0 within) ∙ free.1)

  pub place_free : (d : ℕ) → free_place frames w ≡ Some d → (frames + d < length w.state.counts) × (get_or w.state.counts (frames + d) 0 ≡ 0)
  place_free d e =
      let free = free_at _ d e in (omega (arith, free.0, length-drop frames w.state.counts), sym (get_or-drop frames w.state.counts d 0) ∙ free.1)

module _ (choose : Choice) (frames : ℕ) (w : Whole) where
  taken_free : (t : Taken) → frames ≤ length w.state.counts → Chooses choose frames w → (a b : Option ℕ) → free_frame frames w ≡ a → free_place frames w ≡ b →
      (taken_by choose frames w a b).1 ≡ Some t → get_or (taken_by choose frames w a b).0.state.counts t.frame 0 ≡ 0
  unfolding relocated
  taken_free t long ch (Some f) b e k h =
      let is : f ≡ t.frame = ap (λ (s : Taken). s.frame) (some_same h) in
      ap (λ n. get_or w.state.counts n 0) (sym is) ∙ (frame_free frames w f e).1
  taken_free t long ch None None e k h = absurd (none≢some t h)
  taken_free t long ch None (Some d) e k h =
      let f = (choose frames w.hand w.state.used).frame in
      let free = place_free frames w d k in
      let is : f ≡ t.frame = ap (λ (s : Taken). s.frame) (some_same h) in
      ap (λ n. get_or (swap_at f (frames + d) 0 w.state.counts) n 0) (sym is) ∙ swap_first f (frames + d) 0 w.state.counts (omega arith) free.0 ∙ free.1

  none_left : (a b : Option ℕ) → free_frame frames w ≡ a → free_place frames w ≡ b → (taken_by choose frames w a b).1 ≡ None → (a ≡ None) × (b ≡ None) × ((taken_by choose frames w a b).0 ≡ w)
  none_left (Some f) b e k h = absurd (none≢some _ (sym h))
  none_left None (Some d) e k h = absurd (none≢some _ (sym h))
  none_left None None e k h = (refl, refl, refl)

pub none_only_if_full : NoneOnlyIfFull
unfolding take_frame
none_only_if_full choose frames w h =
    let n = none_left choose frames w (free_frame frames w) (free_place frames w) refl refl h in record { frame = n.0; place = n.1; same = n.2 }

pub taken_is_free : TakenIsFree
unfolding take_frame
taken_is_free choose frames w t long ch h = taken_free choose frames w t long ch (free_frame frames w) (free_place frames w) refl refl h
