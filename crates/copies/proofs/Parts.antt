-- A count or a page that was changed in one of the two lists, in the space of all locations.
use Rattle.std.proofs.Common.{◌≡◌, ℕ, ◌+◌, ◌-◌, ◌<◌, min, List, [], ◌++◌, length, get_or, set, sym, ap, ◌∙◌}
use Rattle.std.proofs.lemmas.List.{get_or-set_same, set-set}
use Rattle.frames.specs.Counts.{counted_down, counted_up}
use Rattle.frames.specs.Cut.{stored}
use Rattle.tables.proofs.Locations.{at_frame, at_place, put_frame, put_place}

module _ (frames places : List ℕ) (n : ℕ) (e : length frames ≡ n) where
  pub up_frame : (f : ℕ) → f < n → counted_up frames f ++ places ≡ counted_up (frames ++ places) f
  up_frame f h =
      put_frame frames places n e f (min 65535 (get_or frames f 0 + 1)) h ∙ ap (λ c. set (frames ++ places) f (min 65535 (c + 1))) (sym (at_frame frames places n e f 0 h))

  pub down_frame : (f : ℕ) → f < n → counted_down frames f ++ places ≡ counted_down (frames ++ places) f
  down_frame f h =
      put_frame frames places n e f (get_or frames f 0 - 1) h ∙ ap (λ c. set (frames ++ places) f (c - 1)) (sym (at_frame frames places n e f 0 h))

  pub down_place : (d : ℕ) → frames ++ counted_down places d ≡ counted_down (frames ++ places) (n + d)
  down_place d = put_place frames places n e d (get_or places d 0 - 1) ∙ ap (λ c. set (frames ++ places) (n + d) (c - 1)) (sym (at_place frames places n e d 0))

-- a page that is written as a whole and then has one byte written
pub put_then_store : (ps : List (List ℕ)) (f o b : ℕ) (ws : List ℕ) → f < length ps → stored (set ps f ws) f o b ≡ set ps f (set ws o b)
put_then_store ps f o b ws h = set-set ps f ws _ ∙ ap (λ xs. set ps f (set xs o b)) (get_or-set_same ps f ws [] h)
