-- From what the parts of a move leave to what all lent memory means then.
use Rattle.std.proofs.Common.{◌≡◌, ℕ, ◌+◌, ◌<◌, List, ◌++◌, map, length, get_or, set, sym, ap, ◌∙◌}
use Rattle.std.proofs.lemmas.List.{length-set}
use Rattle.frames.specs.Cut.{cut}
use Rattle.frames.proofs.Cut.{cut_map}
use Rattle.tables.specs.declared.entry.Limits.{Limits}
use Rattle.tables.specs.Cells.{renamed}
use Rattle.tables.specs.Rows.{cells}
use Rattle.tables.specs.State.{Lent, view}
use Rattle.tables.proofs.Locations.{at_frame, at_place, put_frame, put_place}
use Rattle.disk.specs.Moves.{swap_at, relocated}

-- one from each list exchanged
pub swapped_lists : {X : Type 0} (frames places : List X) (n f d : ℕ) (x : X) → length frames ≡ n → f < n → set frames f (get_or places d x) ++ set places d (get_or frames f x) ≡ swap_at f (n + d) x (frames ++ places)
swapped_lists frames places n f d x e h =
    let at-d : get_or (frames ++ places) (n + d) x ≡ get_or places d x = at_place frames places n e d x in
    let at_f : get_or (frames ++ places) f x ≡ get_or frames f x = at_frame frames places n e f x h in
    put_place (set frames f (get_or places d x)) places n (length-set frames f _ ∙ e) d (get_or frames f x)
    ∙ ap (λ ys. set ys (n + d) (get_or frames f x)) (put_frame frames places n e f (get_or places d x) h)
    ∙ ap (λ y. set (set (frames ++ places) f y) (n + d) (get_or frames f x)) (sym at-d)
    ∙ ap (set (set (frames ++ places) f (get_or (frames ++ places) (n + d) x)) (n + d)) (sym at_f)

-- a page of one list put over one of the other
pub copied_out : {X : Type 0} (frames places : List X) (n f d : ℕ) (x : X) → length frames ≡ n → f < n → frames ++ set places d (get_or frames f x) ≡ set (frames ++ places) (n + d) (get_or (frames ++ places) f x)
copied_out frames places n f d x e h = put_place frames places n e d (get_or frames f x) ∙ ap (set (frames ++ places) (n + d)) (sym (at_frame frames places n e f x h))

pub copied_in : {X : Type 0} (frames places : List X) (n f d : ℕ) (x : X) → length frames ≡ n → f < n → set frames f (get_or places d x) ++ places ≡ set (frames ++ places) f (get_or (frames ++ places) (n + d) x)
copied_in frames places n f d x e h = put_frame frames places n e f (get_or places d x) h ∙ ap (set (frames ++ places) f) (sym (at_place frames places n e d x))

module _ (z : Limits) (before after : Lent) (x y : ℕ) where
  -- what the functions that a move calls leave, list by list
  pub record Parts (ps : List (List ℕ)) : Type 0 where
    pub table : cells z after.table ≡ map (renamed x y) (cells z before.table)
    pub segments : cells z after.segments ≡ map (renamed x y) (cells z before.segments)
    pub lookers : after.lookers ≡ before.lookers
    pub used : after.used ≡ before.used
    pub counts : after.frame_counts ++ after.place_counts ≡ swap_at x y 0 (before.frame_counts ++ before.place_counts)
    pub pages : cut 256 z.frames after.frames ++ cut 256 z.places after.disk ≡ ps

  pub relocated_view : (pages processes : ℕ) (ps : List (List ℕ)) → Parts ps → view z pages processes after ≡ relocated x y ps (view z pages processes before)
  unfolding view relocated
  relocated_view pages processes ps h =
      let rows = ap (cut pages processes) h.table ∙ cut_map (renamed x y) pages processes (cells z before.table) in
      λ i. record { rows = rows i; segments = h.segments i; lookers = h.lookers i; counts = h.counts i; pages = h.pages i; used = h.used i }
