-- One space of locations: what stands at a frame or a place, and what a change of one of the two lists makes of the whole. Serves counts and
-- pages alike.
use Rattle.std.proofs.Common.{◌≡◌, ℕ, ◌+◌, ◌-◌, ◌<◌, List, ◌++◌, length, get_or, set, sym, ap, ◌∙◌, arith}
use Rattle.std.proofs.lemmas.List.{get_or_append_left, get_or-append_right, set-append_left, set-append_right}

module _ {X : Type 0} (frames places : List X) (n : ℕ) (e : length frames ≡ n) where
  pub at_frame : (f : ℕ) (d : X) → f < n → get_or (frames ++ places) f d ≡ get_or frames f d
  at_frame f d h = get_or_append_left frames places d f (omega arith)

  pub at_place : (i : ℕ) (d : X) → get_or (frames ++ places) (n + i) d ≡ get_or places i d
  at_place i d = get_or-append_right frames places n (n + i) d e (omega arith) ∙ ap (λ k. get_or places k d) (let s : n + i - n ≡ i = omega arith in s)

  pub put_frame : (f : ℕ) (x : X) → f < n → set frames f x ++ places ≡ set (frames ++ places) f x
  put_frame f x h = sym (set-append_left frames places f x (omega arith))

  pub put_place : (i : ℕ) (x : X) → frames ++ set places i x ≡ set (frames ++ places) (n + i) x
  put_place i x = sym (set-append_right frames places n (n + i) x e (omega arith) ∙ ap (λ k. frames ++ set places k x) (let s : n + i - n ≡ i = omega arith in s))
