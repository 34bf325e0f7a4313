-- A byte of a frame, in the space of all locations.
use Rattle.std.proofs.Common.{◌≡◌, ℕ, ◌<◌, List, [], ◌++◌, get_or, set, sym, ap, ◌∙◌}
use Rattle.frames.specs.Cut.{cut, row, stored}
use Rattle.frames.proofs.Cut.{cut_length}
use Rattle.tables.proofs.Locations.{at_frame, put_frame}

module _ (frames places : ℕ) (bytes disk : List ℕ) (f o : ℕ) (h : f < frames) where
  pub frame_byte : get_or (row (cut 256 frames bytes) f) o 0 ≡ get_or (row (cut 256 frames bytes ++ cut 256 places disk) f) o 0
  frame_byte = ap (λ (ws : List ℕ). get_or ws o 0) (sym (at_frame (cut 256 frames bytes) (cut 256 places disk) frames (cut_length 256 frames bytes) f [] h))

  pub frame_stored : (after : List ℕ) (b : ℕ) → cut 256 frames after ≡ stored (cut 256 frames bytes) f o b →
      cut 256 frames after ++ cut 256 places disk ≡ stored (cut 256 frames bytes ++ cut 256 places disk) f o b
  frame_stored after b e =
      let ws = cut 256 frames bytes in
      let ds = cut 256 places disk in
      let long = cut_length 256 frames bytes in
      ap (λ (xs : List (List ℕ)). xs ++ ds) e ∙ put_frame ws ds frames long f (set (row ws f) o b) h ∙ ap (λ (xs : List ℕ). set (ws ++ ds) f (set xs o b)) (sym (at_frame ws ds frames long f [] h))
