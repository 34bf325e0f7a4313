-- Which sizes a machine may have, and the ten bytes that say them. Assumes nothing.
use Rattle.std.specs.Prelude.{ℕ, ◌+◌, ◌*◌, ◌≤◌, cond, ◌&&◌, List, [], ◌∷◌, Some, None, Option, nat_le, slice_index}
use Rattle.requests.specs.declared.answer.Refusal.{Refusal}
use Rattle.requests.specs.declared.answer.Refusal.TheVariants.{Size as TooFar}
use Rattle.requests.specs.declared.answer.Size.{Size}
use Rattle.requests.specs.declared.answer.Size.TheVariants.{Processes, Pages, Segments, Frames, Places}
use Rattle.requests.specs.declared.sizes.Sizes.{Sizes}

-- a size by name, what it is, and the least and the most that it may be
abbrev pub Ranged : Type 0
Ranged = Size × ℕ × ℕ × ℕ

-- the five, in the order in which they are looked at
abbrev pub ranged : Sizes → List Ranged
ranged z =
    (Processes, z.processes, 1, 16)
    ∷ (Pages, z.pages, 1, 64)
    ∷ (Segments, z.segments, 0, 16)
    ∷ (Frames, z.frames, 1, 512)
    ∷ (Places, z.places, 0, 512)
    ∷ []

-- the first that is out of its range
abbrev pub out_of_range : List Ranged → Option Refusal
out_of_range [] = None
out_of_range (s ∷ ss) = cond (nat_le s.2 s.1 && nat_le s.1 s.3) (out_of_range ss) (Some (TooFar s.0))

abbrev pub sizes_refusal : Sizes → Option Refusal
sizes_refusal z = out_of_range (ranged z)

-- each is in its range
abbrev pub InRange : List Ranged → Type 0
InRange [] = Unit {0}
InRange (s ∷ ss) = (s.2 ≤ s.1) × (s.1 ≤ s.3) × InRange ss

-- number k of two bytes each, the low one first; a byte that is missing counts as 0
abbrev pub number_at : List ℕ → ℕ → ℕ
number_at bytes k = slice_index bytes (2 * k) + 256 * slice_index bytes (2 * k + 1)

abbrev pub sizes_of : List ℕ → Sizes
sizes_of bytes =
    record {
      processes = number_at bytes 0;
      pages = number_at bytes 1;
      segments = number_at bytes 2;
      frames = number_at bytes 3;
      places = number_at bytes 4;
    }
