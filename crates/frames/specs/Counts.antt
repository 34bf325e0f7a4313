-- Tables of counts: the lowest index of count 0, one more and one less. Assumes nothing.
use Rattle.std.specs.Prelude.{◌≡◌, ℕ, ◌+◌, ◌-◌, ◌<◌, min, cond, ◌≢◌, List, [], ◌∷◌, length, Some, None, Option, MatchOption, ◌==◌, slice_index, slice_set}

-- the lowest index of count 0, from i on
unfoldable pub lowest_from : ℕ → List ℕ → Option ℕ
lowest_from i [] = None
lowest_from i (c ∷ cs) = cond (c == 0) (Some i) (lowest_from (i + 1) cs)

abbrev pub lowest_free : List ℕ → Option ℕ
lowest_free cs = lowest_from 0 cs

-- A count stops at 65535, the largest that a table can hold, and at 0.
abbrev pub counted_up : List ℕ → ℕ → List ℕ
counted_up cs i = slice_set cs i (min 65535 (slice_index cs i + 1))

abbrev pub counted_down : List ℕ → ℕ → List ℕ
counted_down cs i = slice_set cs i (slice_index cs i - 1)

-- The lowest free index has count 0 and every lower one has not; where there is none, no count is 0.
abbrev pub LowestIsFree : Type 0
LowestIsFree =
    (cs : List ℕ) → MatchOption (lowest_free cs) ((k : ℕ) → k < length cs → slice_index cs k ≢ 0) (λ i. (i < length cs) × (slice_index cs i ≡ 0) × ((k : ℕ) → k < i → slice_index cs k ≢ 0))

-- Counting changes one count by one, within what a table can hold, and no other.
abbrev pub CountsOne : Type 0
CountsOne =
    (cs : List ℕ) (i : ℕ) → i < length cs →
    (slice_index cs i < 65535 → slice_index (counted_up cs i) i ≡ slice_index cs i + 1) × (0 < slice_index cs i → slice_index (counted_down cs i) i + 1 ≡ slice_index cs i)
    × ((j : ℕ) → j ≢ i → (slice_index (counted_up cs i) j ≡ slice_index cs j) × (slice_index (counted_down cs i) j ≡ slice_index cs j))
