-- A flat list as rows of the same length: memory as pages, a table as the rows of its processes. Assumes nothing.
use Rattle.std.specs.Prelude.{ℕ, zero, suc, List, [], ◌∷◌, take, drop, slice_index_or, slice_set}

-- the first n rows of w elements
unfoldable pub cut : {X : Type 0} → ℕ → ℕ → List X → List (List X)
cut w zero xs = []
cut w (suc n) xs = take w xs ∷ cut w n (drop w xs)

-- a row of such a list
abbrev pub row : {X : Type 0} → List (List X) → ℕ → List X
row rows d = slice_index_or rows d []

-- memory as its first n pages of 256 bytes
abbrev pub pages : ℕ → List ℕ → List (List ℕ)
pages n bytes = cut 256 n bytes

-- page f with its byte o written
abbrev pub stored : List (List ℕ) → ℕ → ℕ → ℕ → List (List ℕ)
stored ps f o b = slice_set ps f (slice_set (row ps f) o b)
