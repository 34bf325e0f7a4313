-- A table as the rows of its processes. Assumes nothing.
use Rattle.std.specs.Prelude.{ℕ, zero, suc, List, map, replicate, slice_index_or, slice_set}
use Rattle.frames.specs.Cut.{cut, row}
use Rattle.tables.specs.declared.entry.Limits.{Limits}
use Rattle.tables.specs.Cells.{Cell, none, decoded, marked}

-- a lent table as entries
abbrev pub cells : Limits → List ℕ → List Cell
cells z table = map (decoded z) table

-- and as n rows of so many pages
abbrev pub rows : Limits → ℕ → ℕ → List ℕ → List (List Cell)
rows z pages n table = cut pages n (cells z table)

abbrev pub entry_of : List (List Cell) → ℕ → ℕ → Cell
entry_of rs p v = slice_index_or (row rs p) v none

abbrev pub with_entry : List (List Cell) → ℕ → ℕ → Cell → List (List Cell)
with_entry rs p v c = slice_set rs p (slice_set (row rs p) v c)

abbrev pub cleared_row : List (List Cell) → ℕ → ℕ → List (List Cell)
cleared_row rs pages p = slice_set rs p (replicate pages none)

-- page v of the child becomes what page v of the parent is, and both are marked as shared
abbrev pub shared_entry : List (List Cell) → ℕ → ℕ → ℕ → List (List Cell)
shared_entry rs parent child v =
    with_entry (with_entry rs parent v (marked (entry_of rs parent v))) child v (marked (entry_of rs parent v))

-- the first n pages of the row, one after the other
unfoldable pub shared_row : List (List Cell) → ℕ → ℕ → ℕ → List (List Cell)
shared_row rs parent child zero = rs
shared_row rs parent child (suc n) = shared_entry (shared_row rs parent child n) parent child n
