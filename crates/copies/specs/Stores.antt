-- A store to an own page: in place, by a copy, or the first one to a page of zeros. Assumes nothing.
use Rattle.std.specs.Prelude.{ℕ, false, List, replicate, slice_set}
use Rattle.frames.specs.Counts.{counted_down, counted_up}
use Rattle.frames.specs.Cut.{row, stored}
use Rattle.tables.specs.Cells.{Cell, at}
use Rattle.tables.specs.Rows.{with_entry}
use Rattle.tables.specs.State.{State, with_counts, with_pages, with_rows}

-- an own page at location f that a store need not look at again
abbrev pub own_cell : ℕ → Cell
own_cell f = record { holds = at f; copy = false }

-- page v of p is at f now, which one more names
abbrev pub attached : State → ℕ → ℕ → ℕ → State
attached m p v f = with_counts (with_rows m (with_entry m.rows p v (own_cell f))) (counted_up m.counts f)

-- one less names x
abbrev pub released : State → ℕ → State
released m x = with_counts m (counted_down m.counts x)

-- the bytes at f are ws
abbrev pub filled : State → ℕ → List ℕ → State
filled m f ws = with_pages m (slice_set m.pages f ws)

-- the first store to a page of zeros, in frame f, which was free
unfoldable pub first_stored : State → ℕ → ℕ → ℕ → ℕ → ℕ → State
first_stored m p v f o b = attached (filled m f (slice_set (replicate 256 0) o b)) p v f

-- a store to a copy, in frame f, which was free, of the page at x, which stays with the others who have it
unfoldable pub copy_stored : State → ℕ → ℕ → ℕ → ℕ → ℕ → ℕ → State
copy_stored m p v x f o b = attached (filled (released m x) f (slice_set (row m.pages x) o b)) p v f

-- a store where nobody else has the page, in frame f: a mark that is still there is cleared
unfoldable pub stored_in_place : State → ℕ → ℕ → ℕ → ℕ → ℕ → State
stored_in_place m p v f o b = with_pages (with_rows m (with_entry m.rows p v (own_cell f))) (stored m.pages f o b)
