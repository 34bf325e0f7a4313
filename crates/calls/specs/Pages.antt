-- What calls do to page tables and counts: map, fork, leave. Assumes nothing.
use Rattle.std.specs.Prelude.{ℕ, zero, suc, true}
use Rattle.frames.specs.Counts.{counted_up}
use Rattle.tables.specs.Cells.{Held, Cell, nothing, zeros, at, segment}
use Rattle.tables.specs.Rows.{entry_of, shared_row, with_entry}
use Rattle.tables.specs.State.{State, with_counts, with_rows}
use Rattle.segments.specs.Release.{dropped, with_lookers}

-- a page of zeros is marked from the start: a store has to give it a page of its own
abbrev pub zero_cell : Cell
zero_cell = record { holds = zeros; copy = true }

unfoldable pub mapped : State → ℕ → ℕ → State
mapped m p v = with_rows m (with_entry m.rows p v zero_cell)

-- what an entry names has one name more
abbrev pub raised : State → Held → State
raised m nothing = m
raised m zeros = m
raised m (at x) = with_counts m (counted_up m.counts x)
raised m (segment s) = with_lookers m (counted_up m.lookers s)

-- what each of the first n pages of p names has one name more
unfoldable pub raised_row : State → ℕ → ℕ → State
raised_row m p zero = m
raised_row m p (suc n) = raised (raised_row m p n) (entry_of m.rows p n).holds

-- the child has the pages of its parent: no page is copied
unfoldable pub forked : State → ℕ → ℕ → ℕ → State
forked m parent child pages = with_rows (raised_row m parent pages) (shared_row m.rows parent child pages)

-- the first n pages of p are dropped, one after the other
unfoldable pub dropped_row : State → ℕ → ℕ → State
dropped_row m p zero = m
dropped_row m p (suc n) = dropped (dropped_row m p n) p n
