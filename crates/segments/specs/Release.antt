-- A page looks at a segment, and a page of any kind is dropped. Assumes nothing.
use Rattle.std.specs.Prelude.{ℕ, false, cond, List, ◌==◌, slice_index, slice_index_or, slice_set}
use Rattle.frames.specs.Counts.{counted_down, counted_up}
use Rattle.tables.specs.Cells.{Held, Cell, none, nothing, zeros, at, segment}
use Rattle.tables.specs.Rows.{entry_of, with_entry}
use Rattle.tables.specs.State.{State, with_counts, with_rows}

abbrev pub with_lookers : State → List ℕ → State
with_lookers m ls = record { rows = m.rows; segments = m.segments; lookers = ls; counts = m.counts; pages = m.pages; used = m.used }

abbrev pub with_segments : State → List Cell → State
with_segments m ss = record { rows = m.rows; segments = ss; lookers = m.lookers; counts = m.counts; pages = m.pages; used = m.used }

abbrev pub segment_cell : ℕ → Cell
segment_cell s = record { holds = segment s; copy = false }

-- page v of p looks at segment s, which one more does
unfoldable pub looked : State → ℕ → ℕ → ℕ → State
looked m p v s = with_lookers (with_rows m (with_entry m.rows p v (segment_cell s))) (counted_up m.lookers s)

-- what lies at a location has one name less
abbrev pub lowered : State → Held → State
lowered m nothing = m
lowered m zeros = m
lowered m (at x) = with_counts m (counted_down m.counts x)
lowered m (segment s) = m

-- a segment that nobody looks at any more gives its location back and lies nowhere
abbrev pub given_back : State → ℕ → State
given_back m s = with_segments (lowered m (slice_index_or m.segments s none).holds) (slice_set m.segments s none)

-- one less looks at segment s
abbrev pub left : State → ℕ → State
left m s =
    let n = with_lookers m (counted_down m.lookers s) in cond (slice_index n.lookers s == 0) (given_back n s) n

-- what an entry named has one name less
abbrev pub unnamed : State → Held → State
unnamed m nothing = m
unnamed m zeros = m
unnamed m (at x) = with_counts m (counted_down m.counts x)
unnamed m (segment s) = left m s

-- page v of p is absent now
unfoldable pub dropped : State → ℕ → ℕ → State
dropped m p v = unnamed (with_rows m (with_entry m.rows p v none)) (entry_of m.rows p v).holds
