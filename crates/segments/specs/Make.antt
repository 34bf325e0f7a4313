-- A segment is made. Assumes nothing.
use Rattle.std.specs.Prelude.{ℕ, replicate, Some, None, Option, slice_set}
use Rattle.frames.specs.Counts.{counted_up, lowest_free}
use Rattle.tables.specs.State.{State, with_counts, with_pages}
use Rattle.disk.specs.declared.registers.Taken.{Taken}
use Rattle.disk.specs.Whole.{Choice, Whole, settled, take_frame}
use Rattle.copies.specs.Stores.{own_cell}
use Rattle.segments.specs.declared.make.Made.{Made}
use Rattle.segments.specs.Release.{looked, with_segments}

-- segment s lies in frame f, which was free, all zeros
abbrev pub laid_in : State → ℕ → ℕ → State
laid_in m s f = with_segments (with_counts (with_pages m (slice_set m.pages f (replicate 256 0))) (counted_up m.counts f)) (slice_set m.segments s (own_cell f))

-- and page v of p looks at it
unfoldable pub made_in : State → ℕ → ℕ → ℕ → ℕ → State
made_in m p v s f = looked (laid_in m s f) p v s

-- full, or the segment in the frame that was taken
abbrev pub made_by : ℕ → Whole → ℕ → ℕ → ℕ → Option Taken → Whole × Option Made
made_by frames w p v s None = (w, None)
made_by frames w p v s (Some t) =
    (settled frames (made_in w.state p v s t.frame) w.hand w.reads w.writes w.slots, Some (record { segment = s; looks = t.looks }))

-- the lowest segment that nobody looks at; a frame is taken only if there is one
abbrev pub make_of : Choice → ℕ → Whole → ℕ → ℕ → Option ℕ → Whole × Option Made
make_of choose frames w p v None = (w, None)
make_of choose frames w p v (Some s) = made_by frames (take_frame choose frames w).0 p v s (take_frame choose frames w).1

unfoldable pub make_segment : Choice → ℕ → Whole → ℕ → ℕ → Whole × Option Made
make_segment choose frames w p v = make_of choose frames w p v (lowest_free w.state.lookers)
