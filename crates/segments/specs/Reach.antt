-- A page that is loaded, or a segment that is stored to, is reached in a frame. Assumes nothing.
use Rattle.std.specs.Prelude.{ℕ, Some, None, Option}
use Rattle.frames.specs.Cut.{stored}
use Rattle.tables.specs.State.{Spot, nowhere, blank, lies, walk, with_pages}
use Rattle.disk.specs.declared.registers.Taken.{Taken}
use Rattle.disk.specs.Whole.{Choice, Whole}
use Rattle.copies.specs.Own.{reached, with_state}

-- it is there, or comes in from the disk; the page of zeros and a page that is not there lie in no frame
abbrev pub reached_by : Choice → ℕ → Whole → Spot → Whole × Option Taken
reached_by choose frames w nowhere = (w, None)
reached_by choose frames w blank = (w, None)
reached_by choose frames w (lies x) = ((reached choose frames w x).0, Some (reached choose frames w x).1)

unfoldable pub reach_page : Choice → ℕ → Whole → ℕ → ℕ → Whole × Option Taken
reach_page choose frames w p v = reached_by choose frames w (walk w.state p v).spot

-- a byte stored in the frame that was reached
abbrev pub put_by : ℕ → ℕ → Whole → Option Taken → Whole × Option Taken
put_by o b w None = (w, None)
put_by o b w (Some t) = (with_state w (with_pages w.state (stored w.state.pages t.frame o b)), Some t)

unfoldable pub stored_to_segment : Choice → ℕ → Whole → ℕ → ℕ → ℕ → ℕ → Whole × Option Taken
stored_to_segment choose frames w p v o b = put_by o b (reach_page choose frames w p v).0 (reach_page choose frames w p v).1
