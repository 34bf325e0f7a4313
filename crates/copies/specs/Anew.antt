-- A store that needs a page of its own: it takes a frame first and then looks at the entry, since the hand may have sent the very page to the disk.
-- Assumes nothing.
use Rattle.std.specs.Prelude.{ℕ, true, cond, Some, None, Option, nat_le}
use Rattle.tables.specs.Cells.{Held, nothing, zeros, at, segment}
use Rattle.tables.specs.Rows.{entry_of}
use Rattle.tables.specs.State.{State}
use Rattle.disk.specs.declared.registers.Taken.{Taken}
use Rattle.disk.specs.Counted.{counted}
use Rattle.disk.specs.Whole.{Choice, Whole, settled, take_frame}
use Rattle.copies.specs.declared.anew.Written.{Written}
use Rattle.copies.specs.Stores.{copy_stored, first_stored}

-- frame f becomes the page's own, by what the entry names now
abbrev pub filled_by : State → ℕ → ℕ → ℕ → ℕ → ℕ → Held → State
filled_by m p v f o b nothing = m
filled_by m p v f o b zeros = first_stored m p v f o b
filled_by m p v f o b (at x) = copy_stored m p v x f o b
filled_by m p v f o b (segment s) = m

-- a page that lies on the disk is read
abbrev pub read_by : ℕ → Held → ℕ → ℕ
read_by frames nothing reads = reads
read_by frames zeros reads = reads
read_by frames (at x) reads = cond (nat_le frames x) (counted reads) reads
read_by frames (segment s) reads = reads

-- what page v of p is
abbrev pub holds_of : State → ℕ → ℕ → Held
holds_of m p v = (entry_of m.rows p v).holds

abbrev pub filled_anew : ℕ → Whole → ℕ → ℕ → ℕ → ℕ → ℕ → Whole
filled_anew frames w p v f o b =
    let h = holds_of w.state p v in
    settled frames (filled_by w.state p v f o b h) w.hand (read_by frames h w.reads) w.writes w.slots

-- full, with nothing changed, or the store in a frame of its own
abbrev pub written_by : ℕ → Whole → ℕ → ℕ → ℕ → ℕ → Option Taken → Whole × Option Written
written_by frames w p v o b None = (w, None)
written_by frames w p v o b (Some t) = (filled_anew frames w p v t.frame o b, Some (record { frame = t.frame; copied = true; looks = t.looks }))

unfoldable pub stored_anew : Choice → ℕ → Whole → ℕ → ℕ → ℕ → ℕ → Whole × Option Written
stored_anew choose frames w p v o b = written_by frames (take_frame choose frames w).0 p v o b (take_frame choose frames w).1
