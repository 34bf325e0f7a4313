-- A store to an own page. Assumes nothing.
use Rattle.std.specs.Prelude.{ℕ, ◌-◌, Bool, true, false, cond, List, Some, None, Option, nat_lt, slice_index}
use Rattle.tables.specs.Cells.{Held, nothing, zeros, at, segment}
use Rattle.tables.specs.Rows.{entry_of}
use Rattle.tables.specs.State.{State}
use Rattle.disk.specs.declared.registers.Taken.{Taken}
use Rattle.disk.specs.Whole.{Choice, Whole, bring_in}
use Rattle.copies.specs.declared.anew.Written.{Written}
use Rattle.copies.specs.Anew.{stored_anew}
use Rattle.copies.specs.Stores.{stored_in_place}

-- The page of zeros is nobody's, so a store copies it; any other own page is copied if others have it too. The mark does not decide.
abbrev pub must_copy : List ℕ → Held → Bool
must_copy counts nothing = false
must_copy counts zeros = true
must_copy counts (at x) = nat_lt 1 (slice_index counts x)
must_copy counts (segment s) = false

-- the page at location x is in a frame: it is there already, or it comes in
abbrev pub reached : Choice → ℕ → Whole → ℕ → Whole × Taken
reached choose frames w x = cond (nat_lt x frames) (w, record { frame = x; looks = 0 }) (bring_in choose frames (x - frames) w)

abbrev pub with_state : Whole → State → Whole
with_state w s = record { state = s; hand = w.hand; reads = w.reads; writes = w.writes; slots = w.slots }

abbrev pub written_in : ℕ → ℕ → ℕ → ℕ → Whole × Taken → Whole × Option Written
written_in p v o b r =
    (with_state r.0 (stored_in_place r.0.state p v r.1.frame o b), Some (record { frame = r.1.frame; copied = false; looks = r.1.looks }))

-- where nobody else has the page; without a page of its own there is nothing to store to
abbrev pub alone_by : Choice → ℕ → Whole → ℕ → ℕ → ℕ → ℕ → Held → Whole × Option Written
alone_by choose frames w p v o b nothing = (w, None)
alone_by choose frames w p v o b zeros = (w, None)
alone_by choose frames w p v o b (at x) = written_in p v o b (reached choose frames w x)
alone_by choose frames w p v o b (segment s) = (w, None)

abbrev pub own_holds : Whole → ℕ → ℕ → Held
own_holds w p v = (entry_of w.state.rows p v).holds

unfoldable pub stored_own : Choice → ℕ → Whole → ℕ → ℕ → ℕ → ℕ → Whole × Option Written
stored_own choose frames w p v o b =
    cond (must_copy w.state.counts (own_holds w p v)) (stored_anew choose frames w p v o b) (alone_by choose frames w p v o b (own_holds w p v))
