-- A slot is true where a walk answers it so, and a purge keeps just these. Assumes nothing.
use Rattle.std.specs.Prelude.{ℕ, Bool, false, cond, not, ◌&&◌, List, map, Some, None, Option, ◌==◌, nat_lt}
use Rattle.tables.specs.Cells.{Cell}
use Rattle.tables.specs.Rows.{entry_of}
use Rattle.tables.specs.State.{Spot, Walked, walked, nowhere, blank, lies}
use Rattle.lookaside.specs.declared.slots.Slot.{Slot}

abbrev pub lies_at : Spot → ℕ → Bool
lies_at nowhere f = false
lies_at blank f = false
lies_at (lies x) f = x == f

-- the walk comes to the slot's frame, which is one of the machine's, with the same right to store
abbrev pub answered_so : ℕ → Slot → Walked → Bool
answered_so frames s w = lies_at w.spot s.frame && nat_lt s.frame frames && cond w.free s.free (not s.free)

-- the walk in these rows, segments and counts answers the slot so
abbrev pub true_slot : List (List Cell) → List Cell → List ℕ → ℕ → Slot → Bool
true_slot rows segments counts frames s = answered_so frames s (walked segments counts (entry_of rows s.process s.page).holds)

abbrev pub kept_slot : List (List Cell) → List Cell → List ℕ → ℕ → Option Slot → Option Slot
kept_slot rows segments counts frames None = None
kept_slot rows segments counts frames (Some s) = cond (true_slot rows segments counts frames s) (Some s) None

abbrev pub purged : List (List Cell) → List Cell → List ℕ → ℕ → List (Option Slot) → List (Option Slot)
purged rows segments counts frames slots = map (kept_slot rows segments counts frames) slots
