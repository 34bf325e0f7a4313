-- Sixteen slots: find and put. Assumes nothing.
use Rattle.std.specs.Prelude.{ℕ, ◌+◌, ◌*◌, ◌%◌, Bool, cond, ◌&&◌, List, Some, None, Option, ◌==◌, nat_lt, slice_index_or, slice_set}
use Rattle.lookaside.specs.declared.slots.Slot.{Slot}

abbrev pub slot_of : ℕ → ℕ → ℕ
slot_of p v = (5 * p + v) % 16

-- the slot is that of page v of p, and its frame is one of the machine's
abbrev pub hits : ℕ → ℕ → ℕ → Slot → Bool
hits frames p v s = s.process == p && s.page == v && nat_lt s.frame frames

abbrev pub hit : ℕ → ℕ → ℕ → Option Slot → Option Slot
hit frames p v None = None
hit frames p v (Some s) = cond (hits frames p v s) (Some s) None

abbrev pub find_slot : List (Option Slot) → ℕ → ℕ → ℕ → Option Slot
find_slot slots frames p v = hit frames p v (slice_index_or slots (slot_of p v) None)

abbrev pub put_slot : List (Option Slot) → Slot → List (Option Slot)
put_slot slots s = slice_set slots (slot_of s.process s.page) (Some s)
