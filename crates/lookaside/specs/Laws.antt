-- What makes the look-aside table safe to believe. Assumes nothing.
use Rattle.std.specs.Prelude.{◌≡◌, ℕ, ◌<◌, true, ◌≢◌, List, length, Some, None, Option, slice_index_or}
use Rattle.tables.specs.Cells.{Cell}
use Rattle.lookaside.specs.declared.slots.Slot.{Slot}
use Rattle.lookaside.specs.Purge.{purged, true_slot}
use Rattle.lookaside.specs.Slots.{find_slot, put_slot, slot_of}

-- after a purge every slot is what a walk answers
abbrev pub PurgedIsTrue : Type 0
PurgedIsTrue =
    (rows : List (List Cell)) (segments : List Cell) (counts : List ℕ) (frames : ℕ) (slots : List (Option Slot)) (i : ℕ) (s : Slot) →
    slice_index_or (purged rows segments counts frames slots) i None ≡ Some s → true_slot rows segments counts frames s ≡ true

-- and no slot goes that is
abbrev pub TrueIsKept : Type 0
TrueIsKept =
    (rows : List (List Cell)) (segments : List Cell) (counts : List ℕ) (frames : ℕ) (slots : List (Option Slot)) (i : ℕ) (s : Slot) →
    slice_index_or slots i None ≡ Some s → true_slot rows segments counts frames s ≡ true → slice_index_or (purged rows segments counts frames slots) i None ≡ Some s

-- what was put is found, and a page that has another slot is found as before
abbrev pub PutIsFound : Type 0
PutIsFound = (slots : List (Option Slot)) (frames : ℕ) (s : Slot) → length slots ≡ 16 → s.frame < frames → find_slot (put_slot slots s) frames s.process s.page ≡ Some s

abbrev pub OthersStay : Type 0
OthersStay =
    (slots : List (Option Slot)) (frames p v : ℕ) (s : Slot) → slot_of p v ≢ slot_of s.process s.page → find_slot (put_slot slots s) frames p v ≡ find_slot slots frames p v
