-- A row of calls as bytes, eight to a call: which calls it says, and why it is refused. Assumes nothing.
use Rattle.std.specs.Prelude.{◌≡◌, ℕ, zero, suc, ◌+◌, ◌*◌, ◌/◌, ◌%◌, ◌<◌, true, false, cond, ◌&&◌, List, [], ◌∷◌, ◌++◌, length, Some, None, Option, ◌==◌, nat_le, nat_lt, slice_index}
use Rattle.requests.specs.Kinds.{is_kind}
use Rattle.requests.specs.declared.answer.Refusal.{Refusal}
use Rattle.requests.specs.declared.answer.Refusal.TheVariants.{Length, Kind}
use Rattle.requests.specs.declared.request.Call.{Call}
use Rattle.requests.specs.declared.request.Call.TheVariants.{Fork, Leave, Map, Drop, Make, Look, Load, Store, Counts}
use Rattle.std.specs.Option.{option_to_list}
use Rattle.std.specs.List.{slice_get}

-- the call of each kind from 1 to 9, in that order
abbrev pub call_table : ℕ → ℕ → ℕ → ℕ → List Call
call_table p v q u =
    Fork p ∷ Leave p ∷ Map p v ∷ Drop p v ∷ Make p v ∷ Look p v q u ∷ Load p v q ∷ Store p v q u ∷ Counts ∷ []

-- the call that a kind and four more bytes say
abbrev pub call_of : ℕ → ℕ → ℕ → ℕ → ℕ → Option Call
call_of zero p v q u = None
call_of (suc k) p v q u = slice_get (call_table p v q u) k

-- The call that a kind and four numbers of any size say. What is stored has to be a byte: another number is a store past the end of the page, a fault.
abbrev pub call_of_numbers : ℕ → ℕ → ℕ → ℕ → ℕ → Option Call
call_of_numbers k p v q u = cond (k == 8 && nat_le 256 u) (Some (Store p v 256 0)) (call_of k p v q u)

abbrev pub kind_at : List ℕ → ℕ → ℕ
kind_at row i = slice_index row (8 * i)

-- Call i of a row, where the row has all of its bytes and its kind is one. The last three bytes are not read.
abbrev pub call_at : List ℕ → ℕ → Option Call
call_at row i =
    cond (nat_lt i (length row / 8))
    (call_of (kind_at row i) (slice_index row (8 * i + 1)) (slice_index row (8 * i + 2)) (slice_index row (8 * i + 3)) (slice_index row (8 * i + 4)))
    None

-- n calls of a row from call i on, but for those with a kind that is none
unfoldable pub calls_from : List ℕ → ℕ → ℕ → List Call
calls_from row zero i = []
calls_from row (suc n) i = option_to_list (call_at row i) ++ calls_from row n (i + 1)

unfoldable pub calls_of : List ℕ → List Call
calls_of row = calls_from row (length row / 8) 0

-- of n calls from call i on, the first with a kind that is none
unfoldable pub unknown_from : List ℕ → ℕ → ℕ → Option Refusal
unknown_from row zero i = None
unknown_from row (suc n) i = cond (is_kind (kind_at row i)) (unknown_from row n (i + 1)) (Some (Kind i))

-- the length is looked at before the kinds
abbrev pub row_refusal : List ℕ → Option Refusal
row_refusal row = cond (length row % 8 == 0) (unknown_from row (length row / 8) 0) (Some (Length (length row)))

-- the byte of a store is one
abbrev pub StoresByte : Call → Type 0
StoresByte (Fork p) = Unit {0}
StoresByte (Leave p) = Unit {0}
StoresByte (Map p v) = Unit {0}
StoresByte (Drop p v) = Unit {0}
StoresByte (Make p v) = Unit {0}
StoresByte (Look p v q u) = Unit {0}
StoresByte (Load p v o) = Unit {0}
StoresByte (Store p v o x) = x < 256
StoresByte Counts = Unit {0}

abbrev pub StoresBytes : List Call → Type 0
StoresBytes [] = Unit {0}
StoresBytes (c ∷ cs) = StoresByte c × StoresBytes cs

-- a row that is not refused says one call for each eight bytes, and call i is the one that its bytes say
abbrev pub RowSays : Type 0
RowSays = (row : List ℕ) → row_refusal row ≡ None → (length (calls_of row) ≡ length row / 8) × ((i : ℕ) → slice_get (calls_of row) i ≡ call_at row i)

-- a kind that is refused is the first that is none
abbrev pub RowRefusesFirst : Type 0
RowRefusesFirst =
    (row : List ℕ) (i : ℕ) → row_refusal row ≡ Some (Kind i) → (i < length row / 8) × (is_kind (kind_at row i) ≡ false) × ((k : ℕ) → k < i → is_kind (kind_at row k) ≡ true)

-- what a row of bytes stores are bytes
abbrev pub RowStores : Type 0
RowStores = (row : List ℕ) → ((k : ℕ) → slice_index row k < 256) → StoresBytes (calls_of row)
