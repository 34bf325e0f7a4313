-- A row cut into calls of eight bytes says and refuses what its bytes do. Assumes nothing.
use Rattle.std.proofs.Common.{◌≡◌, ℕ, zero, suc, ◌+◌, ◌*◌, ◌/◌, ◌%◌, ◌<◌, Bool, true, false, not, cond, eqb, List, length, get_or, take, drop, position, Some, Option, refl, sym, ap, ◌∙◌, arith, eq-eqb}
use Rattle.std.proofs.lemmas.Iterator.Adapters.{position_from-zero}
use Rattle.std.proofs.lemmas.Bool.{cond-true, lt-ltb}
use Rattle.std.proofs.lemmas.List.{drop-drop, get_or-drop, get_or-take}
use Rattle.std.specs.List.{position_from}
use Rattle.std.specs.Option.{option_map}
use Rattle.std.specs.Simd.{first_chunks}
use Rattle.requests.specs.declared.answer.Refusal.TheVariants.{Kind}
use Rattle.requests.specs.Kinds.{is_kind, unknown}
use Rattle.requests.specs.Row.{call_at, call_of, row_refusal, unknown_from}

next_call : (row : List ℕ) (i : ℕ) → drop 8 (drop (8 * i) row) ≡ drop (8 * (i + 1)) row
next_call row i = drop-drop 8 (8 * i) row ∙ ap (λ k. drop k row) (omega arith)

-- byte k of call i, at its place in the row
byte_of : (row : List ℕ) (i k j : ℕ) → k < 8 → 8 * i + k ≡ j → get_or (take 8 (drop (8 * i) row)) k 0 ≡ get_or row j 0
byte_of row i k j h e =
    get_or-take 8 (drop (8 * i) row) k 0 h ∙ get_or-drop (8 * i) row k 0 ∙ ap (λ (n : ℕ). get_or row n 0) e

chunk_at : (row : List ℕ) (n i : ℕ) (d : List ℕ) → i < n → get_or (first_chunks 8 n row) i d ≡ take 8 (drop (8 * i) row)
chunk_at row zero i d h = absurd (omega arith)
chunk_at row (suc n) zero d h = refl
chunk_at row (suc n) (suc i) d h =
    chunk_at (drop 8 row) n i d (omega arith) ∙ ap (take 8) (drop-drop (8 * i) 8 row ∙ ap (λ k. drop k row) (omega arith))

-- call i says what its bytes say
pub said : (row : List ℕ) (i : ℕ) (d : List ℕ) (call : List ℕ) → i < length row / 8 → call ≡ get_or (first_chunks 8 (length row / 8) row) i d → call_of (get_or call 0 0) (get_or call 1 0) (get_or call 2 0) (get_or call 3 0) (get_or call 4 0) ≡ call_at row i
said row i d call h e =
    let bytes = e ∙ chunk_at row (length row / 8) i d h in
    let place = λ (k j : ℕ) (l : k < 8) (s : 8 * i + k ≡ j). ap (λ xs. get_or xs k 0) bytes ∙ byte_of row i k j l s in
    rw (place 0 (8 * i) (omega arith) (omega arith), place 1 (8 * i + 1) (omega arith) refl, place 2 (8 * i + 2) (omega arith) refl, place 3 (8 * i + 3) (omega arith) refl, place 4 (8 * i + 4) (omega arith) refl)
    (sym (cond-true _ _ _ (lt-ltb i (length row / 8) h)))

turned : (known : Bool) (i : ℕ) (o : Option ℕ) → cond known (option_map Kind o) (Some (Kind i)) ≡ option_map Kind (cond (not known) (Some i) o)
turned true i o = refl
turned false i o = refl

-- the kinds of n calls from call i on
by_place : (row : List ℕ) (n i : ℕ) → unknown_from row n i ≡ option_map Kind (position_from unknown i (first_chunks 8 n (drop (8 * i) row)))
unfolding unknown_from
by_place row zero i = refl
by_place row (suc n) i =
    let first = byte_of row i 0 (8 * i) (omega arith) (omega arith) in
    rw (by_place row n (i + 1), ← next_call row i, ← first) (turned (is_kind (get_or (take 8 (drop (8 * i) row)) 0 0)) i _)

-- a row of whole calls is refused for its first kind that is none
pub refused_by_place : (row : List ℕ) (o : Option ℕ) → length row % 8 ≡ 0 → o ≡ position unknown (first_chunks 8 (length row / 8) row) → row_refusal row ≡ option_map Kind o
refused_by_place row o h e =
    let t : eqb (length row % 8) 0 ≡ true = eq-eqb (length row % 8) 0 h in
    simp t (by_place row (length row / 8) 0 ∙ ap (option_map Kind) (sym (e ∙ position_from-zero unknown (first_chunks 8 (length row / 8) row))))
