-- The calls that a row says, as a list and one by one. Assumes nothing.
use Rattle.std.proofs.Common.{◌≡◌, ℕ, zero, suc, ◌+◌, ◌*◌, ◌/◌, ◌%◌, ◌<◌, ◌≤◌, Bool, true, false, cond, eqb, ltb, leb, List, [], ◌∷◌, ◌++◌, length, get_or, IfSome, Some, None, Option, sym, refl, ap, ◌∙◌, subst, ⊎_elim, add-zero, zero-add, arith}
use Rattle.requests.specs.declared.answer.Refusal.{Refusal}
use Rattle.requests.specs.declared.answer.Refusal.TheVariants.{Length, Kind}
use Rattle.requests.specs.declared.request.Call.{Call}
use Rattle.requests.specs.declared.request.Call.TheVariants.{Counts}
use Rattle.requests.specs.Kinds.{is_kind}
use Rattle.requests.specs.Row.{call_table, call_of, kind_at, call_at, calls_from, calls_of, unknown_from}
use Rattle.requests.specs.Row.{StoresByte, StoresBytes, RowSays, RowRefusesFirst, RowStores}
use Rattle.std.proofs.lemmas.Option.{slice_get-get_or, slice_get_past}
use Rattle.std.proofs.lemmas.Bool.{false≢true, leb-true, lt-ltb, le-ltb, and_parts, cases_lt, cases_eq, cases_Bool, cond-true, cond-false, cond_both}
use Rattle.std.specs.List.{slice_get}
use Rattle.std.specs.Option.{option_to_list}

-- nothing is refused only where the test holds and nothing is refused after it
passed : (t : Bool) (o : Option Refusal) (e : Refusal) → cond t o (Some e) ≡ None → (t ≡ true) × (o ≡ None)
passed true o e h = (refl, h)
passed false o e h = let z : ◌≡◌ {A = ℕ} 0 1 = cc in absurd (omega arith)

-- a kind from 1 to 9 says a call
kind_says : (k p v q u : ℕ) → is_kind k ≡ true → (c : Call) × (call_of k p v q u ≡ Some c)
kind_says zero p v q u h = absurd (false≢true h)
kind_says (suc k) p v q u h =
    let most : k < 9 = leb-true (suc k) 9 (and_parts (leb 1 (suc k)) (leb (suc k) 9) h).1 in
    (get_or (call_table p v q u) k Counts, slice_get-get_or (call_table p v q u) k Counts most)

-- the n calls from call i on, as a list and one by one
abbrev Says : List ℕ → ℕ → ℕ → Type 0
Says row n i = (length (calls_from row n i) ≡ n) × ((k : ℕ) → k < n → slice_get (calls_from row n i) k ≡ call_at row (i + k))

in_front : (row : List ℕ) (n i : ℕ) (c : Call) → call_at row i ≡ Some c → Says row n (i + 1) → (k : ℕ) → k < suc n → slice_get (c ∷ calls_from row n (i + 1)) k ≡ call_at row (i + k)
in_front row n i c is rest zero l = sym is ∙ ap (call_at row) (sym (add-zero i))
in_front row n i c is rest (suc k) l = rest.1 k (omega arith) ∙ ap (call_at row) (omega arith)

says : (row : List ℕ) (n i : ℕ) → i + n ≤ length row / 8 → unknown_from row n i ≡ None → Says row n i
unfolding calls_from unknown_from
says row zero i le h = (refl, λ k l. absurd (omega arith))
says row (suc n) i le h =
    let known = passed (is_kind (kind_at row i)) (unknown_from row n (i + 1)) (Kind i) h in
    let said = kind_says (kind_at row i) (get_or row (8 * i + 1) 0) (get_or row (8 * i + 2) 0) (get_or row (8 * i + 3) 0) (get_or row (8 * i + 4) 0) known.0 in
    let inside : i < length row / 8 = omega arith in
    let is : call_at row i ≡ Some said.0 = cond-true _ _ _ (lt-ltb i (length row / 8) inside) ∙ said.1 in
    let rest = says row n (i + 1) (omega arith) known.1 in
    let front = ap (λ o. option_to_list o ++ calls_from row n (i + 1)) is in
    (ap length front ∙ ap suc rest.0, λ k l. ap (λ cs. slice_get cs k) front ∙ in_front row n i said.0 is rest k l)

pub row_says : RowSays
unfolding calls_of
row_says row h =
    let n = length row / 8 in
    let whole = passed (eqb (length row % 8) 0) (unknown_from row n 0) (Length (length row)) h in
    let all = says row n 0 (omega arith) whole.1 in (
      all.0,
      λ i. ⊎_elim (λ l. all.1 i l ∙ ap (call_at row) (zero-add i))
          (λ ge. slice_get_past (calls_from row n 0) i (omega (arith, all.0)) ∙ sym (cond-false _ _ _ (le-ltb i n ge)))
          (cases_lt i n),
    )

-- of n calls from call i on, the one that is refused is the first with a kind that is none
abbrev First : List ℕ → ℕ → ℕ → ℕ → Type 0
First row n i j = (i ≤ j) × (j < i + n) × (is_kind (kind_at row j) ≡ false) × ((k : ℕ) → i ≤ k → k < j → is_kind (kind_at row k) ≡ true)

first_later : (row : List ℕ) (n i j : ℕ) → is_kind (kind_at row i) ≡ true → First row n (i + 1) j → First row (suc n) i j
first_later row n i j t rest =
    (omega arith, omega arith, rest.2, λ k ge lt. ⊎_elim (λ e. subst (λ (x : ℕ). is_kind (kind_at row x) ≡ true) e t) (λ ne. rest.3 k (omega arith) lt) (cases_eq i k))

first_here : (row : List ℕ) (n i j : ℕ) → is_kind (kind_at row i) ≡ false → i ≡ j → First row (suc n) i j
first_here row n i j f same =
    (omega arith, omega arith, subst (λ (x : ℕ). is_kind (kind_at row x) ≡ false) same f, λ k ge lt. absurd (omega arith))

first : (row : List ℕ) (n i j : ℕ) → unknown_from row n i ≡ Some (Kind j) → First row n i j
unfolding unknown_from
first row zero i j h = let z : ◌≡◌ {A = ℕ} 0 1 = cc in absurd (omega arith)
first row (suc n) i j h =
    ⊎_elim
    (λ t. first_later row n i j t (first row n (i + 1) j (sym (cond-true _ _ _ t) ∙ h)))
    (λ f. let e = sym (cond-false _ _ _ f) ∙ h in first_here row n i j f (cc))
    (cases_Bool (is_kind (kind_at row i)))

pub row_refuses_first : RowRefusesFirst
row_refuses_first row i h =
    let n = length row / 8 in
    let found_in : unknown_from row n 0 ≡ Some (Kind i) =
    ⊎_elim (λ t. sym (cond-true _ _ _ t) ∙ h)
    (λ f. let e = sym (cond-false _ _ _ f) ∙ h in let z : ◌≡◌ {A = ℕ} 0 1 = cc in absurd (omega arith))
    (cases_Bool (eqb (length row % 8) 0))
    in
    let one = first row n 0 i found_in in
    (omega arith, one.2, λ k lt. one.3 k (omega arith) lt)

nth_stores : (cs : List Call) (k : ℕ) → StoresBytes cs → IfSome (slice_get cs k) StoresByte
nth_stores [] k h = tt
nth_stores (c ∷ cs) zero h = h.0
nth_stores (c ∷ cs) (suc k) h = nth_stores cs k h.1

of_stores : (k p v q u : ℕ) → u < 256 → IfSome (call_of k p v q u) StoresByte
of_stores zero p v q u h = tt
of_stores (suc k) p v q u h = nth_stores (call_table p v q u) k (tt, (tt, (tt, (tt, (tt, (tt, (tt, (h, (tt, tt)))))))))

at_stores : (row : List ℕ) → ((k : ℕ) → get_or row k 0 < 256) → (i : ℕ) → IfSome (call_at row i) StoresByte
at_stores row small i =
    cond_both (ltb i (length row / 8)) _ None (λ o. IfSome o StoresByte)
    (λ t. of_stores (kind_at row i) (get_or row (8 * i + 1) 0) (get_or row (8 * i + 2) 0) (get_or row (8 * i + 3) 0) (get_or row (8 * i + 4) 0) (small (8 * i + 4)))
    (λ f. tt)

more_stores : (o : Option Call) (cs : List Call) → IfSome o StoresByte → StoresBytes cs → StoresBytes (option_to_list o ++ cs)
more_stores None cs h hs = hs
more_stores (Some c) cs h hs = (h, hs)

from_stores : (row : List ℕ) → ((k : ℕ) → get_or row k 0 < 256) → (n i : ℕ) → StoresBytes (calls_from row n i)
unfolding calls_from
from_stores row small zero i = tt
from_stores row small (suc n) i =
    more_stores (call_at row i) (calls_from row n (i + 1)) (at_stores row small i) (from_stores row small n (i + 1))

pub row_stores : RowStores
unfolding calls_of
row_stores row small = from_stores row small (length row / 8) 0
