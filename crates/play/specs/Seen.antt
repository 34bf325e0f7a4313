-- What a row of bytes prints by the machine of private memories. It has no disk, so the numbers that the counts call answers are handed to it in their order:
-- they are the manager's. Assumes nothing.
use Rattle.std.specs.Prelude.{ℕ, zero, suc, ◌+◌, ◌-◌, ◌*◌, ◌/◌, List, [], ◌∷◌, length, drop, Some, None, Option}
use Rattle.fold.specs.Fold as fold
use Rattle.requests.specs.Meaning.{Asked, asked, calls, counts, seen_sizes}
use Rattle.requests.specs.Ranges.{sizes_of, sizes_refusal}
use Rattle.requests.specs.Refusals.{either_refusal}
use Rattle.requests.specs.Row.{call_at, row_refusal}
use Rattle.requests.specs.declared.request.Call.{Call}
use Rattle.requests.specs.declared.sizes.Sizes.{Sizes}
use Rattle.calls.specs.Calls as rule
use Rattle.calls.specs.Machine.{Machine, first}
use Rattle.rows.specs.Played.{lines_from, unless}

-- the private machine, and the numbers that are left
abbrev pub Seen : Type 0
Seen = fold.World × List ℕ

abbrev pub next_number : fold.World → List ℕ → Seen × fold.Answer
next_number w [] = ((w, []), fold.done 0)
next_number w (n ∷ ns) = ((w, ns), fold.done n)

abbrev pub see : fold.Sizes → Seen → Asked → Seen × fold.Answer
see z s (calls k) = (((fold.call z s.0 k).0, s.1), (fold.call z s.0 k).1)
see z s counts = next_number s.0 s.1

-- reads × 65536 + writes of the manager at each counts call among n calls of a row from call i on
abbrev pub counted_by : fold.Sizes → Machine → Asked → (Machine → List ℕ) → List ℕ
counted_by z m (calls k) rest = rest (rule.calls z m k).0
counted_by z m counts rest = (m.whole.reads * 65536 + m.whole.writes) ∷ rest m

abbrev pub counted : fold.Sizes → Machine → Option Call → (Machine → List ℕ) → List ℕ
counted z m None rest = rest m
counted z m (Some c) rest = counted_by z m (asked c) rest

unfoldable pub counts_from : fold.Sizes → List ℕ → Machine → ℕ → ℕ → List ℕ
counts_from z row m zero i = []
counts_from z row m (suc n) i = counted z m (call_at row i) (λ k. counts_from z row k n (i + 1))

-- the lines of a row of n calls
abbrev pub seen_lines : Sizes → List ℕ → ℕ → List ℕ
seen_lines z row n =
    lines_from (see (seen_sizes z)) row
    (fold.begin (seen_sizes z) (z.processes - 1), counts_from (seen_sizes z) row (first (seen_sizes z) z.frames z.places) n 0) n 0

-- all that is printed: a refusal of the sizes, else one of the row, else a line for each call
abbrev pub seen_text : List ℕ → List ℕ
seen_text input =
    unless (either_refusal (sizes_refusal (sizes_of input)) (row_refusal (drop 10 input)))
    (seen_lines (sizes_of input) (drop 10 input) (length (drop 10 input) / 8))
