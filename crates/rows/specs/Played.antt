-- What a row of calls prints. Assumes nothing.
use Rattle.std.specs.Prelude.{ℕ, zero, suc, ◌+◌, ◌/◌, List, [], ◌++◌, length, drop, Some, None, codes, decimal, Option}
use Rattle.fold.specs.Fold as fold
use Rattle.requests.specs.Meaning.{Asked, asked, seen_sizes}
use Rattle.requests.specs.Ranges.{sizes_of, sizes_refusal}
use Rattle.requests.specs.Refusals.{either_refusal}
use Rattle.requests.specs.Row.{call_at, row_refusal}
use Rattle.requests.specs.Text.{refusal_text}
use Rattle.requests.specs.declared.answer.Refusal.{Refusal}
use Rattle.requests.specs.declared.request.Call.{Call}
use Rattle.requests.specs.declared.sizes.Sizes.{Sizes}
use Rattle.calls.specs.Machine.{first}
use Rattle.calls.specs.Memory.{serve}

abbrev pub fold_text : fold.Answer → List ℕ
fold_text (fold.done n) = codes "done " ++ decimal n
fold_text fold.fault = codes "fault"
fold_text fold.full = codes "full"

-- the line of call i
abbrev pub line : ℕ → fold.Answer → List ℕ
line i a = decimal i ++ (codes " " ++ (fold_text a ++ codes "\n"))

-- What a machine of any kind prints, by how it serves what is asked.
module _ {M : Type 0} (serve : M → Asked → M × fold.Answer) where
  -- the line of call i, if there is such a call, and what the machine after it prints
  abbrev pub told : M → ℕ → Option Call → (M → List ℕ) → List ℕ
  told m i None rest = rest m
  told m i (Some c) rest = line i (serve m (asked c)).1 ++ rest (serve m (asked c)).0

  -- n lines from call i of a row on
  unfoldable pub lines_from : List ℕ → M → ℕ → ℕ → List ℕ
  lines_from row m zero i = []
  lines_from row m (suc n) i = told m i (call_at row i) (λ k. lines_from row k n (i + 1))

-- what the manager prints, from its opening on
abbrev pub row_text : Sizes → List ℕ → ℕ → List ℕ
row_text z row n = lines_from (serve (seen_sizes z)) row (first (seen_sizes z) z.frames z.places) n 0

abbrev pub unless : Option Refusal → List ℕ → List ℕ
unless None text = text
unless (Some e) text = refusal_text e ++ codes "\n"

-- all that is printed: a refusal of the sizes, else one of the row, else a line for each call
abbrev pub played_text : List ℕ → List ℕ
played_text input =
    unless (either_refusal (sizes_refusal (sizes_of input)) (row_refusal (drop 10 input)))
    (row_text (sizes_of input) (drop 10 input) (length (drop 10 input) / 8))
