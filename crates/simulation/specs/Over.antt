-- A number of each entry of the page tables, added up over all of them. Assumes nothing.
use Rattle.std.specs.Prelude.{ℕ, cond, List, sum_by, ◌==◌}
use Rattle.tables.specs.Cells.{Held, Cell, nothing, zeros, at, segment}

-- over a row, and over all rows
abbrev pub over_row : (Held → ℕ) → List Cell → ℕ
over_row f cs = sum_by (λ (c : Cell). f c.holds) cs

abbrev pub over : (Held → ℕ) → List (List Cell) → ℕ
over f rows = sum_by (over_row f) rows

-- 1 where an entry looks at segment s
abbrev pub looks_at : ℕ → Held → ℕ
looks_at s nothing = 0
looks_at s zeros = 0
looks_at s (at x) = 0
looks_at s (segment t) = cond (s == t) 1 0
