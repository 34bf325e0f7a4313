-- What is counted entry by entry in a table is the sum over its rows.
use Rattle.std.proofs.Common.{◌≡◌, ℕ, zero, suc, ◌*◌, ◌==◌, Bool, true, false, cond, List, [], ◌∷◌, length, take, drop, count_by, sum_by, refl, sym, ap, ◌∙◌, arith}
use mathlib.Core.Path.{fun_ext}
use Rattle.std.proofs.lemmas.List.{length-drop, length-map}
use Rattle.std.proofs.lemmas.List.Sums.{sum_by-cons, sum_by-take-drop}
use Rattle.frames.specs.Cut.{cut}
use Rattle.tables.specs.Cells.{Held, Cell, nothing, zeros, at, segment, decoded}
use Rattle.tables.specs.Rows.{cells, rows}
use Rattle.tables.specs.declared.entry.Limits.{Limits}
use Rattle.disk.proofs.Follows.{sumBy_map}
use Rattle.simulation.specs.Over.{over, over_row}
use Rattle.sound.specs.Seek.{is_sought}
use Rattle.sound.specs.declared.seek.Sought.{Sought}
use Rattle.sound.specs.declared.seek.Sought.TheVariants.{Location, Segment}

bit : (b : Bool) → ◌≡◌ {A = ℕ} (cond (cond b 1 0 == 1) 1 0) (cond b 1 0)
bit true = refl
bit false = refl

once : (s : Sought) (h : Held) → ◌≡◌ {A = ℕ} (cond (is_sought s h == 1) 1 0) (is_sought s h)
once (Location x) nothing = refl
once (Location x) zeros = refl
once (Location x) (at y) = bit (x == y)
once (Location x) (segment t) = refl
once (Segment s) nothing = refl
once (Segment s) zeros = refl
once (Segment s) (at y) = refl
once (Segment s) (segment t) = bit (s == t)

pub counted : (s : Sought) (z : Limits) (codes : List ℕ) → count_by (λ n. is_sought s (decoded z n).holds == 1) codes ≡ over_row (is_sought s) (cells z codes)
counted s z codes =
    ap (λ (f : ℕ → ℕ). sum_by f codes) (fun_ext (λ n. once s (decoded z n).holds)) ∙ sym (sumBy_map (λ (c : Cell). is_sought s c.holds) (decoded z) codes)

sum_cut : {X : Type 0} (f : X → ℕ) (w n : ℕ) (xs : List X) → length xs ≡ n * w → sum_by (sum_by f) (cut w n xs) ≡ sum_by f xs
unfolding cut
sum_cut f w zero [] e = refl
sum_cut f w zero (x ∷ xs) e = absurd (omega arith)
sum_cut f w (suc n) xs e =
    let rest : length (drop w xs) ≡ n * w = omega (arith, length-drop w xs) in
    omega (arith, sum_by-cons (sum_by f) (take w xs) (cut w n (drop w xs)), sum_cut f w n (drop w xs) rest, sum_by-take-drop f xs w)

pub over_rows : (f : Held → ℕ) (z : Limits) (pages n : ℕ) (table : List ℕ) → length table ≡ n * pages → over f (rows z pages n table) ≡ over_row f (cells z table)
over_rows f z pages n table e = sum_cut (λ (c : Cell). f c.holds) pages n (cells z table) (length-map table (decoded z) ∙ e)
