-- Names are counted up, and no entry changes.
use Rattle.std.proofs.Common.{◌≡◌, ℕ, zero, suc, refl, ◌∙◌}
use Rattle.tables.specs.Cells.{Held, nothing, zeros, at, segment}
use Rattle.tables.specs.State.{State}
use Rattle.calls.specs.Pages.{raised, raised_row}

raised_rows : (m : State) (h : Held) → (raised m h).rows ≡ m.rows
raised_rows m nothing = refl
raised_rows m zeros = refl
raised_rows m (at x) = refl
raised_rows m (segment s) = refl

pub raised_row_rows : (m : State) (p n : ℕ) → (raised_row m p n).rows ≡ m.rows
unfolding raised_row
raised_row_rows m p zero = refl
raised_row_rows m p (suc n) = raised_rows (raised_row m p n) _ ∙ raised_row_rows m p n
