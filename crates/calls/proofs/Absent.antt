-- The lowest process that is not there is the first index at which the library's `position` passes.
use Rattle.std.proofs.Common.{◌≡◌, ℕ, ◌+◌, Bool, true, false, not, List, [], ◌∷◌, sym, refl, ◌∙◌}
use Rattle.std.specs.List.{position, position_from}
use Rattle.std.proofs.lemmas.Iterator.Adapters.{position_from-zero}
use Rattle.calls.specs.Machine.{lowest_absent}

absent_position_from : (i : ℕ) (bs : List Bool) → lowest_absent i bs ≡ position_from not i bs
unfolding lowest_absent
absent_position_from i [] = refl
absent_position_from i (true ∷ bs) = absent_position_from (i + 1) bs
absent_position_from i (false ∷ bs) = refl

pub absent_position : (bs : List Bool) → position not bs ≡ lowest_absent 0 bs
absent_position bs = position_from-zero not bs ∙ sym (absent_position_from 0 bs)
