-- The labels that pages have, as a list, and how many different ones are in a sorted list. Assumes nothing.
use Rattle.std.specs.Prelude.{ℕ, suc, cond, List, [], ◌∷◌, ◌++◌, ◌==◌}
use Rattle.fold.specs.Fold as fold

abbrev pub page_labels : List fold.Page → List ℕ
page_labels [] = []
page_labels (fold.absent ∷ ps) = page_labels ps
page_labels (fold.own l ws ∷ ps) = l ∷ page_labels ps
page_labels (fold.seen s ∷ ps) = page_labels ps

abbrev pub all_labels : List fold.Process → List ℕ
all_labels [] = []
all_labels (q ∷ qs) = cond q.alive (page_labels q.pages) [] ++ all_labels qs

-- how many times a number differs from the one before it, of which the first is last
abbrev pub changes : ℕ → List ℕ → ℕ
changes last [] = 0
changes last (x ∷ xs) = cond (x == last) (changes last xs) (suc (changes x xs))
