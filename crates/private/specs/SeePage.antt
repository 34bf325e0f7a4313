-- What a page and a process of the code are to the machine of private memories. Assumes nothing.
use Rattle.std.specs.Prelude.{ℕ, Bool, map, replicate, vec_items, slice_index_or, slice_set}
use Rattle.fold.specs.Fold as fold
use Rattle.private.specs.declared.page.Page.{Page}
use Rattle.private.specs.declared.page.Page.TheVariants.{Absent, Own, Segment}
use Rattle.private.specs.declared.page.Sought.{Sought}
use Rattle.private.specs.declared.page.Sought.TheVariants.{Labelled, Looking}
use Rattle.private.specs.declared.process.Process.{Process}

abbrev pub see_page : Page → fold.Page
see_page Absent = fold.absent
see_page (Own l bytes) = fold.own l (vec_items bytes)
see_page (Segment s) = fold.seen s

abbrev pub see_process : Process → fold.Process
see_process q = record { alive = q.alive; pages = map see_page (vec_items q.pages) }

-- 1 for a page that is sought, else 0
abbrev pub matching : Sought → fold.Page → ℕ
matching (Labelled l) = fold.is_own l
matching (Looking s) = fold.is_seen s

-- an own page with another label and one byte changed
abbrev pub rewritten : ℕ → ℕ → ℕ → fold.Page → fold.Page
rewritten l o x fold.absent = fold.absent
rewritten l o x (fold.own m ws) = fold.own l (slice_set ws o x)
rewritten l o x (fold.seen s) = fold.seen s

-- a process with no page, of n that it could have
abbrev pub blank : Bool → ℕ → fold.Process
blank alive n = record { alive = alive; pages = replicate n fold.absent }

abbrev pub put_in : fold.Process → ℕ → fold.Page → fold.Process
put_in q v x = record { alive = q.alive; pages = slice_set q.pages v x }

-- a process after a store to its own page v
abbrev pub rewritten_in : fold.Process → ℕ → ℕ → ℕ → ℕ → fold.Process
rewritten_in q v l o x = put_in q v (rewritten l o x (slice_index_or q.pages v fold.absent))
