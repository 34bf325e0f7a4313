-- What the memory of the code is to the machine of private memories, and what one call does to it. Assumes nothing.
use Rattle.std.specs.Prelude.{◌≡◌, ℕ, suc, ◌+◌, ◌-◌, ◌<◌, Bool, true, false, not, ◌&&◌, ◌||◌, List, [], map, length, Ok, Err, Option, MatchOption, vec_items, Result, ◌==◌, nat_le, nat_lt, slice_index_or, slice_set}
use Rattle.fold.specs.Fold as fold
use Rattle.requests.specs.Meaning.{answered, seen_sizes}
use Rattle.requests.specs.declared.answer.Answer.{Answer}
use Rattle.requests.specs.declared.sizes.Sizes.{Sizes}
use Rattle.private.specs.SeePage.{see_process, matching, blank, rewritten_in}
use Rattle.private.specs.declared.memory.Memory.{Memory}
use Rattle.private.specs.declared.page.Sought.{Sought}
use Rattle.private.specs.declared.want.Want.{Want}

abbrev pub see : Memory → fold.World
see m =
    record {
      processes = map see_process (vec_items m.processes);
      segments = map vec_items (vec_items m.segments);
      next = m.next;
    }

abbrev pub alive_at : fold.World → ℕ → Bool
alive_at w p = (fold.process w p).alive

abbrev pub process_seen : fold.World → ℕ → fold.Process
process_seen w p = fold.process w p

abbrev pub page_at : fold.World → ℕ → ℕ → fold.Page
page_at w p v = fold.page w p v

-- how many pages of all that are there are sought
abbrev pub found : Sought → fold.World → ℕ
found k w = fold.over_all (matching k) w.processes

abbrev pub free_process : fold.World → ℕ
free_process w = fold.first_free w.processes

abbrev pub free_segment : fold.World → ℕ
free_segment w = fold.first_segment w 0 w.segments

-- segment s with other bytes
abbrev pub with_segment : fold.World → ℕ → List ℕ → fold.World
with_segment w s bytes = record { processes = w.processes; segments = slice_set w.segments s bytes; next = w.next }

-- the world after a store to an own page, which gets the label l
abbrev pub with_byte : fold.World → ℕ → ℕ → ℕ → ℕ → ℕ → fold.World
with_byte w p v l o x = fold.with_process w p (rewritten_in (fold.process w p) v l o x)

abbrev pub segment_at : fold.World → ℕ → List ℕ
segment_at w s = slice_index_or w.segments s []

-- process p once it has left
abbrev pub emptied : fold.World → ℕ → fold.Process
emptied w p = blank false (length (fold.process w p).pages)

-- what is asked of a method that makes the call c: an answer is the machine's answer, and leaves its world; an error leaves
-- the world as it was
abbrev pub Makes : Sizes → fold.Call → fold.World → Result Answer Want → fold.World → Type 0
Makes z c w (Ok a) w' = (w' ≡ (fold.call (seen_sizes z) w c).0) × (answered a ≡ (fold.call (seen_sizes z) w c).1)
Makes z c w (Err e) w' = w' ≡ w

-- page v of p is one that process p may have, and it is not there, or it is
abbrev pub inside_at : Sizes → fold.World → ℕ → ℕ → Bool
inside_at z w p v = fold.inside (seen_sizes z) w p v

abbrev pub reached_at : Sizes → fold.World → ℕ → ℕ → ℕ → Bool
reached_at z w p v o = fold.inside (seen_sizes z) w p v && nat_lt o 256

abbrev pub free_at : Sizes → fold.World → ℕ → ℕ → Bool
free_at z w p v = fold.inside (seen_sizes z) w p v && not (fold.there (fold.page w p v))

abbrev pub used_at : Sizes → fold.World → ℕ → ℕ → Bool
used_at z w p v = fold.inside (seen_sizes z) w p v && fold.there (fold.page w p v)

abbrev pub shared_at : fold.World → ℕ → Bool
shared_at w l = l == 0 || fold.more_than_one (fold.users w l)

-- how many segments somebody looks at, and how much is held in all
abbrev pub looked_at : fold.World → ℕ
looked_at w = fold.segments_from w (length w.segments)

abbrev pub all_held : fold.World → ℕ
all_held w = fold.held w

-- whether all that can be held is held
abbrev pub full_at : Sizes → fold.World → Bool
full_at z w = nat_le (z.frames + z.places) (fold.held w)

-- What holds of a machine's world at all times: a process that is there has as many pages as the sizes say, and labels are
-- below the next one.
abbrev pub Rows : Sizes → fold.World → Type 0
Rows z w = (p : ℕ) → (fold.process w p).alive ≡ true → length (fold.process w p).pages ≡ z.pages

-- and there is as much room as the sizes say, but always for one process
abbrev pub Room : Sizes → fold.World → Type 0
Room z w = (length w.processes ≡ suc (z.processes - 1)) × (length w.segments ≡ z.segments)

-- what is answered of a place that the rules count, where there are n: that place, or none if it is n
abbrev pub FoundAt : ℕ → ℕ → Option ℕ → Type 0
FoundAt place n r = MatchOption r (place ≡ n) (λ i. (i ≡ place) × (i < n))

abbrev pub label_of : fold.Page → ℕ
label_of fold.absent = 0
label_of (fold.own l ws) = l
label_of (fold.seen s) = 0

abbrev pub Labels : fold.World → Type 0
Labels w = (p v : ℕ) → label_of (fold.page w p v) < w.next

-- what a load answers
abbrev pub load_at : Sizes → ℕ → ℕ → ℕ → fold.World → fold.Answer
load_at z p v o w = (fold.call (seen_sizes z) w (fold.load p v o)).1
