-- A page goes out, a page comes in, two pages change places: in each two locations change their names. Assumes nothing.
use Rattle.std.specs.Prelude.{ℕ, List, [], map, slice_index_or, slice_set}
use Rattle.frames.specs.Cut.{row}
use Rattle.tables.specs.Cells.{renamed}
use Rattle.tables.specs.State.{Lent, State}

-- all that is lent, list by list
abbrev pub lent : List ℕ → List ℕ → List ℕ → List ℕ → List ℕ → List ℕ → List ℕ → List ℕ → Lent
lent table segments lookers frame_counts used place_counts frames disk =
    record {
      table = table;
      segments = segments;
      lookers = lookers;
      frame_counts = frame_counts;
      used = used;
      place_counts = place_counts;
      frames = frames;
      disk = disk;
    }

-- what stands at x and at y exchanged
abbrev pub swap_at : {X : Type 0} → ℕ → ℕ → X → List X → List X
swap_at x y d xs = slice_set (slice_set xs x (slice_index_or xs y d)) y (slice_index_or xs x d)

-- Every entry and segment that named x names y and the other way round, and the counts go with them. The pages are then ps.
unfoldable pub relocated : ℕ → ℕ → List (List ℕ) → State → State
relocated x y ps m =
    record {
      rows = map (map (renamed x y)) m.rows;
      segments = map (renamed x y) m.segments;
      lookers = m.lookers;
      counts = swap_at x y 0 m.counts;
      pages = ps;
      used = m.used;
    }

-- the page at location f goes to d, which is free
abbrev pub gone_out : ℕ → ℕ → State → State
gone_out f d m = relocated f d (slice_set m.pages d (row m.pages f)) m

-- the page at location d comes to f, which is free
abbrev pub come_in : ℕ → ℕ → State → State
come_in f d m = relocated f d (slice_set m.pages f (row m.pages d)) m

-- the pages at both change places
abbrev pub exchanged : ℕ → ℕ → State → State
exchanged f d m = relocated f d (swap_at f d [] m.pages) m
