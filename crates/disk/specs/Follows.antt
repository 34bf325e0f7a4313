-- What moving pages keeps: where a page lies follows the page, its bytes stay, and counts stay right. Assumes nothing.
use Rattle.std.specs.Prelude.{◌≡◌, ℕ, ◌+◌, ◌<◌, cond, ◌≢◌, List, [], length, replicate, sum_by, ◌==◌, slice_index, slice_index_or}
use Rattle.frames.specs.Cut.{row}
use Rattle.tables.specs.Cells.{Held, Cell, none, nothing, zeros, at, segment, swapped}
use Rattle.tables.specs.State.{State, Spot, nowhere, blank, lies, walk, walked_segment}
use Rattle.disk.specs.Moves.{come_in, exchanged, gone_out, relocated}

abbrev pub spot_moved : ℕ → ℕ → Spot → Spot
spot_moved x y nowhere = nowhere
spot_moved x y blank = blank
spot_moved x y (lies l) = lies (swapped x y l)

-- where a segment lies
abbrev pub segment_spot : State → ℕ → Spot
segment_spot m s = (walked_segment (slice_index_or m.segments s none).holds).spot

-- the bytes that lie there
abbrev pub bytes_at : State → Spot → List ℕ
bytes_at m nowhere = []
bytes_at m blank = replicate 256 0
bytes_at m (lies l) = row m.pages l

-- A walk's answer follows its page, and says the same of the right to store; a segment is found where it lies now.
abbrev pub WalkFollows : Type 0
WalkFollows =
    (x y : ℕ) (ps : List (List ℕ)) (m : State) (p v : ℕ) → x < length m.counts → y < length m.counts →
    walk (relocated x y ps m) p v ≡ record { spot = spot_moved x y (walk m p v).spot; free = (walk m p v).free }

abbrev pub SegmentFollows : Type 0
SegmentFollows = (x y : ℕ) (ps : List (List ℕ)) (m : State) (s : ℕ) → segment_spot (relocated x y ps m) s ≡ spot_moved x y (segment_spot m s)

-- nothing that a process or a segment has lies at l
pub record NobodyAt (m : State) (l : ℕ) : Type 0 where
  pub page : (p v : ℕ) → (walk m p v).spot ≢ lies l
  pub segment : (s : ℕ) → segment_spot m s ≢ lies l

-- m' shows the bytes that m shows, of every page of every process and of every segment
pub record SameBytes (m m' : State) : Type 0 where
  pub page : (p v : ℕ) → bytes_at m' (walk m' p v).spot ≡ bytes_at m (walk m p v).spot
  pub segment : (s : ℕ) → bytes_at m' (segment_spot m' s) ≡ bytes_at m (segment_spot m s)

-- both locations are there
pub record There (m : State) (f d : ℕ) : Type 0 where
  pub counts_f : f < length m.counts
  pub counts_d : d < length m.counts
  pub pages_f : f < length m.pages
  pub pages_d : d < length m.pages

-- Going out, coming in and changing places change no byte, whichever frame was chosen.
abbrev pub OutKeepsBytes : Type 0
OutKeepsBytes = (f d : ℕ) (m : State) → There m f d → NobodyAt m d → SameBytes m (gone_out f d m)

abbrev pub InKeepsBytes : Type 0
InKeepsBytes = (f d : ℕ) (m : State) → There m f d → NobodyAt m f → SameBytes m (come_in f d m)

abbrev pub ExchangeKeepsBytes : Type 0
ExchangeKeepsBytes = (f d : ℕ) (m : State) → There m f d → SameBytes m (exchanged f d m)

-- how many entries and segments name the location l
abbrev pub names : ℕ → Held → ℕ
names l nothing = 0
names l zeros = 0
names l (at x) = cond (l == x) 1 0
names l (segment s) = 0

abbrev pub namers : ℕ → List Cell → ℕ
namers l cs = sum_by (λ (c : Cell). names l c.holds) cs

abbrev pub named : State → ℕ → ℕ
named m l = sum_by (namers l) m.rows + namers l m.segments

-- every count is the number of entries and segments that name the location
abbrev pub CountsRight : State → Type 0
CountsRight m = (l : ℕ) → l < length m.counts → slice_index m.counts l ≡ named m l

abbrev pub CountsFollow : Type 0
CountsFollow =
    (x y : ℕ) (ps : List (List ℕ)) (m : State) → x < length m.counts → y < length m.counts → CountsRight m → CountsRight (relocated x y ps m)

-- where counts are right, nobody has what lies at a location of count 0
abbrev pub FreeIsNobodys : Type 0
FreeIsNobodys = (m : State) (l : ℕ) → l < length m.counts → CountsRight m → slice_index m.counts l ≡ 0 → NobodyAt m l
