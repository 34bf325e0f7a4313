-- What entries mean, with frames and places in one space: frame f is location f, place d is location frames + d. Assumes nothing.
use Rattle.std.specs.Prelude.{◌≡◌, ℕ, ◌+◌, ◌*◌, ◌/◌, ◌%◌, ◌<◌, ◌≤◌, Bool, true, false, cond, ◌&&◌, ◌==◌, nat_lt}
use Rattle.tables.specs.declared.entry.Entry.{Entry}
use Rattle.tables.specs.declared.entry.Limits.{Limits}
use Rattle.tables.specs.declared.entry.Target.{Target}
use Rattle.tables.specs.declared.entry.Target.TheVariants.{Absent, Zero, Frame, Place, Segment}

-- what a page is: not there, a page of zeros that is not held, the page at a location, or a segment
pub data Held : Type 0 where
  nothing : Held
  zeros : Held
  at : ℕ → Held
  segment : ℕ → Held

-- an entry, and whether a store has to look if it must copy
pub record Cell : Type 0 where
  pub holds : Held
  pub copy : Bool

abbrev pub none : Cell
none = record { holds = nothing; copy = false }

abbrev pub held_of : ℕ → Target → Held
held_of frames Absent = nothing
held_of frames Zero = zeros
held_of frames (Frame f) = at f
held_of frames (Place d) = at (frames + d)
held_of frames (Segment s) = segment s

abbrev pub cell : ℕ → Entry → Cell
cell frames e = record { holds = held_of frames e.target; copy = e.copy }

-- it names what is there
abbrev pub Within : Limits → Target → Type 0
Within z Absent = Unit {0}
Within z Zero = Unit {0}
Within z (Frame f) = f < z.frames
Within z (Place d) = d < z.places
Within z (Segment s) = s < z.segments

-- few enough that every entry has a number
pub record Few (z : Limits) : Type 0 where
  pub frames : z.frames ≤ 1024
  pub places : z.places ≤ 1024
  pub segments : z.segments ≤ 1024

-- the kind and the index of a target
abbrev pub kind_of : Target → ℕ
kind_of Absent = 0
kind_of Zero = 1
kind_of (Frame f) = 2
kind_of (Place d) = 3
kind_of (Segment s) = 4

abbrev pub index_of : Target → ℕ
index_of Absent = 0
index_of Zero = 0
index_of (Frame f) = f
index_of (Place d) = d
index_of (Segment s) = s

-- the number of an entry
abbrev pub encoded : Entry → ℕ
encoded e = index_of e.target * 10 + kind_of e.target * 2 + cond e.copy 1 0

-- What a kind and an index name, by the first line that fits. What fits none is no code or names what is not there.
abbrev pub named : Limits → Bool → ℕ → ℕ → Cell
named z mark kind i =
    cond (kind == 0 && i == 0) (record { holds = nothing; copy = mark })
    (cond (kind == 1 && i == 0) (record { holds = zeros; copy = mark })
    (cond (kind == 2 && nat_lt i z.frames) (record { holds = at i; copy = mark })
    (cond (kind == 3 && nat_lt i z.places) (record { holds = at (z.frames + i); copy = mark })
    (cond (kind == 4 && nat_lt i z.segments) (record { holds = segment i; copy = mark }) none))))

abbrev pub decoded : Limits → ℕ → Cell
decoded z n = named z (n % 2 == 1) (n % 10 / 2) (n / 10)

-- A location after two have changed places, and an entry then.
abbrev pub swapped : ℕ → ℕ → ℕ → ℕ
swapped x y l = cond (l == x) y (cond (l == y) x l)

abbrev pub held_swapped : ℕ → ℕ → Held → Held
held_swapped x y nothing = nothing
held_swapped x y zeros = zeros
held_swapped x y (at l) = at (swapped x y l)
held_swapped x y (segment s) = segment s

abbrev pub renamed : ℕ → ℕ → Cell → Cell
renamed x y c = record { holds = held_swapped x y c.holds; copy = c.copy }

-- An entry that two have: an own page with a location gets the mark.
abbrev pub mark_shared : Held → Bool → Bool
mark_shared nothing m = m
mark_shared zeros m = m
mark_shared (at l) m = true
mark_shared (segment s) m = m

abbrev pub marked : Cell → Cell
marked c = record { holds = c.holds; copy = mark_shared c.holds c.copy }

-- what was coded is read again, whatever sizes it is read with, if it names what is there
abbrev pub ReadAgain : Type 0
ReadAgain = (z : Limits) (e : Entry) → Within z e.target → decoded z (encoded e) ≡ cell z.frames e
