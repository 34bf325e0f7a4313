-- What is wrong with a state, in the order in which it is told: each check looks at things of one kind, one after the other. Assumes nothing.
use Rattle.std.specs.Prelude.{◌≡◌, ℕ, zero, suc, ◌*◌, ◌/◌, ◌%◌, ◌≤◌, Bool, true, false, cond, not, ◌&&◌, ◌||◌, List, [], ◌∷◌, ◌++◌, length, Some, None, Option, ◌==◌, nat_le, nat_lt, slice_index, slice_index_or}
use Rattle.std.specs.Option.{option_to_list}
use Rattle.fold.specs.Fold.{Sizes}
use Rattle.tables.specs.Cells.{Held, Cell, nothing, zeros, at, segment}
use Rattle.lookaside.specs.declared.slots.Slot.{Slot}
use Rattle.lookaside.specs.Purge.{true_slot}
use Rattle.lookaside.specs.Slots.{slot_of}
use Rattle.disk.specs.Follows.{named}
use Rattle.calls.specs.Machine.{Machine, living}
use Rattle.sound.specs.Sound.{Sound, looks, page_entry, segment_entry, state}
use Rattle.sound.specs.declared.finding.Check.{Check}
use Rattle.sound.specs.declared.finding.Check.TheVariants as check
use Rattle.sound.specs.declared.finding.Finding.{Finding}
use Rattle.sound.specs.declared.finding.Finding.TheVariants.{Count, Lookers, SegmentEntry, SegmentNowhere, SegmentShares, SegmentIdle, PageEntry, PageOfNobody, PageUnmarked, SlotLies, UsedMark, HandAstray}

-- nothing where a test holds, else what was found
abbrev pub tested : Bool → Finding → Option Finding
tested holds f = cond holds None (Some f)

-- whether an entry of a page table, or of the segment table, is one that calls write
abbrev pub page_formed : Sizes → Held → Bool → Bool
page_formed z nothing mark = not mark
page_formed z zeros mark = mark
page_formed z (at x) mark = nat_lt x z.hold
page_formed z (segment s) mark = nat_lt s z.segments && not mark

abbrev pub segment_formed : Sizes → Held → Bool → Bool
segment_formed z nothing mark = not mark
segment_formed z zeros mark = false
segment_formed z (at x) mark = nat_lt x z.hold && not mark
segment_formed z (segment s) mark = false

abbrev pub is_nothing : Held → Bool
is_nothing nothing = true
is_nothing zeros = false
is_nothing (at x) = false
is_nothing (segment s) = false

-- a segment that somebody looks at has its frame or place to itself
abbrev pub lying_finding : Machine → ℕ → Held → Option Finding
lying_finding m s nothing = Some (SegmentNowhere s)
lying_finding m s zeros = Some (SegmentNowhere s)
lying_finding m s (at x) = tested (named (state m) x == 1) (SegmentShares s)
lying_finding m s (segment t) = Some (SegmentNowhere s)

-- and one that nobody looks at lies nowhere
abbrev pub place_finding : Machine → ℕ → Held → Option Finding
place_finding m s h = cond (looks m s == 0) (tested (is_nothing h) (SegmentIdle s)) (lying_finding m s h)

-- an own page without mark is nobody else's
abbrev pub own_alone : Machine → Held → Bool → Bool
own_alone m nothing mark = true
own_alone m zeros mark = true
own_alone m (at x) mark = mark || named (state m) x == 1
own_alone m (segment s) mark = true

abbrev pub slot_right : Machine → ℕ → Option Slot → Bool
slot_right m i None = true
slot_right m i (Some s) = slot_of s.process s.page == i && true_slot (state m).rows (state m).segments (state m).counts m.frames s

-- the page of number i, counted through all processes
abbrev pub nth_entry : Sizes → Machine → ℕ → Cell
nth_entry z m i = page_entry m (i / z.pages) (i % z.pages)

-- what a check finds at thing i
abbrev pub finds : Sizes → Machine → Check → ℕ → Option Finding
finds z m check.Counts x = tested (slice_index (state m).counts x == named (state m) x) (Count x)
finds z m check.Lookers s = tested (slice_index (state m).lookers s == looks m s) (Lookers s)
finds z m check.SegmentEntries s = tested (segment_formed z (segment_entry m s).holds (segment_entry m s).copy) (SegmentEntry s)
finds z m check.SegmentPlaces s = place_finding m s (segment_entry m s).holds
finds z m check.PageEntries i = tested (page_formed z (nth_entry z m i).holds (nth_entry z m i).copy) (PageEntry (i / z.pages) (i % z.pages))
finds z m check.PagesOfNobody i = tested (living m (i / z.pages) || is_nothing (nth_entry z m i).holds) (PageOfNobody (i / z.pages) (i % z.pages))
finds z m check.UnmarkedPages i = tested (own_alone m (nth_entry z m i).holds (nth_entry z m i).copy) (PageUnmarked (i / z.pages) (i % z.pages))
finds z m check.Slots i = tested (slot_right m i (slice_index_or m.whole.slots i None)) (SlotLies i)
finds z m check.UsedMarks f = tested (nat_le (slice_index (state m).used f) 1) (UsedMark f)
finds z m check.Hand i = tested (nat_lt m.whole.hand m.frames) HandAstray

-- how many things it looks at
abbrev pub how_many : Sizes → Machine → Check → ℕ
how_many z m check.Counts = z.hold
how_many z m check.Lookers = z.segments
how_many z m check.SegmentEntries = z.segments
how_many z m check.SegmentPlaces = z.segments
how_many z m check.PageEntries = z.processes * z.pages
how_many z m check.PagesOfNobody = z.processes * z.pages
how_many z m check.UnmarkedPages = z.processes * z.pages
how_many z m check.Slots = 16
how_many z m check.UsedMarks = m.frames
how_many z m check.Hand = 1

-- the findings at the first n things
unfoldable pub found_below : (ℕ → Option Finding) → ℕ → List Finding
found_below f zero = []
found_below f (suc n) = found_below f n ++ option_to_list (f n)

-- what the checks find, one after the other
unfoldable pub found_by : Sizes → Machine → List Check → List Finding
found_by z m [] = []
found_by z m (c ∷ cs) = found_below (finds z m c) (how_many z m c) ++ found_by z m cs

abbrev pub checks : List Check
checks =
    check.Counts ∷ check.Lookers ∷ check.SegmentEntries ∷ check.SegmentPlaces ∷ check.PageEntries ∷ check.PagesOfNobody ∷ check.UnmarkedPages ∷ check.Slots ∷ check.UsedMarks
    ∷ check.Hand ∷ []

abbrev pub findings : Sizes → Machine → List Finding
findings z m = found_by z m checks

-- Nothing is found exactly where the state is sound. A look-aside table has sixteen slots.
abbrev pub FindingsDecide : Type 0
FindingsDecide =
    (z : Sizes) (m : Machine) → 1 ≤ z.pages → length m.whole.slots ≤ 16 → (findings z m ≡ [] → Sound z m) × (Sound z m → findings z m ≡ [])
