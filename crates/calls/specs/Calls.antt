-- What each call does and answers, by frames, page tables, copies at a store, look-aside table and disk: the one text of the rule. The choice of the frame
-- whose page goes to the disk is its parameter. Assumes nothing.
use Rattle.std.specs.Prelude.{ℕ, ◌+◌, ◌*◌, Bool, true, false, cond, not, ◌&&◌, Some, None, Option, nat_lt, slice_index, slice_set}
use Rattle.fold.specs.Fold.{Sizes, Call, Answer, fork, leave, map, drop, make, look, load, store, done, fault, full}
use Rattle.frames.specs.Cut.{row, stored}
use Rattle.frames.specs.Turn.{turn}
use Rattle.tables.specs.Cells.{Held, nothing, zeros, at, segment}
use Rattle.tables.specs.Rows.{entry_of}
use Rattle.tables.specs.State.{State, Spot, nowhere, blank, lies, walk, with_pages}
use Rattle.lookaside.specs.declared.slots.Slot.{Slot}
use Rattle.lookaside.specs.Slots.{find_slot, put_slot}
use Rattle.disk.specs.declared.registers.Taken.{Taken}
use Rattle.disk.specs.Whole.{Choice, Whole, settled, with_used}
use Rattle.copies.specs.declared.anew.Written.{Written}
use Rattle.copies.specs.Own.{reached, stored_own, with_state}
use Rattle.segments.specs.declared.make.Made.{Made}
use Rattle.segments.specs.Make.{make_segment}
use Rattle.segments.specs.Reach.{stored_to_segment}
use Rattle.segments.specs.Release.{dropped, looked}
use Rattle.calls.specs.Machine.{Machine, living, lowest_absent, with_whole}
use Rattle.calls.specs.Pages.{dropped_row, forked, mapped}

-- what page v of p is
abbrev pub holds : Machine → ℕ → ℕ → Held
holds m p v = (entry_of m.whole.state.rows p v).holds

abbrev pub is_there : Held → Bool
is_there nothing = false
is_there zeros = true
is_there (at x) = true
is_there (segment s) = true

-- page v of p may be asked for
abbrev pub inside : Sizes → Machine → ℕ → ℕ → Bool
inside z m p v = living m p && nat_lt v z.pages

-- the state is s now, and the slots that it makes untrue go
abbrev pub changed : Machine → State → Machine
changed m s = with_whole m (settled m.frames s m.whole.hand m.whole.reads m.whole.writes m.whole.slots)

-- process p is there, or is there no more
abbrev pub with_alive : Machine → ℕ → Bool → Machine
with_alive m p b = record { frames = m.frames; alive = slice_set m.alive p b; whole = m.whole }

abbrev pub fork_to : Sizes → Machine → ℕ → Option ℕ → Machine × Answer
fork_to z m p None = (m, full)
fork_to z m p (Some c) = (with_alive (changed m (forked m.whole.state p c z.pages)) c true, done c)

abbrev pub gone : Sizes → Machine → ℕ → Machine
gone z m p = with_alive (changed m (dropped_row m.whole.state p z.pages)) p false

abbrev pub made : Machine → Whole → Option Made → Machine × Answer
made m w None = (with_whole m w, full)
made m w (Some s) = (with_whole m w, done s.segment)

abbrev pub look_at : Machine → ℕ → ℕ → Held → Machine × Answer
look_at m p v nothing = (m, fault)
look_at m p v zeros = (m, fault)
look_at m p v (at x) = (m, fault)
look_at m p v (segment s) = (changed m (looked m.whole.state p v s), done s)

-- frame f was reached by a load or a store
abbrev pub used_in : Whole → ℕ → Whole
used_in w f = with_state w (with_used w.state (slice_set w.state.used f 1))

-- page v of p is in frame f, where a store needs no copy if it is free
abbrev pub remembered : Whole → ℕ → ℕ → ℕ → Bool → Whole
remembered w p v f free =
    record {
      state = w.state;
      hand = w.hand;
      reads = w.reads;
      writes = w.writes;
      slots = put_slot w.slots (record { process = p; page = v; frame = f; free = free });
    }

abbrev pub byte_in : Whole → ℕ → ℕ → Answer
byte_in w f o = done (slice_index (row w.state.pages f) o)

-- A load whose slot is found reads no page table.
abbrev pub load_hit : Machine → ℕ → Slot → Machine × Answer
load_hit m o s = (with_whole m (used_in m.whole s.frame), byte_in m.whole s.frame o)

-- the page is in a frame now
abbrev pub load_reached : Machine → ℕ → ℕ → ℕ → Bool → Whole × Taken → Machine × Answer
load_reached m p v o free r =
    (with_whole m (remembered (used_in r.0 r.1.frame) p v r.1.frame free), byte_in r.0 r.1.frame o)

-- Any other load walks. A page of zeros is not held, so it has no slot.
abbrev pub load_walked : Choice → Machine → ℕ → ℕ → ℕ → Bool → Spot → Machine × Answer
load_walked choose m p v o free nowhere = (m, fault)
load_walked choose m p v o free blank = (m, done 0)
load_walked choose m p v o free (lies x) = load_reached m p v o free (reached choose m.frames m.whole x)

abbrev pub walked_load : Choice → Machine → ℕ → ℕ → ℕ → Machine × Answer
walked_load choose m p v o = load_walked choose m p v o (walk m.whole.state p v).free (walk m.whole.state p v).spot

abbrev pub load_by : Choice → Machine → ℕ → ℕ → ℕ → Option Slot → Machine × Answer
load_by choose m p v o None = walked_load choose m p v o
load_by choose m p v o (Some s) = load_hit m o s

-- A store whose slot is found, and says that it needs no copy, reads no page table.
abbrev pub store_hit : Machine → ℕ → ℕ → Slot → Machine × Answer
store_hit m o b s =
    (with_whole m (used_in (with_state m.whole (with_pages m.whole.state (stored m.whole.state.pages s.frame o b))) s.frame), done 0)

-- the byte is in frame f, and the next store needs no copy
abbrev pub stored_in : Machine → ℕ → ℕ → Whole → ℕ → Machine × Answer
stored_in m p v w f = (with_whole m (remembered (used_in w f) p v f true), done 0)

abbrev pub own_stored : Machine → ℕ → ℕ → Whole → Option Written → Machine × Answer
own_stored m p v w None = (with_whole m w, full)
own_stored m p v w (Some t) = stored_in m p v w t.frame

abbrev pub segment_stored : Machine → ℕ → ℕ → Whole → Option Taken → Machine × Answer
segment_stored m p v w None = (with_whole m w, fault)
segment_stored m p v w (Some t) = stored_in m p v w t.frame

abbrev pub own_store : Choice → Machine → ℕ → ℕ → ℕ → ℕ → Machine × Answer
own_store choose m p v o b = let r = stored_own choose m.frames m.whole p v o b in own_stored m p v r.0 r.1

abbrev pub segment_store : Choice → Machine → ℕ → ℕ → ℕ → ℕ → Machine × Answer
segment_store choose m p v o b = let r = stored_to_segment choose m.frames m.whole p v o b in segment_stored m p v r.0 r.1

-- Any other store looks at the entry.
abbrev pub store_walked : Choice → Machine → ℕ → ℕ → ℕ → ℕ → Held → Machine × Answer
store_walked choose m p v o b nothing = (m, fault)
store_walked choose m p v o b zeros = own_store choose m p v o b
store_walked choose m p v o b (at x) = own_store choose m p v o b
store_walked choose m p v o b (segment s) = segment_store choose m p v o b

abbrev pub walked_store : Choice → Machine → ℕ → ℕ → ℕ → ℕ → Machine × Answer
walked_store choose m p v o b = store_walked choose m p v o b (holds m p v)

abbrev pub store_by : Choice → Machine → ℕ → ℕ → ℕ → ℕ → Option Slot → Machine × Answer
store_by choose m p v o b None = walked_store choose m p v o b
store_by choose m p v o b (Some s) = cond s.free (store_hit m o b s) (walked_store choose m p v o b)

-- a slot that says that a store needs no copy
abbrev pub free_slot : Option Slot → Option Slot
free_slot None = None
free_slot (Some s) = cond s.free (Some s) None

-- the slot of page v of p, if the look-aside table has it
abbrev pub slot_found : Machine → ℕ → ℕ → Option Slot
slot_found m p v = find_slot m.whole.slots m.frames p v

unfoldable pub calls_by : Choice → Sizes → Machine → Call → Machine × Answer
calls_by choose z m (fork p) = cond (living m p) (fork_to z m p (lowest_absent 0 m.alive)) (m, fault)
calls_by choose z m (leave p) = cond (living m p) (gone z m p, done 0) (m, fault)
calls_by choose z m (map p v) =
    cond (inside z m p v && not (is_there (holds m p v))) (changed m (mapped m.whole.state p v), done 0) (m, fault)
calls_by choose z m (drop p v) =
    cond (inside z m p v && is_there (holds m p v)) (changed m (dropped m.whole.state p v), done 0) (m, fault)
calls_by choose z m (make p v) =
    let r = make_segment choose m.frames m.whole p v in cond (inside z m p v && not (is_there (holds m p v))) (made m r.0 r.1) (m, fault)
calls_by choose z m (look p v q u) =
    cond (inside z m p v && (not (is_there (holds m p v)) && inside z m q u)) (look_at m p v (holds m q u)) (m, fault)
calls_by choose z m (load p v o) = cond (inside z m p v && nat_lt o z.words) (load_by choose m p v o (slot_found m p v)) (m, fault)
calls_by choose z m (store p v o x) = cond (inside z m p v && nat_lt o z.words) (store_by choose m p v o x (slot_found m p v)) (m, fault)

-- the manager: the hand chooses
abbrev pub calls : Sizes → Machine → Call → Machine × Answer
calls = calls_by turn

-- the counts of reads and writes
abbrev pub counts_answer : Machine → Answer
counts_answer m = done (m.whole.reads * 65536 + m.whole.writes)
