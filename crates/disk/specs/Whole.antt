-- Lent memory and registers together, and what moving pages makes of them. Assumes nothing.
use Rattle.std.specs.Prelude.{◌≡◌, ℕ, ◌+◌, ◌*◌, List, length, take, drop, Some, None, Option}
use Rattle.frames.specs.Counts.{lowest_free}
use Rattle.frames.specs.Turn.{Turned}
use Rattle.tables.specs.declared.entry.Limits.{Limits}
use Rattle.tables.specs.State.{Lent, State, view}
use Rattle.lookaside.specs.declared.slots.Slot.{Slot}
use Rattle.lookaside.specs.Purge.{purged}
use Rattle.disk.specs.declared.registers.Registers.{Registers}
use Rattle.disk.specs.declared.registers.Taken.{Taken}
use Rattle.disk.specs.Counted.{counted}
use Rattle.disk.specs.Moves.{come_in, exchanged, gone_out}

pub record Whole : Type 0 where
  pub state : State
  pub hand : ℕ
  pub reads : ℕ
  pub writes : ℕ
  pub slots : List (Option Slot)

abbrev pub whole : Limits → ℕ → ℕ → Registers → Lent → Whole
whole z pages processes r m =
    record {
      state = view z pages processes m;
      hand = r.hand.at;
      reads = r.transfers.reads;
      writes = r.transfers.writes;
      slots = r.lookaside.slots;
    }

-- the lent lists that moving pages needs are as long as the sizes say
pub record Exact (z : Limits) (pages processes : ℕ) (ts ss fs us ps bytes disk-bytes : List ℕ) : Type 0 where
  pub table : length ts ≡ processes * pages
  pub segments : length ss ≡ z.segments
  pub frame_counts : length fs ≡ z.frames
  pub used : length us ≡ z.frames
  pub place_counts : length ps ≡ z.places
  pub frames : length bytes ≡ z.frames * 256
  pub disk : length disk-bytes ≡ z.places * 256

-- Which frame's page goes to the disk: by the number of frames, where the hand rests, and the used marks.
abbrev pub Choice : Type 0
Choice = ℕ → ℕ → List ℕ → Turned

abbrev pub with_used : State → List ℕ → State
with_used s us =
    record { rows = s.rows; segments = s.segments; lookers = s.lookers; counts = s.counts; pages = s.pages; used = us }

-- the state s, with the slots that are true of it
abbrev pub settled : ℕ → State → ℕ → ℕ → ℕ → List (Option Slot) → Whole
settled frames s hand reads writes slots =
    record {
      state = s;
      hand = hand;
      reads = reads;
      writes = writes;
      slots = purged s.rows s.segments s.counts frames slots;
    }

-- the hand has come to a frame, and the state is then s
abbrev pub turned_to : ℕ → Whole → Turned → State → ℕ → ℕ → Whole × Taken
turned_to frames w t s reads writes =
    (settled frames (with_used s t.used) t.rest reads writes w.slots, record { frame = t.frame; looks = t.looks })

-- the page of the frame that is chosen goes out to place d: one write
abbrev pub sent_out : Choice → ℕ → ℕ → Whole → Whole × Taken
sent_out choose frames d w =
    let t = choose frames w.hand w.state.used in
    turned_to frames w t (gone_out t.frame (frames + d) w.state) w.reads (counted w.writes)

-- the page of the frame that is chosen and the page in place d change places: one read, one write
abbrev pub traded : Choice → ℕ → ℕ → Whole → Whole × Taken
traded choose frames d w =
    let t = choose frames w.hand w.state.used in
    turned_to frames w t (exchanged t.frame (frames + d) w.state) (counted w.reads) (counted w.writes)

-- the page in place d comes to frame f, which is free: one read
abbrev pub fetched : ℕ → ℕ → ℕ → Whole → Whole
fetched frames f d w = settled frames (come_in f (frames + d) w.state) w.hand (counted w.reads) w.writes w.slots

-- the lowest free frame and the lowest free place
abbrev pub free_frame : ℕ → Whole → Option ℕ
free_frame frames w = lowest_free (take frames w.state.counts)

abbrev pub free_place : ℕ → Whole → Option ℕ
free_place frames w = lowest_free (drop frames w.state.counts)

-- A frame for whoever needs one: a free one; else the chosen one, once its page is out; else none.
abbrev pub taken_by : Choice → ℕ → Whole → Option ℕ → Option ℕ → Whole × Option Taken
taken_by choose frames w (Some f) place = (w, Some (record { frame = f; looks = 0 }))
taken_by choose frames w None None = (w, None)
taken_by choose frames w None (Some d) = ((sent_out choose frames d w).0, Some (sent_out choose frames d w).1)

unfoldable pub take_frame : Choice → ℕ → Whole → Whole × Option Taken
take_frame choose frames w = taken_by choose frames w (free_frame frames w) (free_place frames w)

-- The page in place d comes in: to a free frame; else to the chosen one, whose page goes out first, or else changes places with it.
abbrev pub brought_by : Choice → ℕ → ℕ → Whole → Option ℕ → Option ℕ → Whole × Taken
brought_by choose frames d w (Some f) place = (fetched frames f d w, record { frame = f; looks = 0 })
brought_by choose frames d w None (Some e) = (fetched frames (sent_out choose frames e w).1.frame d (sent_out choose frames e w).0, (sent_out choose frames e w).1)
brought_by choose frames d w None None = traded choose frames d w

unfoldable pub bring_in : Choice → ℕ → ℕ → Whole → Whole × Taken
bring_in choose frames d w = brought_by choose frames d w (free_frame frames w) (free_place frames w)
