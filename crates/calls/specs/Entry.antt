-- What the public entries promise: lent memory may be longer than the machine needs and hold anything; too short is refused. Assumes nothing.
use Rattle.std.specs.Prelude.{◌≡◌, ◌*◌, ◌≤◌, Bool, cond, ◌&&◌, length, take, drop, Some, None, Ok, Err, Option, Result, nat_le}
use Rattle.requests.specs.Meaning.{Asked, asked, seen_sizes}
use Rattle.requests.specs.Ranges.{InRange, ranged, sizes_refusal}
use Rattle.requests.specs.Refusals.{either_refusal}
use Rattle.requests.specs.declared.answer.Answer.{Answer}
use Rattle.requests.specs.declared.answer.Part.TheVariants as part
use Rattle.requests.specs.declared.answer.Refusal.{Refusal}
use Rattle.requests.specs.declared.answer.Refusal.TheVariants.{Kind, Lent as TooShort}
use Rattle.requests.specs.declared.request.Call.{Call}
use Rattle.requests.specs.declared.sizes.Sizes.{Sizes}
use Rattle.tables.specs.State.{Lent}
use Rattle.calls.specs.declared.manager.Manager.{Manager}
use Rattle.calls.specs.Machine.{first}
use Rattle.calls.specs.Memory.{Served, machine}

-- every table is long enough
abbrev pub tables_fit : Sizes → Lent → Bool
tables_fit z m =
    nat_le (z.processes * z.pages) (length m.table)
    && (nat_le z.segments (length m.segments)
    && (nat_le z.segments (length m.lookers)
    && (nat_le z.frames (length m.frame_counts) && (nat_le z.frames (length m.used) && nat_le z.places (length m.place_counts)))))

-- the first of lent memory that is too short
abbrev pub lent_refusal : Sizes → Lent → Option Refusal
lent_refusal z m =
    cond (nat_le (z.frames * 256) (length m.frames))
    (cond (nat_le (z.places * 256) (length m.disk)) (cond (tables_fit z m) None (Some (TooShort part.Tables))) (Some (TooShort part.Disk)))
    (Some (TooShort part.Frames))

-- sizes are looked at before lent memory
abbrev pub entry_refusal : Sizes → Lent → Option Refusal
entry_refusal z m = either_refusal (sizes_refusal z) (lent_refusal z m)

-- sizes are in range, and lent memory is long enough
pub record Roomy (z : Sizes) (m : Lent) : Type 0 where
  pub range : InRange (ranged z)
  pub table : z.processes * z.pages ≤ length m.table
  pub segments : z.segments ≤ length m.segments
  pub lookers : z.segments ≤ length m.lookers
  pub frame_counts : z.frames ≤ length m.frame_counts
  pub used : z.frames ≤ length m.used
  pub place_counts : z.places ≤ length m.place_counts
  pub frames : z.frames * 256 ≤ length m.frames
  pub disk : z.places * 256 ≤ length m.disk

-- lent memory is exactly as long as the sizes say
pub record ExactLent (z : Sizes) (m : Lent) : Type 0 where
  pub table : length m.table ≡ z.processes * z.pages
  pub segments : length m.segments ≡ z.segments
  pub lookers : length m.lookers ≡ z.segments
  pub frame_counts : length m.frame_counts ≡ z.frames
  pub used : length m.used ≡ z.frames
  pub place_counts : length m.place_counts ≡ z.places
  pub frames : length m.frames ≡ z.frames * 256
  pub disk : length m.disk ≡ z.places * 256

-- the part of lent memory that the machine has
abbrev pub cut_lent : Sizes → Lent → Lent
cut_lent z m =
    record {
      table = take (z.processes * z.pages) m.table;
      segments = take z.segments m.segments;
      lookers = take z.segments m.lookers;
      frame_counts = take z.frames m.frame_counts;
      used = take z.frames m.used;
      place_counts = take z.places m.place_counts;
      frames = take (z.frames * 256) m.frames;
      disk = take (z.places * 256) m.disk;
    }

-- the rest of lent memory, which nobody touches
abbrev pub rest_lent : Sizes → Lent → Lent
rest_lent z m =
    record {
      table = drop (z.processes * z.pages) m.table;
      segments = drop z.segments m.segments;
      lookers = drop z.segments m.lookers;
      frame_counts = drop z.frames m.frame_counts;
      used = drop z.frames m.used;
      place_counts = drop z.places m.place_counts;
      frames = drop (z.frames * 256) m.frames;
      disk = drop (z.places * 256) m.disk;
    }

-- A call is refused and nothing has changed, or it is answered: the record and lent memory are then those of the definition, and the rest is as it was.
abbrev pub Called : Option Refusal → Manager → Lent → Asked → Result Answer Refusal → Manager → Lent → Type 0
Called (Some e) g m a r h after = (r ≡ Err e) × (h ≡ g) × (after ≡ m)
Called None g m a r h after =
    (answer : Answer) × (r ≡ Ok answer) × Served g (cut_lent g.sizes m) a (h, answer) (cut_lent g.sizes after) × (rest_lent g.sizes after ≡ rest_lent g.sizes m)

-- A call by numbers: a kind that is none is refused, as call 0 of a row would be.
abbrev pub Numbered : Option Call → Manager → Lent → Result Answer Refusal → Manager → Lent → Type 0
Numbered None g m r h after = (r ≡ Err (Kind 0)) × (h ≡ g) × (after ≡ m)
Numbered (Some c) g m r h after = Called (entry_refusal g.sizes m) g m (asked c) r h after

-- An opening is refused and nothing has changed, or lent memory and the record are those of a machine at its start.
abbrev pub Opened : Option Refusal → Sizes → Lent → Result Manager Refusal → Lent → Type 0
Opened (Some e) z m r after = (r ≡ Err e) × (after ≡ m)
Opened None z m r after =
    (g : Manager) × (r ≡ Ok g) × (g.sizes ≡ z) × (machine g (cut_lent z after) ≡ first (seen_sizes z) z.frames z.places) × (rest_lent z after ≡ rest_lent z m)
