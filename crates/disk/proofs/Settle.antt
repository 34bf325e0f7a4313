-- From what the parts leave to what lent memory and registers mean together.
use Rattle.std.proofs.Common.{◌≡◌, ℕ, List, ◌++◌, length, Option, sym, ap, ◌∙◌}
use Rattle.std.proofs.lemmas.List.{take_at, drop_at}
use Rattle.frames.specs.Counts.{lowest_free}
use Rattle.frames.specs.Turn.{Turned}
use Rattle.tables.specs.declared.entry.Limits.{Limits}
use Rattle.tables.specs.Rows.{cells, rows}
use Rattle.tables.specs.State.{Lent, State, view}
use Rattle.lookaside.specs.declared.slots.Slot.{Slot}
use Rattle.lookaside.specs.Purge.{purged}
use Rattle.disk.specs.declared.registers.Registers.{Registers}
use Rattle.disk.specs.declared.registers.Transfers.{Transfers}
use Rattle.disk.specs.Whole.{Whole, whole, Choice, settled, with_used, free_frame, free_place, taken_by, take_frame, brought_by, bring_in}

-- lent memory means s, and the slots were purged in it
pub settled_whole : (z : Limits) (pages processes : ℕ) (m : Lent) (r : Registers) (s : State) (slots : List (Option Slot)) (transfers : Transfers) →
    view z pages processes m ≡ s → r.transfers ≡ transfers →
    r.lookaside.slots ≡ purged (rows z pages processes m.table) (cells z m.segments) (m.frame_counts ++ m.place_counts) z.frames slots →
    whole z pages processes r m ≡ settled z.frames s r.hand.at transfers.reads transfers.writes slots
unfolding view
settled_whole z pages processes m r s slots transfers e t p =
    let kept = p ∙ ap (λ (x : State). purged x.rows x.segments x.counts z.frames slots) e in
    λ i. record { state = e i; hand = r.hand.at; reads = (t i).reads; writes = (t i).writes; slots = kept i }

-- The hand took a turn, and then pages were moved: lent memory means s, with the marks that the turn left.
pub turned_whole : (z : Limits) (pages processes : ℕ) (w : Whole) (m : Lent) (r : Registers) (t : Turned) (s : State) (transfers : Transfers) →
    view z pages processes m ≡ with_used s t.used → r.hand.at ≡ t.rest → r.transfers ≡ transfers →
    r.lookaside.slots ≡ purged (rows z pages processes m.table) (cells z m.segments) (m.frame_counts ++ m.place_counts) z.frames w.slots →
    whole z pages processes r m ≡ settled z.frames (with_used s t.used) t.rest transfers.reads transfers.writes w.slots
turned_whole z pages processes w m r t s transfers e h f p =
    settled_whole z pages processes m r (with_used s t.used) w.slots transfers e f p
    ∙ ap (λ n. settled z.frames (with_used s t.used) n transfers.reads transfers.writes w.slots) h

-- which frame and place are free, read off the two lists of counts
module _ (z : Limits) (pages processes : ℕ) (r : Registers) (m : Lent) (long : length m.frame_counts ≡ z.frames) where
  free_frame_is : free_frame z.frames (whole z pages processes r m) ≡ lowest_free m.frame_counts
  unfolding view
  free_frame_is = ap lowest_free (take_at m.frame_counts m.place_counts z.frames long)

  free_place_is : free_place z.frames (whole z pages processes r m) ≡ lowest_free m.place_counts
  unfolding view
  free_place_is = ap lowest_free (drop_at m.frame_counts m.place_counts z.frames long)

  pub takes : (choose : Choice) (a b : Option ℕ) → a ≡ lowest_free m.frame_counts → b ≡ lowest_free m.place_counts →
      taken_by choose z.frames (whole z pages processes r m) a b ≡ take_frame choose z.frames (whole z pages processes r m)
  unfolding take_frame
  takes choose a b e f =
      let w = whole z pages processes r m in λ i. taken_by choose z.frames w ((e ∙ sym free_frame_is) i) ((f ∙ sym free_place_is) i)

  pub brings : (choose : Choice) (d : ℕ) (a b : Option ℕ) → a ≡ lowest_free m.frame_counts → b ≡ lowest_free m.place_counts →
      brought_by choose z.frames d (whole z pages processes r m) a b ≡ bring_in choose z.frames d (whole z pages processes r m)
  unfolding bring_in
  brings choose d a b e f =
      let w = whole z pages processes r m in λ i. brought_by choose z.frames d w ((e ∙ sym free_frame_is) i) ((f ∙ sym free_place_is) i)
