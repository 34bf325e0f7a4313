-- A store where the page is in a frame that nobody else has: in place, and in a segment.
use Rattle.std.proofs.Common.{◌≡◌, ℕ, ◌<◌, ◌≤◌, true, List, [], get_or, set, sym, refl, ap, ◌∙◌, subst}
use Rattle.std.proofs.lemmas.List.{set-get_or}
use Rattle.fold.specs.Fold.{Page, Sizes, World, done, own, page, with_page}
use Rattle.fold.proofs.Ways.{segment as bytes_of, with_segment}
use Rattle.frames.specs.Cut.{row, stored}
use Rattle.tables.specs.Cells.{Cell, none, at}
use Rattle.tables.specs.Rows.{entry_of, with_entry}
use Rattle.tables.specs.State.{lies, walk, walked, with_pages, with_rows}
use Rattle.lookaside.specs.Purge.{answered_so}
use Rattle.copies.specs.Own.{with_state}
use Rattle.copies.specs.Stores.{own_cell, stored_in_place}
use Rattle.calls.specs.Machine.{Machine, living, with_whole}
use Rattle.calls.specs.Calls.{holds, stored_in, used_in}
use Rattle.simulation.proofs.Bytes.{segment_sim}
use Rattle.simulation.proofs.Marks.{remembered_sim, remembered_true, used_sim}
use Rattle.simulation.proofs.Puts.{Put, alone_put, own_world, put_same, put_sim, put_state, put_walk, relabelled}
use Rattle.simulation.proofs.Sim.{Sim, SlotsTrue, see, state}
use Rattle.simulation.proofs.Step.{Together}

-- the byte is in frame f: the mark is set, and the slot is put
pub stored_so : (z : Sizes) (lab : ℕ → ℕ) (m : Machine) (w : World) → Sim z lab m w → SlotsTrue m → (p v f : ℕ) → walk (state m) p v ≡ record { spot = lies f; free = true } → f < m.frames →
    Together z (stored_in m p v m.whole f) (w, done 0)
stored_so z lab m w sim all p v f is within =
    record { lab = lab; sim = remembered_sim z lab m w sim p v f true; slots = remembered_true m p v f true all is within; same = refl }

-- an own page has one label and one row of bytes
pub own_same : {l n : ℕ} {ws us : List ℕ} → own l ws ≡ own n us → (l ≡ n) × (ws ≡ us)
own_same e = (cc, cc)

-- the page as the private machine has it, with the byte stored
pub own_stored_to : (g : Page) (l n o b : ℕ) (ws us : List ℕ) → g ≡ own l ws → g ≡ own n us → own l (set ws o b) ≡ own n (set us o b)
own_stored_to g l n o b ws us e k = let same = own_same (sym e ∙ k) in λ i. own (same.0 i) (set (same.1 i) o b)

entry_kept : (rows : List (List Cell)) (p v : ℕ) → with_entry rows p v (entry_of rows p v) ≡ rows
entry_kept rows p v = ap (set rows p) (set-get_or (row rows p) v none) ∙ set-get_or rows p []

module _ (z : Sizes) (lab : ℕ → ℕ) (m : Machine) (w : World) (sim : Sim z lab m w) (all : SlotsTrue m) (p v o b f : ℕ) (within : f < m.frames) where
  -- an own page that nobody else has
  module _ (alive : living m p ≡ true) (range : v < z.pages) (e : holds m p v ≡ at f) (few : get_or (state m).counts f 0 ≤ 1) (l : ℕ) (ws : List ℕ) (seen : page w p v ≡ own l ws) where
    abbrev bytes : List ℕ
    bytes = set (row (state m).pages f) o b

    alone : Put z lab m w p v f (lab f) w.next (state m).counts
    alone = alone_put z lab m w sim p v alive range f e few

    world_is : own_world w p v (lab f) w.next bytes ≡ with_page w p v (own l (set ws o b))
    unfolding with_page
    world_is =
        ap (with_page w p v) (own_stored_to (page w p v) (lab f) l o b (row (state m).pages f) ws (sim.pages p v ∙ ap (see lab (state m).pages) e) seen)

    -- the machine then, with the entry c
    abbrev then : Cell → Machine
    then c = with_whole m (with_state m.whole (put_state (state m) p v f c (state m).counts bytes))

    sim_then : (c : Cell) → c.holds ≡ at f → Sim z (relabelled lab f (lab f)) (then c) (own_world w p v (lab f) w.next bytes)
    sim_then c is = put_sim z lab m w sim p v f (lab f) w.next (state m).counts bytes alone c is m.whole.hand m.whole.reads m.whole.writes m.whole.slots

    -- by the entry, whose mark is then cleared
    pub stored_alone : Together z (stored_in m p v (with_state m.whole (stored_in_place (state m) p v f o b)) f) (with_page w p v (own l (set ws o b)), done 0)
    unfolding stored_in_place
    stored_alone =
        let c = own_cell f in
        let same = put_same z lab m w sim p v f (lab f) w.next (state m).counts bytes alone c refl m.whole.hand m.whole.reads m.whole.writes m.whole.slots e in
        subst (λ u. Together z (stored_in m p v (then c).whole f) (u, done 0)) world_is
        (stored_so z (relabelled lab f (lab f)) (then c) (own_world w p v (lab f) w.next bytes) (sim_then c refl)
        (λ i s k. ap (λ h. answered_so m.frames s (walked (state m).segments (state m).counts h)) (same s.process s.page) ∙ all i s k) p v f
        (put_walk z lab m w sim p v f (lab f) w.next (state m).counts bytes alone c refl m.whole.hand m.whole.reads m.whole.writes m.whole.slots) within)

    -- by a slot: the entry is not looked at
    pub hit_alone : Together z (with_whole m (used_in (with_state m.whole (with_pages (state m) (stored (state m).pages f o b))) f), done 0) (with_page w p v (own l (set ws o b)), done 0)
    hit_alone =
        let kept = entry_kept (state m).rows p v in
        subst (λ u. Together z (with_whole m (used_in (with_state m.whole (with_pages (state m) (stored (state m).pages f o b))) f), done 0) (u, done 0)) world_is
        (record {
          lab = relabelled lab f (lab f);
          sim =
              subst (λ (rs : List (List Cell)). Sim z (relabelled lab f (lab f)) (with_whole m (used_in (with_state m.whole (with_rows (with_pages (state m) (stored (state m).pages f o b)) rs)) f)) (own_world w p v (lab f) w.next bytes)) kept
              (used_sim z (relabelled lab f (lab f)) (then (entry_of (state m).rows p v)) (own_world w p v (lab f) w.next bytes) (sim_then (entry_of (state m).rows p v) e) f);
          slots = all;
          same = refl;
        })

  -- a segment
  module _ (s : ℕ) (here : s < z.segments) (is : (get_or (state m).segments s none).holds ≡ at f) where
    abbrev then_segment : Machine
    then_segment = with_whole m (with_state m.whole (with_pages (state m) (stored (state m).pages f o b)))

    abbrev world_segment : World
    world_segment = with_segment w s (set (bytes_of w s) o b)

    sim_segment : Sim z lab then_segment world_segment
    sim_segment = segment_sim z lab m w sim s f o b here is m.whole.hand m.whole.reads m.whole.writes m.whole.slots

    -- by the entry
    pub stored_segment : walk (state m) p v ≡ record { spot = lies f; free = true } → Together z (stored_in m p v then_segment.whole f) (world_segment, done 0)
    stored_segment walks = stored_so z lab then_segment world_segment sim_segment all p v f walks within

    -- by a slot
    pub hit_segment : Together z (with_whole m (used_in then_segment.whole f), done 0) (world_segment, done 0)
    hit_segment = record { lab = lab; sim = used_sim z lab then_segment world_segment sim_segment f; slots = all; same = refl }
