-- Used marks, the hand, the transfers and the slots are not seen, and a slot that says what a walk answers is true.
use Rattle.std.proofs.Common.{◌≡◌, ℕ, ◌<◌, Bool, true, false, cond, not, List, length, get_or, set, Some, None, Option, sym, refl, ap, ◌∙◌, subst, inl, inr}
use Rattle.std.proofs.lemmas.List.{get_or-set_other, get_or-set_same, length-set, set_past}
use Rattle.std.proofs.lemmas.Bool.{and_from, cases_eq, cases_lt, eq-eqb, lt-ltb}
use Rattle.fold.specs.Fold.{Sizes, World}
use Rattle.tables.specs.State.{lies, walk}
use Rattle.lookaside.specs.declared.slots.Slot.{Slot}
use Rattle.lookaside.specs.Purge.{answered_so, true_slot}
use Rattle.lookaside.specs.Slots.{put_slot, slot_of}
use Rattle.disk.specs.Whole.{with_used}
use Rattle.lookaside.proofs.Options.{some_same}
use Rattle.calls.specs.Machine.{Machine, with_whole}
use Rattle.calls.specs.Calls.{remembered, used_in}
use Rattle.simulation.proofs.Sim.{Sim, SlotsTrue, state}

-- m with all of `whole`, whose state is that of m but for the used marks
pub unseen : (z : Sizes) (lab : ℕ → ℕ) (m : Machine) (w : World) → Sim z lab m w → (us : List ℕ) → length us ≡ m.frames →
    (hand reads writes : ℕ) (slots : List (Option Slot)) →
    Sim z lab (with_whole m (record { state = with_used (state m) us; hand = hand; reads = reads; writes = writes; slots = slots })) w
unseen z lab m w sim us marks hand reads writes slots =
    let s = sim.shape in
    record {
      shape =
          record {
            words = s.words;
            some = s.some;
            within = s.within;
            few_processes = s.few_processes;
            few_pages = s.few_pages;
            few_segments = s.few_segments;
            processes = s.processes;
            wide = s.wide;
            segments = s.segments;
            alive = s.alive;
            rows = s.rows;
            columns = s.columns;
            table = s.table;
            lookers = s.lookers;
            counts = s.counts;
            pages = s.pages;
            used = marks;
          };
      fresh = sim.fresh;
      alive = sim.alive;
      pages = sim.pages;
      labels = sim.labels;
      apart = sim.apart;
      looks = sim.looks;
      counts = sim.counts;
      lookers = sim.lookers;
      lying = λ n h k.
          let l = sim.lying n h k in
          record { where_it_is = l.where_it_is; at_it = l.at_it; within = l.within; alone = l.alone; bytes = l.bytes };
      idle = sim.idle;
    }

-- the used mark of a frame is set
pub used_sim : (z : Sizes) (lab : ℕ → ℕ) (m : Machine) (w : World) → Sim z lab m w → (f : ℕ) → Sim z lab (with_whole m (used_in m.whole f)) w
used_sim z lab m w sim f =
    unseen z lab m w sim (set (state m).used f 1) (length-set (state m).used f 1 ∙ sim.shape.used) m.whole.hand m.whole.reads m.whole.writes m.whole.slots

-- and a slot is put
pub remembered_sim : (z : Sizes) (lab : ℕ → ℕ) (m : Machine) (w : World) → Sim z lab m w → (p v f : ℕ) (free : Bool) → Sim z lab (with_whole m (remembered (used_in m.whole f) p v f free)) w
remembered_sim z lab m w sim p v f free =
    unseen z lab m w sim (set (state m).used f 1) (length-set (state m).used f 1 ∙ sim.shape.used) m.whole.hand m.whole.reads m.whole.writes
    (put_slot m.whole.slots (record { process = p; page = v; frame = f; free = free }))

same_so : (b : Bool) → cond b b (not b) ≡ true
same_so true = refl
same_so false = refl

-- the slot that is put is true where it is what a walk answers
pub remembered_true : (m : Machine) (p v f : ℕ) (free : Bool) → SlotsTrue m → walk (state m) p v ≡ record { spot = lies f; free = free } → f < m.frames →
    SlotsTrue (with_whole m (remembered (used_in m.whole f) p v f free))
remembered_true m p v f free all is within i s e =
    let slots = m.whole.slots in
    let put : Slot = record { process = p; page = v; frame = f; free = free } in
    let put-true : true_slot (state m).rows (state m).segments (state m).counts m.frames put ≡ true =
    ap (answered_so m.frames put) is ∙ and_from _ _ (and_from _ _ (eq-eqb f f refl) (lt-ltb f m.frames within)) (same_so free) in
    elim (cases_eq i (slot_of p v)) [
      | inr n ↦ all i s (sym (get_or-set_other slots (slot_of p v) i (Some put) None n) ∙ e)
      | inl here ↦
          elim (cases_lt (slot_of p v) (length slots)) [
            | inr past ↦ all i s (sym (ap (λ (xs : List (Option Slot)). get_or xs i None) (set_past slots (slot_of p v) (Some put) past)) ∙ e)
            | inl h ↦
                let same : Some put ≡ Some s = sym (get_or-set_same slots (slot_of p v) (Some put) None h) ∙ ap (λ n. get_or (put_slot slots put) n None) (sym here) ∙ e in
                subst (λ (t : Slot). true_slot (state m).rows (state m).segments (state m).counts m.frames t ≡ true) (some_same same) put-true
          ]
    ]
