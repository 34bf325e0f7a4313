-- The statements, each from the relation between manager and private machine that every row of calls keeps.
use Rattle.std.proofs.Common.{◌≡◌, ℕ, ◌+◌, ◌≤◌, cond, List, sym, refl, ap, ◌∙◌, subst, arith}
use Rattle.fold.specs.Fold.{Sizes, World, Call, begin, call, load, store, fork, make, full, held, page}
use Rattle.fold.specs.Promise.{SameAnswers}
use Rattle.fold.proofs.Theorems.{apart, child}
use Rattle.frames.specs.Turn.{GoesRound, start, turn}
use Rattle.frames.proofs.Turn.{hand_goes_round}
use Rattle.tables.specs.State.{lies, walk}
use Rattle.disk.proofs.Keeps.{bring_keeps_bytes, take_keeps_bytes}
use Rattle.calls.specs.Machine.{Machine, first}
use Rattle.calls.specs.Calls.{calls}
use Rattle.simulation.specs.Run.{Usable}
use Rattle.simulation.specs.Shown.{must, page_bytes}
use Rattle.simulation.proofs.Forked.{fork_memory}
use Rattle.simulation.proofs.Grows.{held_in_use, held_stored, make_full, own_wide, store_full}
use Rattle.simulation.proofs.Hand.{chosen_brought, chosen_taken, frame_given, free_brought, free_taken}
use Rattle.simulation.proofs.Kept.{nobody_at, nothing_used, one_page, ready, slot_walk, somebody_at}
use Rattle.simulation.proofs.Outcome.{refused_same}
use Rattle.simulation.proofs.Run.{Reached, next, opening, reaches, same_answers_from}
use Rattle.simulation.proofs.Shown.{absent_nowhere, blank_zeros, copies_when, free_own, free_seen, lies_shown, own_lies, seen_lies, zero_blank}
use Rattle.simulation.proofs.Taking.{turn_usable}
use Rattle.simulation.proofs.Hits.{walk_nowhere}
use Rattle.simulation.proofs.Users.{count_small, lookers_small}
use Rattle.promise.specs.Copies.{ForkChild, ForkCopiesNothing, Room, RoomExact, StoresCopy}
use Rattle.promise.specs.Counts.{Counted, CountsRight, CountsSmall, Small}
use Rattle.promise.specs.Disk.{DiskKeeps, DiskKeepsBytes, HandGoes, HandTurns, turn_now}
use Rattle.promise.specs.Lost.{Kept, LiesAt, NothingLost}
use Rattle.promise.specs.Reached.{Everywhere, Exactly, MachineSizes, manager_after, state, world_after}
use Rattle.promise.specs.Refused.{RefusedUnchanged}
use Rattle.promise.specs.Walks.{WalkedRight, WalksRight}

pub same_answers : SameAnswers Machine first calls
same_answers z n frames places cs processes few words some_pages few_pages few_segments some few_frames few_places hold bytes =
    same_answers_from turn z frames (turn_usable frames some) (first z frames places) (begin z n)
    (opening z n frames places words processes few few_pages few_segments some hold) cs

pub refused_unchanged : RefusedUnchanged
refused_unchanged = refused_same

-- the relation holds after every row of calls
reach : {z : Sizes} {n frames places : ℕ} → MachineSizes z n frames places → (cs : List Call) → Reached z frames (manager_after z frames places cs) (world_after z n cs)
reach {z} {n} {frames} {places} s cs =
    reaches turn z frames (turn_usable frames s.some_frames) (first z frames places) (begin z n)
    (opening z n frames places s.words s.processes s.few_processes s.few_pages s.few_segments s.some_frames s.hold) cs

-- so what the relation gives holds everywhere
everywhere : (P : Sizes → ℕ → Machine → World → Type 0) → ((z : Sizes) (m : Machine) (w : World) → Reached z m.frames m w → P z m.frames m w) → Everywhere P
everywhere P h z n frames places cs s =
    let r = reach s cs in
    let m = manager_after z frames places cs in
    let w = world_after z n cs in
    subst (λ f. P z f m w) r.frames_stay (h z m w (record { lab = r.lab; sim = r.sim; slots = r.slots; frames_stay = refl }))

pub counts_right : CountsRight
counts_right = everywhere (λ z _ m _. Counted z m) (λ z m w r. record { locations = r.sim.counts; segments = r.sim.lookers })

pub counts_small : CountsSmall
counts_small = everywhere (λ z _ m _. Small z m) (λ z m w r. record { locations = count_small r.sim; segments = lookers_small r.sim })

pub nothing_lost : NothingLost
nothing_lost =
    everywhere (λ z _ m w. Kept z m w) (λ z m w r.
    let at : (p v x : ℕ) (bytes : List ℕ) → (walk (state m) p v).spot ≡ lies x → page_bytes w (page w p v) ≡ bytes → LiesAt z m p v bytes x =
    λ p v x bytes e k. let s = lies_shown r.sim p v x e in record { there = s.0; walks = e; holds = s.1 ∙ k } in
    record {
      owned = λ p v l ws n e. let k = own_lies r.sim p v l ws n e in
          (k.0, at p v k.0 ws k.1 (ap (page_bytes w) e), λ q u us f. at q u k.0 us (k.2 q u us f) (ap (page_bytes w) f));
      shared = λ p v s e. let k = seen_lies r.sim p v s e in
          (k.0, at p v k.0 _ k.1 (ap (page_bytes w) e), λ q u f. at q u k.0 _ (k.2 q u f) (ap (page_bytes w) f));
      one_page = one_page r.sim;
      free = nobody_at r.sim;
      used = somebody_at r.sim;
      empty = nothing_used r.sim;
    })

pub walks_right : WalksRight
walks_right =
    everywhere WalkedRight (λ z m w r.
    record {
      absent_only = λ p v. (walk_nowhere z r.lab m w r.sim p v, absent_nowhere r.sim p v);
      blank_zeros = blank_zeros r.sim;
      zeros_blank = zero_blank r.sim;
      lies_there = lies_shown r.sim;
      free_own = free_own r.sim;
      free_seen = free_seen r.sim;
      slots = slot_walk r.sim r.slots;
    })

pub disk_keeps_bytes : DiskKeepsBytes
disk_keeps_bytes =
    everywhere (λ z frames m _. DiskKeeps z frames m) (λ z m w r.
    record {
      taking = λ choose c. take_keeps_bytes choose m.frames m.whole (ready r.sim choose c);
      bringing = λ choose d c h. bring_keeps_bytes choose m.frames d m.whole (ready r.sim choose c) (omega (arith, r.sim.shape.counts));
    })

-- one call more, and then another, are answered as the private machine answers them
module _ {z : Sizes} {frames : ℕ} {m : Machine} {w : World} (r : Reached z frames m w) where
  usable : Usable turn frames
  usable = turn_usable frames (omega (arith, r.sim.shape.some, r.frames_stay))

  after_one : (c : Call) → Reached z frames (calls z m c).0 (call z w c).0
  after_one c = (next turn z frames usable m w r c).0

  answer : (c : Call) → (calls z m c).1 ≡ (call z w c).1
  answer c = (next turn z frames usable m w r c).1

  answer_then : (c d : Call) → (calls z (calls z m c).0 d).1 ≡ (call z (call z w c).0 d).1
  answer_then c d = (next turn z frames usable (calls z m c).0 (call z w c).0 (after_one c) d).1

pub stores_copy : StoresCopy
stores_copy z n frames places cs s p v o x l k ws is done-so =
    let r = reach s cs in
    let w = world_after z n cs in
    let c = store p v o x in
    record {
      copies = copies_when r.sim p v l ws is;
      grows =
          held_in_use (after_one r c).sim ∙ held_stored w p v l ws is z o x k r.sim.fresh (sym (answer r c) ∙ done-so)
          ∙ ap (λ h. h + cond (must w l) 1 0) (sym (held_in_use r.sim));
      others = λ q u i other. answer_then r c (load q u i) ∙ apart z n cs q u i p v o x l ws s.processes other is ∙ sym (answer r (load q u i));
    }

pub fork_copies_nothing : ForkCopiesNothing
fork_copies_nothing z m p = fork_memory turn z m p

pub fork_child : ForkChild
fork_child z n frames places cs s p c v o is =
    let r = reach s cs in
    answer_then r (fork p) (load c v o) ∙ child z n cs p c v o s.processes (sym (answer r (fork p)) ∙ is) ∙ sym (answer r (load p v o))

pub room_exact : RoomExact
room_exact =
    everywhere Room (λ z m w r.
    record {
      given = frame_given r.sim turn;
      storing = λ p v o x l ws is h copies.
          subst (λ a. Exactly (a ≡ full) (z.hold ≤ held w)) (sym (answer r (store p v o x)))
          (store_full z w p v o x l ws is (omega (arith, own_wide r.sim p v l ws is)) (omega (arith, r.sim.shape.words)) copies);
      making = λ p v alive h is free. subst (λ a. Exactly (a ≡ full) (z.hold ≤ held w)) (sym (answer r (make p v))) (make_full z w p v alive h is free);
    })

pub hand_goes : HandGoes
hand_goes =
    everywhere HandTurns (λ z m w r.
    let goes : GoesRound m.frames (start m.frames m.whole.hand) (state m).used (turn_now m.frames m) =
    subst (λ n. GoesRound n (start n m.whole.hand) (state m).used (turn_now n m)) r.sim.shape.used
    (hand_goes_round m.whole.hand (state m).used (omega (arith, r.sim.shape.some, r.sim.shape.used))) in
    record {
      spares = λ f. free_taken turn m.frames f m.whole;
      fetches = λ f d. free_brought turn m.frames f d m.whole;
      round = goes;
      few = omega (arith, goes.few, r.sim.shape.some);
      takes = chosen_taken r.sim turn;
      brings = λ d. chosen_brought turn m.frames d m.whole;
    })
