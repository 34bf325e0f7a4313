use Rattle.std.proofs.Common.{◌≡◌, ℕ, true, false, cond, Some, None, Option, sym, refl, ap, ◌∙◌, arith}
use Rattle.std.proofs.lemmas.Bool.{le-ltb, lt-ltb}
use Rattle.fold.specs.Fold as fold
use Rattle.frames.specs.Turn.{turn}
use Rattle.requests.specs.Meaning.{seen_sizes}
use Rattle.requests.specs.declared.answer.Answer.TheVariants.{Fault}
use Rattle.lookaside.specs.declared.slots.Slot.{Slot}
use Rattle.lookaside.specs.Slots.{find_slot}
use Rattle.disk.specs.Whole.{Choice}
use Rattle.calls.specs.declared.manager.Manager.{Manager}
use Rattle.calls.specs.Calls.{free_slot, slot_found, store_by, store_hit, walked_store}
use Rattle.calls.specs.Machine.{Machine}
use Rattle.calls.specs.Memory.{machine_of}
use Rattle.calls.proofs.Serving.{refused}
use Rattle.calls.proofs.Ways.{not_inside, past_the_end, reaches, store_fault, store_goes}
use Rattle.calls.proofs.store.store.Goals as goal

-- a store by the slot that the code looks for
abbrev free_store : Choice → Machine → ℕ → ℕ → ℕ → ℕ → Option Slot → Machine × fold.Answer
free_store choose m p v o b None = walked_store choose m p v o b
free_store choose m p v o b (Some s) = store_hit m o b s

store_by_free : (choose : Choice) (m : Machine) (p v o b : ℕ) (s : Option Slot) → store_by choose m p v o b s ≡ free_store choose m p v o b (free_slot s)
store_by_free choose m p v o b None = refl
store_by_free choose m p v o b (Some s) =
    elim s.free as (λ t. cond t (store_hit m o b s) (walked_store choose m p v o b) ≡ free_store choose m p v o b (cond t (Some s) None)) [ true ↦ refl | false ↦ refl ]

pub returns-then-not-has : goal.returns-then-not-has
returns-then-not-has c =
    let g = c.args.manager in
    let z = seen_sizes g.sizes in
    let m = machine_of g c.args.memory.now in
    let s = c.args.store in
    refused g c.args.memory.now (fold.store s.process s.page s.offset s.byte) Fault
    (store_fault turn z m s.process s.page s.offset s.byte (not_inside turn z m s.process s.page s.offset (sym c.has.ensures.value ∙ c.if-not-has.true)))

pub returns-then-store-ge256 : goal.returns-then-store-ge256
returns-then-store-ge256 c =
    let g = c.args.manager in
    let z = seen_sizes g.sizes in
    let m = machine_of g c.args.memory.now in
    let s = c.args.store in
    refused g c.args.memory.now (fold.store s.process s.page s.offset s.byte) Fault
    (store_fault turn z m s.process s.page s.offset s.byte (past_the_end turn z m s.process s.page s.offset (le-ltb s.offset 256 (omega arith))))

pub returns-in-Some : goal.returns-in-Some
returns-in-Some c =
    let g = c.args.manager in
    let z = seen_sizes g.sizes in
    let m = machine_of g c.args.memory.now in
    let s = c.args.store in
    let p = s.process in
    let v = s.page in
    let o = s.offset in
    let b = s.byte in
    let found = sym c.in-Some.is ∙ c.free_slot_of.ensures.value ∙ (λ i. free_slot (find_slot m.whole.slots (sym c.requires.limits i).frames p v)) in
    record {
      same = ap (λ (r : Manager). r.sizes) c.store_hit.ensures.same;
      fixed = c.store_hit.ensures.fixed;
      serves = c.store_hit.ensures.value ∙ ap (free_store turn m p v o b) found ∙ sym (store_by_free turn m p v o b (slot_found m p v))
          ∙ sym (store_goes turn z m p v o b (reaches turn z m p v o (sym c.has.ensures.value ∙ c.if-not-has.false) (lt-ltb o 256 (omega arith))));
    }

pub returns-in-None : goal.returns-in-None
returns-in-None c =
    let g = c.args.manager in
    let z = seen_sizes g.sizes in
    let m = machine_of g c.args.memory.now in
    let s = c.args.store in
    let p = s.process in
    let v = s.page in
    let o = s.offset in
    let b = s.byte in
    let found = sym c.in-None.is ∙ c.free_slot_of.ensures.value ∙ (λ i. free_slot (find_slot m.whole.slots (sym c.requires.limits i).frames p v)) in
    record {
      same = c.store_walked.ensures.same;
      fixed = c.store_walked.ensures.fixed;
      serves = c.store_walked.ensures.value ∙ ap (free_store turn m p v o b) found ∙ sym (store_by_free turn m p v o b (slot_found m p v))
          ∙ sym (store_goes turn z m p v o b (reaches turn z m p v o (sym c.has.ensures.value ∙ c.if-not-has.false) (lt-ltb o 256 (omega arith))));
    }
