use Rattle.std.proofs.Common.{sym, ap, ◌∙◌, arith}
use Rattle.std.proofs.lemmas.Bool.{le-ltb, lt-ltb}
use Rattle.fold.specs.Fold as fold
use Rattle.frames.specs.Turn.{turn}
use Rattle.requests.specs.Meaning.{seen_sizes}
use Rattle.requests.specs.declared.answer.Answer.TheVariants.{Fault}
use Rattle.lookaside.specs.Slots.{find_slot}
use Rattle.calls.specs.declared.manager.Manager.{Manager}
use Rattle.calls.specs.Calls.{load_by}
use Rattle.calls.specs.Memory.{machine_of}
use Rattle.calls.proofs.Serving.{refused}
use Rattle.calls.proofs.Ways.{load_fault, load_goes, not_inside, past_the_end, reaches}
use Rattle.calls.proofs.load.load.Goals as goal

pub returns-then-not-has : goal.returns-then-not-has
returns-then-not-has c =
    let g = c.args.manager in
    let z = seen_sizes g.sizes in
    let m = machine_of g c.args.memory.now in
    let p = c.args.process in
    let v = c.args.page in
    let o = c.args.offset in
    refused g c.args.memory.now (fold.load p v o) Fault (load_fault turn z m p v o (not_inside turn z m p v o (sym c.has.ensures.value ∙ c.if-not-has.true)))

pub returns-then-offset-ge256 : goal.returns-then-offset-ge256
returns-then-offset-ge256 c =
    let g = c.args.manager in
    let z = seen_sizes g.sizes in
    let m = machine_of g c.args.memory.now in
    let p = c.args.process in
    let v = c.args.page in
    let o = c.args.offset in
    refused g c.args.memory.now (fold.load p v o) Fault (load_fault turn z m p v o (past_the_end turn z m p v o (le-ltb o 256 (omega arith))))

pub returns-in-Some : goal.returns-in-Some
returns-in-Some c =
    let g = c.args.manager in
    let z = seen_sizes g.sizes in
    let m = machine_of g c.args.memory.now in
    let p = c.args.process in
    let v = c.args.page in
    let o = c.args.offset in
    let found = sym c.in-Some.is ∙ c.slot_of.ensures.value ∙ (λ i. find_slot m.whole.slots (sym c.requires.limits i).frames p v) in
    record {
      same = ap (λ (r : Manager). r.sizes) c.load_hit.ensures.same;
      fixed = c.load_hit.ensures.fixed;
      serves = c.load_hit.ensures.value ∙ ap (load_by turn m p v o) found ∙ sym (load_goes turn z m p v o (reaches turn z m p v o (sym c.has.ensures.value ∙ c.if-not-has.false) (lt-ltb o 256 (omega arith))));
    }

pub returns-in-None : goal.returns-in-None
returns-in-None c =
    let g = c.args.manager in
    let z = seen_sizes g.sizes in
    let m = machine_of g c.args.memory.now in
    let p = c.args.process in
    let v = c.args.page in
    let o = c.args.offset in
    let found = sym c.in-None.is ∙ c.slot_of.ensures.value ∙ (λ i. find_slot m.whole.slots (sym c.requires.limits i).frames p v) in
    record {
      same = c.load_walked.ensures.same;
      fixed = c.load_walked.ensures.fixed;
      serves = c.load_walked.ensures.value ∙ ap (load_by turn m p v o) found ∙ sym (load_goes turn z m p v o (reaches turn z m p v o (sym c.has.ensures.value ∙ c.if-not-has.false) (lt-ltb o 256 (omega arith))));
    }
