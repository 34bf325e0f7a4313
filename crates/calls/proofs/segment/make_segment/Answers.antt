use Rattle.std.proofs.Common.{sym, refl, ◌∙◌}
use Rattle.fold.specs.Fold as fold
use Rattle.frames.specs.Turn.{turn}
use Rattle.requests.specs.Meaning.{seen_sizes}
use Rattle.requests.specs.declared.answer.Answer.TheVariants.{Fault}
use Rattle.disk.specs.Memory.{whole_of}
use Rattle.calls.specs.Calls.{made}
use Rattle.calls.specs.Memory.{machine_of}
use Rattle.calls.proofs.Serving.{refused}
use Rattle.calls.proofs.Ways.{make_fault, make_goes}
use Rattle.calls.proofs.segment.make_segment.Goals as goal

pub returns-then-not-lacks_page : goal.returns-then-not-lacks_page
returns-then-not-lacks_page c =
    let g = c.args.manager in
    let m = c.args.memory.now in
    refused g m (fold.make c.args.process c.args.page) Fault
    (make_fault turn (seen_sizes g.sizes) (machine_of g m) c.args.process c.args.page (sym c.lacks_page.ensures.value ∙ c.if-not-lacks_page.true))

pub returns-in-Some : goal.returns-in-Some
returns-in-Some c =
    let g = c.args.manager in
    let m = c.args.memory.now in
    let w = whole_of c.make-made.result.0 c.make-made.new.memory in
    let e = c.make-made.ensures.value in
    record {
      same = refl;
      fixed = c.make-made.ensures.fixed;
      serves = (λ i. made (record { frames = (c.make-made.ensures.fixed i).limits.frames; alive = (machine_of g m).alive; whole = (machine_of g m).whole }) w (sym c.in-Some.is i)) ∙ (λ i. made (machine_of g m) (e i).0 (e i).1)
          ∙ sym (make_goes turn (seen_sizes g.sizes) (machine_of g m) c.args.process c.args.page (sym c.lacks_page.ensures.value ∙ c.if-not-lacks_page.false));
    }

pub returns-in-None : goal.returns-in-None
returns-in-None c =
    let g = c.args.manager in
    let m = c.args.memory.now in
    let w = whole_of c.make-made.result.0 c.make-made.new.memory in
    let e = c.make-made.ensures.value in
    record {
      same = refl;
      fixed = c.make-made.ensures.fixed;
      serves = (λ i. made (record { frames = (c.make-made.ensures.fixed i).limits.frames; alive = (machine_of g m).alive; whole = (machine_of g m).whole }) w (sym c.in-None.is i)) ∙ (λ i. made (machine_of g m) (e i).0 (e i).1)
          ∙ sym (make_goes turn (seen_sizes g.sizes) (machine_of g m) c.args.process c.args.page (sym c.lacks_page.ensures.value ∙ c.if-not-lacks_page.false));
    }
