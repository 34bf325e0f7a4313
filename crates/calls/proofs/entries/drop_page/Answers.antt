use Rattle.std.proofs.Common.{sym, ◌∙◌}
use Rattle.fold.specs.Fold as fold
use Rattle.frames.specs.Turn.{turn}
use Rattle.requests.specs.Meaning.{seen_sizes}
use Rattle.requests.specs.declared.answer.Answer.TheVariants.{Fault}
use Rattle.disk.specs.Memory.{state_of}
use Rattle.segments.specs.Release.{dropped}
use Rattle.calls.specs.Memory.{machine_of}
use Rattle.calls.proofs.Serving.{refused, settled_machine}
use Rattle.calls.proofs.Ways.{drop_fault, drop_goes}
use Rattle.calls.proofs.entries.drop_page.Goals as goal

pub returns-then-not-has_page : goal.returns-then-not-has_page
returns-then-not-has_page c =
    let g = c.args.manager in
    let m = c.args.memory.now in
    refused g m (fold.drop c.args.process c.args.page) Fault
    (drop_fault turn (seen_sizes g.sizes) (machine_of g m) c.args.process c.args.page (sym c.has_page.ensures.value ∙ c.if-not-has_page.true))

pub returns : goal.returns
returns c =
    let g = c.args.manager in
    let m = c.args.memory.now in
    let done = settled_machine g c.settled.result m c.drop_at.new.memory (dropped (state_of m) c.args.process c.args.page) (record { sizes = c.settled.ensures.sizes; alive = c.settled.ensures.alive; hand = c.settled.ensures.hand; transfers = c.settled.ensures.transfers; slots = c.settled.ensures.slots }) c.drop_at.ensures.fixed c.drop_at.ensures.dropped in
    record {
      same = c.settled.ensures.sizes;
      fixed = c.drop_at.ensures.fixed;
      serves = (λ i. (done i, fold.done 0))
          ∙ sym (drop_goes turn (seen_sizes g.sizes) (machine_of g m) c.args.process c.args.page (sym c.has_page.ensures.value ∙ c.if-not-has_page.false));
    }
