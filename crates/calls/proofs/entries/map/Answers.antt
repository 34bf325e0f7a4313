use Rattle.std.proofs.Common.{sym, ◌∙◌}
use Rattle.fold.specs.Fold as fold
use Rattle.frames.specs.Turn.{turn}
use Rattle.requests.specs.Meaning.{seen_sizes}
use Rattle.requests.specs.declared.answer.Answer.TheVariants.{Fault}
use Rattle.disk.specs.Memory.{state_of}
use Rattle.calls.specs.Memory.{machine_of}
use Rattle.calls.specs.Pages.{mapped}
use Rattle.calls.proofs.Serving.{refused, settled_machine}
use Rattle.calls.proofs.Ways.{map_fault, map_goes}
use Rattle.calls.proofs.entries.map.Goals as goal

pub returns-then-not-lacks_page : goal.returns-then-not-lacks_page
returns-then-not-lacks_page c =
    let g = c.args.manager in
    let m = c.args.memory.now in
    refused g m (fold.map c.args.process c.args.page) Fault
    (map_fault turn (seen_sizes g.sizes) (machine_of g m) c.args.process c.args.page (sym c.lacks_page.ensures.value ∙ c.if-not-lacks_page.true))

pub returns : goal.returns
unfolding mapped
returns c =
    let g = c.args.manager in
    let m = c.args.memory.now in
    let s = mapped (state_of m) c.args.process c.args.page in
    let done = settled_machine g c.settled.result m c.set_entry.new.self s (record { sizes = c.settled.ensures.sizes; alive = c.settled.ensures.alive; hand = c.settled.ensures.hand; transfers = c.settled.ensures.transfers; slots = c.settled.ensures.slots }) c.set_entry.ensures.fixed c.set_entry.ensures.written in
    record {
      same = c.settled.ensures.sizes;
      fixed = c.set_entry.ensures.fixed;
      serves = (λ i. (done i, fold.done 0))
          ∙ sym (map_goes turn (seen_sizes g.sizes) (machine_of g m) c.args.process c.args.page (sym c.lacks_page.ensures.value ∙ c.if-not-lacks_page.false));
    }
