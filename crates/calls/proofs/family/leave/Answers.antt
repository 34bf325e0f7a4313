use Rattle.std.proofs.Common.{◌<◌, false, sym, ap, ◌∙◌, subst}
use Rattle.fold.specs.Fold as fold
use Rattle.frames.specs.Turn.{turn}
use Rattle.requests.specs.Meaning.{seen_sizes}
use Rattle.requests.specs.declared.answer.Answer.TheVariants.{Fault}
use Rattle.requests.specs.declared.sizes.Sizes.{Sizes}
use Rattle.disk.specs.Memory.{state_of}
use Rattle.calls.specs.declared.manager.Manager.{Manager}
use Rattle.calls.specs.Calls.{changed, with_alive}
use Rattle.calls.specs.Memory.{machine_of}
use Rattle.calls.specs.Pages.{dropped_row}
use Rattle.calls.proofs.Serving.{refused, settled_machine, with_alive_machine}
use Rattle.calls.proofs.Ways.{leave_fault, leave_goes}
use Rattle.calls.proofs.family.leave.Goals as goal

pub returns-then-not-is_alive : goal.returns-then-not-is_alive
returns-then-not-is_alive c =
    let g = c.args.manager in
    let m = c.args.memory.now in
    refused g m (fold.leave c.args.process) Fault (leave_fault turn (seen_sizes g.sizes) (machine_of g m) c.args.process (sym c.is_alive.ensures.value ∙ c.if-not-is_alive.true))

pub returns : goal.returns
returns c =
    let g = c.args.manager in
    let z = seen_sizes g.sizes in
    let p = c.args.process in
    let m = c.args.memory.now in
    let within = c.is_alive.ensures.within c.if-not-is_alive.false in
    let settled = settled_machine g c.settled.result m c.drop_row.new.memory (dropped_row (state_of m) p m.pages) (record { sizes = c.settled.ensures.sizes; alive = c.settled.ensures.alive; hand = c.settled.ensures.hand; transfers = c.settled.ensures.transfers; slots = c.settled.ensures.slots }) c.drop_row.ensures.fixed c.drop_row.ensures.dropped in
    let died = with_alive_machine c.settled.result c.with_alive-manager.result c.drop_row.new.memory p false c.with_alive-manager.ensures (subst (λ (s : Sizes). p < s.processes) (sym c.settled.ensures.sizes) within) in
    record {
      same = ap (λ (r : Manager). r.sizes) c.with_alive-manager.ensures ∙ c.settled.ensures.sizes;
      fixed = c.drop_row.ensures.fixed;
      serves = (λ i. (died i, fold.done 0)) ∙ (λ i. (with_alive (settled i) p false, fold.done 0))
          ∙ (λ i. (with_alive (changed (machine_of g m) (dropped_row (state_of m) p (c.requires.pages i))) p false, fold.done 0))
          ∙ sym (leave_goes turn z (machine_of g m) p (sym c.is_alive.ensures.value ∙ c.if-not-is_alive.false));
    }
