use Rattle.std.proofs.Common.{◌≡◌, ◌<◌, true, sym, ap, ◌∙◌, subst}
use Rattle.fold.specs.Fold as fold
use Rattle.frames.specs.Turn.{turn}
use Rattle.requests.specs.Meaning.{seen_sizes}
use Rattle.requests.specs.declared.answer.Answer.TheVariants.{Fault, Full}
use Rattle.requests.specs.declared.sizes.Sizes.{Sizes}
use Rattle.tables.specs.Rows.{shared_row}
use Rattle.tables.specs.State.{with_rows}
use Rattle.disk.specs.Memory.{state_of}
use Rattle.calls.specs.declared.manager.Manager.{Manager}
use Rattle.calls.specs.Calls.{changed, fork_to, with_alive}
use Rattle.calls.specs.Memory.{machine_of}
use Rattle.calls.specs.Pages.{forked, raised_row}
use Rattle.calls.proofs.Raised.{raised_row_rows}
use Rattle.calls.proofs.Serving.{no_some, refused, settled_machine, with_alive_machine}
use Rattle.calls.proofs.Ways.{fork_fault, fork_goes}
use Rattle.calls.proofs.family.fork.Goals as goal

pub returns-then-not-is_alive : goal.returns-then-not-is_alive
returns-then-not-is_alive c =
    let g = c.args.manager in
    let m = c.args.memory.now in
    refused g m (fold.fork c.args.process) Fault (fork_fault turn (seen_sizes g.sizes) (machine_of g m) c.args.process (sym c.is_alive.ensures.value ∙ c.if-not-is_alive.true))

pub returns-in_default : goal.returns-in_default
returns-in_default c =
    let g = c.args.manager in
    let z = seen_sizes g.sizes in
    let m = c.args.memory.now in
    refused g m (fold.fork c.args.process) Full
    (fork_goes turn z (machine_of g m) c.args.process (sym c.is_alive.ensures.value ∙ c.if-not-is_alive.false)
    ∙ ap (fork_to z (machine_of g m) c.args.process) (sym c.lowest_absent.ensures.value ∙ no_some c.lowest_absent.result c.in_default.not-Some))

pub returns : goal.returns
unfolding forked
returns c =
    let g = c.args.manager in
    let z = seen_sizes g.sizes in
    let p = c.args.process in
    let child = c.in-Some.child in
    let m = c.args.memory.now in
    let after = c.share_row.new.self in
    let kept = c.share_row.ensures.fixed ∙ c.raise_row.ensures.fixed in
    let raised = c.raise_row.ensures.raised in
    let meaning : state_of after ≡ forked (state_of m) p child m.pages =
    c.share_row.ensures.shared
    ∙ (λ i. with_rows (raised i) (shared_row (raised i).rows p child (c.raise_row.ensures.fixed i).pages))
    ∙ (λ i. with_rows (raised_row (state_of m) p m.pages) (shared_row (raised_row_rows (state_of m) p m.pages i) p child m.pages)) in
    let settled = settled_machine g c.settled.result m after (forked (state_of m) p child m.pages) (record { sizes = c.settled.ensures.sizes; alive = c.settled.ensures.alive; hand = c.settled.ensures.hand; transfers = c.settled.ensures.transfers; slots = c.settled.ensures.slots }) kept meaning in
    let born = with_alive_machine c.settled.result c.with_alive-manager.result after child true c.with_alive-manager.ensures (subst (λ (s : Sizes). child < s.processes) (sym c.settled.ensures.sizes) c.in-Some.ensures.within) in
    record {
      same = ap (λ (r : Manager). r.sizes) c.with_alive-manager.ensures ∙ c.settled.ensures.sizes;
      fixed = kept;
      serves = (λ i. (born i, fold.done child)) ∙ (λ i. (with_alive (settled i) child true, fold.done child))
          ∙ (λ i. (with_alive (changed (machine_of g m) (forked (state_of m) p child (c.requires.pages i))) child true, fold.done child))
          ∙ ap (fork_to z (machine_of g m) p) (sym c.in-Some.is ∙ c.lowest_absent.ensures.value) ∙ sym (fork_goes turn z (machine_of g m) p (sym c.is_alive.ensures.value ∙ c.if-not-is_alive.false));
    }
