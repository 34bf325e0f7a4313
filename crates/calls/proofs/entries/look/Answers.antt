use Rattle.std.proofs.Common.{◌≡◌, ℕ, sym, refl, ap, ◌∙◌}
use Rattle.fold.specs.Fold as fold
use Rattle.frames.specs.Turn.{turn}
use Rattle.requests.specs.Meaning.{seen_sizes}
use Rattle.requests.specs.declared.answer.Answer.TheVariants.{Fault}
use Rattle.tables.specs.declared.entry.Target.{Target}
use Rattle.tables.specs.declared.entry.Target.TheVariants.{Absent, Zero, Frame, Place, Segment}
use Rattle.tables.specs.Cells.{Cell, held_of}
use Rattle.disk.specs.Memory.{state_of}
use Rattle.segments.specs.Release.{looked}
use Rattle.calls.specs.Calls.{look_at}
use Rattle.calls.specs.Machine.{Machine}
use Rattle.calls.specs.Memory.{machine_of}
use Rattle.calls.proofs.Serving.{refused, settled_machine}
use Rattle.calls.proofs.Ways.{look_goes, look_not_absent, look_not_inside}
use Rattle.calls.proofs.entries.look.Goals as goal

no_segment : (m : Machine) (p v frames : ℕ) (t : Target) → ((s : ℕ) → t ≡ Segment s → ⊥) → look_at m p v (held_of frames t) ≡ (m, fold.fault)
no_segment m p v frames Absent n = refl
no_segment m p v frames Zero n = refl
no_segment m p v frames (Frame f) n = refl
no_segment m p v frames (Place d) n = refl
no_segment m p v frames (Segment s) n = absurd (n s refl)

pub returns-then-not-lacks_page : goal.returns-then-not-lacks_page
returns-then-not-lacks_page c =
    let g = c.args.manager in
    let m = c.args.memory.now in
    refused g m (fold.look c.args.process c.args.page c.args.from_process c.args.from_page) Fault
    (look_not_absent turn (seen_sizes g.sizes) (machine_of g m) c.args.process c.args.page c.args.from_process c.args.from_page
    (sym c.lacks_page.ensures.value ∙ c.if-not-lacks_page.true))

pub returns-then-not-has : goal.returns-then-not-has
returns-then-not-has c =
    let g = c.args.manager in
    let m = c.args.memory.now in
    refused g m (fold.look c.args.process c.args.page c.args.from_process c.args.from_page) Fault
    (look_not_inside turn (seen_sizes g.sizes) (machine_of g m) c.args.process c.args.page c.args.from_process c.args.from_page
    (sym c.has.ensures.value ∙ c.if-not-has.true))

pub returns-in_default : goal.returns-in_default
returns-in_default c =
    let g = c.args.manager in
    let m = c.args.memory.now in
    refused g m (fold.look c.args.process c.args.page c.args.from_process c.args.from_page) Fault
    (look_goes turn (seen_sizes g.sizes) (machine_of g m) c.args.process c.args.page c.args.from_process c.args.from_page
    (sym c.lacks_page.ensures.value ∙ c.if-not-lacks_page.false) (sym c.has.ensures.value ∙ c.if-not-has.false)
    ∙ ap (λ (k : Cell). look_at (machine_of g m) c.args.process c.args.page k.holds) (sym c.entry.ensures.value)
    ∙ no_segment (machine_of g m) c.args.process c.args.page m.limits.frames c.entry.result.target c.in_default.not-Segment)

pub returns : goal.returns
returns c =
    let g = c.args.manager in
    let m = c.args.memory.now in
    let s = c.in-Segment.segment in
    let done = settled_machine g c.settled.result m c.look_at.new.memory (looked (state_of m) c.args.process c.args.page s) (record { sizes = c.settled.ensures.sizes; alive = c.settled.ensures.alive; hand = c.settled.ensures.hand; transfers = c.settled.ensures.transfers; slots = c.settled.ensures.slots }) c.look_at.ensures.fixed c.look_at.ensures.looked in
    let named = ap (held_of m.limits.frames) (sym c.in-Segment.is) ∙ ap (λ (k : Cell). k.holds) c.entry.ensures.value in
    record {
      same = c.settled.ensures.sizes;
      fixed = c.look_at.ensures.fixed;
      serves = (λ i. (done i, fold.done s)) ∙ ap (look_at (machine_of g m) c.args.process c.args.page) named
          ∙ sym (look_goes turn (seen_sizes g.sizes) (machine_of g m) c.args.process c.args.page c.args.from_process c.args.from_page
          (sym c.lacks_page.ensures.value ∙ c.if-not-lacks_page.false) (sym c.has.ensures.value ∙ c.if-not-has.false));
    }
