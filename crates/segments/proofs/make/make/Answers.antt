use Rattle.std.proofs.Common.{ℕ, Option, ap, ◌∙◌}
use Rattle.frames.specs.Turn.{turn}
use Rattle.tables.specs.State.{view}
use Rattle.disk.specs.Memory.{whole_of}
use Rattle.segments.specs.Make.{make_of, make_segment}
use Rattle.segments.proofs.make.make.Goals as goal

pub returns-in_default-clause-value : goal.returns-in_default-clause-value
unfolding view make_segment
returns-in_default-clause-value c =
    let m = c.args.memory.now in
    ap (λ (o : Option ℕ). make_of turn m.limits.frames (whole_of c.args.registers m) c.args.process c.args.page o) c.in_default.ensures.value

pub returns-clause-value : goal.returns-clause-value
unfolding view make_segment
returns-clause-value c =
    let m = c.args.memory.now in
    c.make_this.ensures.value ∙ ap (λ (o : Option ℕ). make_of turn m.limits.frames (whole_of c.args.registers m) c.args.process c.args.page o) c.in-Some.ensures.value
