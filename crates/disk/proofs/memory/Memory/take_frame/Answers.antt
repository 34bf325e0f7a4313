use Rattle.std.proofs.Common.{Some, None, refl, ap, ◌∙◌}
use Rattle.frames.specs.Turn.{turn}
use Rattle.tables.specs.Lent.{lists}
use Rattle.disk.specs.declared.registers.Taken.{Taken}
use Rattle.disk.specs.Whole.{Whole}
use Rattle.disk.proofs.Settle.{takes}
use Rattle.disk.proofs.memory.Memory.take_frame.Goals as goal

pub returns-in-Some-clause-value : goal.returns-in-Some-clause-value
returns-in-Some-clause-value c =
    let m = c.args.self.now in
    takes m.limits m.pages m.processes c.args.registers (lists m.lent) m.frame_counts_length turn (Some c.in-Some.frame) _ c.in-Some.ensures.value refl

pub returns-in_default-free_place-clause-value : goal.returns-in_default-free_place-clause-value
returns-in_default-free_place-clause-value c =
    let m = c.args.self.now in
    takes m.limits m.pages m.processes c.args.registers (lists m.lent) m.frame_counts_length turn None None c.in_default.ensures.value c.in_default-free_place.ensures.value

pub returns-clause-value : goal.returns-clause-value
returns-clause-value c =
    let m = c.args.self.now in
    ap (λ (p : Whole × Taken). (p.0, Some p.1)) c.send_out.ensures.value
    ∙ takes m.limits m.pages m.processes c.args.registers (lists m.lent) m.frame_counts_length turn None (Some c.in-Some-free_place.place) c.in_default.ensures.value c.in-Some-free_place.ensures.value
