use Rattle.std.proofs.Common.{Some, None, refl, ap, ◌∙◌}
use Rattle.frames.specs.Turn.{turn}
use Rattle.tables.specs.Lent.{lists}
use Rattle.disk.specs.declared.registers.Taken.{Taken}
use Rattle.disk.specs.Memory.{whole_of}
use Rattle.disk.specs.Whole.{Whole, fetched}
use Rattle.disk.proofs.Settle.{brings}
use Rattle.disk.proofs.memory.Memory.bring_in.Goals as goal

pub returns-in-Some-clause-value : goal.returns-in-Some-clause-value
returns-in-Some-clause-value c =
    let m = c.args.self.now in
    (λ i. (c.fetch.ensures.value i, record { frame = c.in-Some.frame; looks = 0 }))
    ∙ brings m.limits m.pages m.processes c.args.registers (lists m.lent) m.frame_counts_length turn c.args.place (Some c.in-Some.frame) _ c.in-Some.ensures.value refl

pub returns-in_default-free_place-clause-value : goal.returns-in_default-free_place-clause-value
returns-in_default-free_place-clause-value c =
    let m = c.args.self.now in
    c.trade.ensures.value
    ∙ brings m.limits m.pages m.processes c.args.registers (lists m.lent) m.frame_counts_length turn c.args.place None None c.in_default.ensures.value c.in_default-free_place.ensures.value

pub returns-clause-value : goal.returns-clause-value
returns-clause-value c =
    let m = c.args.self.now in
    let f = c.send_out.result.1.frame in
    (λ i. (c.fetch-2.ensures.value i, c.send_out.result.1))
    ∙ (λ i. (fetched (c.send_out.ensures.fixed i).limits.frames f c.args.place (whole_of c.send_out.result.0 c.send_out.new.self), c.send_out.result.1))
    ∙ ap (λ (p : Whole × Taken). (fetched m.limits.frames p.1.frame c.args.place p.0, p.1)) c.send_out.ensures.value
    ∙ brings m.limits m.pages m.processes c.args.registers (lists m.lent) m.frame_counts_length turn c.args.place None (Some c.in-Some-free_place.free) c.in_default.ensures.value c.in-Some-free_place.ensures.value
