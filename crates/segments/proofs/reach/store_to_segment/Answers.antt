use Rattle.std.proofs.Common.{Some, Option, sym, ap, ◌∙◌}
use Rattle.disk.specs.declared.registers.Taken.{Taken}
use Rattle.disk.specs.Memory.{whole_of}
use Rattle.disk.specs.Whole.{Whole}
use Rattle.copies.specs.Own.{with_state}
use Rattle.segments.specs.Reach.{put_by, stored_to_segment}
use Rattle.segments.proofs.reach.store_to_segment.Goals as goal

pub returns-in_default-clause-value : goal.returns-in_default-clause-value
unfolding stored_to_segment
returns-in_default-clause-value c =
    let s = c.args.store in
    let by : Whole × Option Taken → Whole × Option Taken = λ q. put_by s.offset s.byte q.0 q.1 in
    let w = whole_of c.reach-reached.result.0 c.reach-reached.new.memory in
    ap (λ (o : Option Taken). by (w, o)) (sym c.in_default.is) ∙ ap by c.reach-reached.ensures.value

pub returns-clause-value : goal.returns-clause-value
unfolding stored_to_segment
returns-clause-value c =
    let s = c.args.store in
    let m = c.reach-reached.new.memory in
    let by : Whole × Option Taken → Whole × Option Taken = λ q. put_by s.offset s.byte q.0 q.1 in
    let w = whole_of c.reach-reached.result.0 m in
    (λ i. (with_state w (c.store.ensures.stored i), Some c.in-Some.taken)) ∙ ap (λ (o : Option Taken). by (w, o)) (sym c.in-Some.is) ∙ ap by c.reach-reached.ensures.value
