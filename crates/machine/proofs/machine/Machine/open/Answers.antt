use Rattle.std.proofs.Common.{◌≡◌, length, is_some, vec_items, Option, sym, ap, ◌∙◌}
use Rattle.std.specs.Vec.{with_items}
use Rattle.std.proofs.lemmas.List.{with_items_is}
use Rattle.requests.specs.declared.answer.Refusal.{Refusal}
use Rattle.requests.specs.declared.sizes.Sizes.{Sizes}
use Rattle.disk.specs.Moves.{lent}
use Rattle.calls.specs.Entry.{cut_lent, entry_refusal}
use Rattle.calls.specs.Memory as memory
use Rattle.machine.proofs.Lending.{as_roomy, opened_manager}
use Rattle.machine.proofs.machine.Machine.open.Goals as goal

pub invariant_of-result : goal.invariant_of-result
invariant_of-result c =
    let z = c.args.sizes in
    let g = c.in_ok-manager.manager in
    let given = lent c.as_mut_slice.result.now c.as_mut_slice-2.result.now c.as_mut_slice-3.result.now c.as_mut_slice-4.result.now c.as_mut_slice-5.result.now c.as_mut_slice-6.result.now c.as_mut_slice-7.result.now c.as_mut_slice-8.result.now in
    let left = lent c.open.new.table c.open.new.segments c.open.new.lookers c.open.new.frame_counts c.open.new.used c.open.new.place_counts c.open.new.frames c.open.new.disk in
    let after = lent (vec_items (with_items c.in_ok-table.table c.open.new.table)) (vec_items (with_items c.in_ok-segments.segments c.open.new.segments)) (vec_items (with_items c.in_ok-lookers.lookers c.open.new.lookers)) (vec_items (with_items c.in_ok-frame_counts.frame_counts c.open.new.frame_counts)) (vec_items (with_items c.in_ok-used.used c.open.new.used)) (vec_items (with_items c.in_ok-place_counts.place_counts c.open.new.place_counts)) (vec_items (with_items c.in_ok-frames.frames c.open.new.frames)) (vec_items (with_items c.in_ok-disk.disk c.open.new.disk)) in
    let one = opened_manager (entry_refusal z given) z given c.open.result left g c.in_ok-manager.was c.open.ensures in
    record { roomy = ap (λ (o : Option Refusal). is_some o) (ap (λ (y : Sizes). entry_refusal y after) one.1 ∙ as_roomy z given after (record { table = ap length (with_items_is c.in_ok-table.table c.open.new.table (c.open.auto.table ∙ c.as_mut_slice.ensures.len)) ∙ c.open.auto.table; segments = ap length (with_items_is c.in_ok-segments.segments c.open.new.segments (c.open.auto.segments ∙ c.as_mut_slice-2.ensures.len)) ∙ c.open.auto.segments; lookers = ap length (with_items_is c.in_ok-lookers.lookers c.open.new.lookers (c.open.auto.lookers ∙ c.as_mut_slice-3.ensures.len)) ∙ c.open.auto.lookers; frame_counts = ap length (with_items_is c.in_ok-frame_counts.frame_counts c.open.new.frame_counts (c.open.auto.frame_counts ∙ c.as_mut_slice-4.ensures.len)) ∙ c.open.auto.frame_counts; used = ap length (with_items_is c.in_ok-used.used c.open.new.used (c.open.auto.used ∙ c.as_mut_slice-5.ensures.len)) ∙ c.open.auto.used; place_counts = ap length (with_items_is c.in_ok-place_counts.place_counts c.open.new.place_counts (c.open.auto.place_counts ∙ c.as_mut_slice-6.ensures.len)) ∙ c.open.auto.place_counts; frames = ap length (with_items_is c.in_ok-frames.frames c.open.new.frames (c.open.auto.frames ∙ c.as_mut_slice-7.ensures.len)) ∙ c.open.auto.frames; disk = ap length (with_items_is c.in_ok-disk.disk c.open.new.disk (c.open.auto.disk ∙ c.as_mut_slice-8.ensures.len)) ∙ c.open.auto.disk }) ∙ one.0) }

pub returns : goal.returns
returns c =
    let z = c.args.sizes in
    let g = c.in_ok-manager.manager in
    let given = lent c.as_mut_slice.result.now c.as_mut_slice-2.result.now c.as_mut_slice-3.result.now c.as_mut_slice-4.result.now c.as_mut_slice-5.result.now c.as_mut_slice-6.result.now c.as_mut_slice-7.result.now c.as_mut_slice-8.result.now in
    let left = lent c.open.new.table c.open.new.segments c.open.new.lookers c.open.new.frame_counts c.open.new.used c.open.new.place_counts c.open.new.frames c.open.new.disk in
    let after = lent (vec_items (with_items c.in_ok-table.table c.open.new.table)) (vec_items (with_items c.in_ok-segments.segments c.open.new.segments)) (vec_items (with_items c.in_ok-lookers.lookers c.open.new.lookers)) (vec_items (with_items c.in_ok-frame_counts.frame_counts c.open.new.frame_counts)) (vec_items (with_items c.in_ok-used.used c.open.new.used)) (vec_items (with_items c.in_ok-place_counts.place_counts c.open.new.place_counts)) (vec_items (with_items c.in_ok-frames.frames c.open.new.frames)) (vec_items (with_items c.in_ok-disk.disk c.open.new.disk)) in
    let one = opened_manager (entry_refusal z given) z given c.open.result left g c.in_ok-manager.was c.open.ensures in
    let back : left ≡ after = λ i. lent (sym (with_items_is c.in_ok-table.table c.open.new.table (c.open.auto.table ∙ c.as_mut_slice.ensures.len)) i) (sym (with_items_is c.in_ok-segments.segments c.open.new.segments (c.open.auto.segments ∙ c.as_mut_slice-2.ensures.len)) i) (sym (with_items_is c.in_ok-lookers.lookers c.open.new.lookers (c.open.auto.lookers ∙ c.as_mut_slice-3.ensures.len)) i) (sym (with_items_is c.in_ok-frame_counts.frame_counts c.open.new.frame_counts (c.open.auto.frame_counts ∙ c.as_mut_slice-4.ensures.len)) i) (sym (with_items_is c.in_ok-used.used c.open.new.used (c.open.auto.used ∙ c.as_mut_slice-5.ensures.len)) i) (sym (with_items_is c.in_ok-place_counts.place_counts c.open.new.place_counts (c.open.auto.place_counts ∙ c.as_mut_slice-6.ensures.len)) i) (sym (with_items_is c.in_ok-frames.frames c.open.new.frames (c.open.auto.frames ∙ c.as_mut_slice-7.ensures.len)) i) (sym (with_items_is c.in_ok-disk.disk c.open.new.disk (c.open.auto.disk ∙ c.as_mut_slice-8.ensures.len)) i) in
    (one.1, (λ i. memory.machine g (cut_lent (one.1 i) (sym back i))) ∙ one.2)
