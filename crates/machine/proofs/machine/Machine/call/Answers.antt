use Rattle.std.proofs.Common.{rules, ◌≡◌, false, length, is_some, vec_items, Option, sym, ap, ◌∙◌, subst}
use Rattle.std.specs.Vec.{with_items}
use Rattle.std.proofs.lemmas.List.{with_items_is}
use Rattle.requests.specs.Meaning.{answered, asked, seen_sizes}
use Rattle.requests.specs.declared.answer.Refusal.{Refusal}
use Rattle.requests.specs.declared.sizes.Sizes.{Sizes}
use Rattle.tables.specs.State.{Lent}
use Rattle.disk.specs.Moves.{lent}
use Rattle.calls.specs.Entry.{cut_lent, entry_refusal}
use Rattle.calls.specs.Memory as memory
use Rattle.machine.specs.Owned.{lent_of}
use Rattle.machine.proofs.Lending.{answered_call, as_roomy}
use Rattle.machine.proofs.machine.Machine.call.Goals as goal

pub invariant_of-self : goal.invariant_of-self
invariant_of-self c =
    let s = c.args.self.now in
    let g = s.manager in
    let a = asked c.args.call in
    let given = lent c.as_mut_slice.result.now c.as_mut_slice-2.result.now c.as_mut_slice-3.result.now c.as_mut_slice-4.result.now c.as_mut_slice-5.result.now c.as_mut_slice-6.result.now c.as_mut_slice-7.result.now c.as_mut_slice-8.result.now in
    let left = lent c.call-answer.new.table c.call-answer.new.segments c.call-answer.new.lookers c.call-answer.new.frame_counts c.call-answer.new.used c.call-answer.new.place_counts c.call-answer.new.frames c.call-answer.new.disk in
    let own : given ≡ lent_of s = λ i. lent (c.as_mut_slice.ensures.value i) (c.as_mut_slice-2.ensures.value i) (c.as_mut_slice-3.ensures.value i) (c.as_mut_slice-4.ensures.value i) (c.as_mut_slice-5.ensures.value i) (c.as_mut_slice-6.ensures.value i) (c.as_mut_slice-7.ensures.value i) (c.as_mut_slice-8.ensures.value i) in
    let one = answered_call (entry_refusal g.sizes given) g given a c.call-answer.result c.call-answer.new.manager left (subst (λ (x : Lent). is_some (entry_refusal g.sizes x) ≡ false) (sym own) s.roomy) c.call-answer.ensures in
    let after = lent (vec_items (with_items s.table c.call-answer.new.table)) (vec_items (with_items s.segments c.call-answer.new.segments)) (vec_items (with_items s.lookers c.call-answer.new.lookers)) (vec_items (with_items s.frame_counts c.call-answer.new.frame_counts)) (vec_items (with_items s.used c.call-answer.new.used)) (vec_items (with_items s.place_counts c.call-answer.new.place_counts)) (vec_items (with_items s.frames c.call-answer.new.frames)) (vec_items (with_items s.disk c.call-answer.new.disk)) in
    record { roomy = ap (λ (o : Option Refusal). is_some o) (ap (λ (z : Sizes). entry_refusal z after) one.2.same ∙ as_roomy g.sizes (lent_of s) after (record { table = ap length (with_items_is s.table c.call-answer.new.table (c.call-answer.auto.table ∙ c.as_mut_slice.ensures.len)) ∙ c.call-answer.auto.table ∙ ap length c.as_mut_slice.ensures.value; segments = ap length (with_items_is s.segments c.call-answer.new.segments (c.call-answer.auto.segments ∙ c.as_mut_slice-2.ensures.len)) ∙ c.call-answer.auto.segments ∙ ap length c.as_mut_slice-2.ensures.value; lookers = ap length (with_items_is s.lookers c.call-answer.new.lookers (c.call-answer.auto.lookers ∙ c.as_mut_slice-3.ensures.len)) ∙ c.call-answer.auto.lookers ∙ ap length c.as_mut_slice-3.ensures.value; frame_counts = ap length (with_items_is s.frame_counts c.call-answer.new.frame_counts (c.call-answer.auto.frame_counts ∙ c.as_mut_slice-4.ensures.len)) ∙ c.call-answer.auto.frame_counts ∙ ap length c.as_mut_slice-4.ensures.value; used = ap length (with_items_is s.used c.call-answer.new.used (c.call-answer.auto.used ∙ c.as_mut_slice-5.ensures.len)) ∙ c.call-answer.auto.used ∙ ap length c.as_mut_slice-5.ensures.value; place_counts = ap length (with_items_is s.place_counts c.call-answer.new.place_counts (c.call-answer.auto.place_counts ∙ c.as_mut_slice-6.ensures.len)) ∙ c.call-answer.auto.place_counts ∙ ap length c.as_mut_slice-6.ensures.value; frames = ap length (with_items_is s.frames c.call-answer.new.frames (c.call-answer.auto.frames ∙ c.as_mut_slice-7.ensures.len)) ∙ c.call-answer.auto.frames ∙ ap length c.as_mut_slice-7.ensures.value; disk = ap length (with_items_is s.disk c.call-answer.new.disk (c.call-answer.auto.disk ∙ c.as_mut_slice-8.ensures.len)) ∙ c.call-answer.auto.disk ∙ ap length c.as_mut_slice-8.ensures.value })) ∙ s.roomy }

pub returns : goal.returns
returns c =
    let s = c.args.self.now in
    let g = s.manager in
    let a = asked c.args.call in
    let given = lent c.as_mut_slice.result.now c.as_mut_slice-2.result.now c.as_mut_slice-3.result.now c.as_mut_slice-4.result.now c.as_mut_slice-5.result.now c.as_mut_slice-6.result.now c.as_mut_slice-7.result.now c.as_mut_slice-8.result.now in
    let left = lent c.call-answer.new.table c.call-answer.new.segments c.call-answer.new.lookers c.call-answer.new.frame_counts c.call-answer.new.used c.call-answer.new.place_counts c.call-answer.new.frames c.call-answer.new.disk in
    let own : given ≡ lent_of s = λ i. lent (c.as_mut_slice.ensures.value i) (c.as_mut_slice-2.ensures.value i) (c.as_mut_slice-3.ensures.value i) (c.as_mut_slice-4.ensures.value i) (c.as_mut_slice-5.ensures.value i) (c.as_mut_slice-6.ensures.value i) (c.as_mut_slice-7.ensures.value i) (c.as_mut_slice-8.ensures.value i) in
    let one = answered_call (entry_refusal g.sizes given) g given a c.call-answer.result c.call-answer.new.manager left (subst (λ (x : Lent). is_some (entry_refusal g.sizes x) ≡ false) (sym own) s.roomy) c.call-answer.ensures in
    let after = lent (vec_items (with_items s.table c.call-answer.new.table)) (vec_items (with_items s.segments c.call-answer.new.segments)) (vec_items (with_items s.lookers c.call-answer.new.lookers)) (vec_items (with_items s.frame_counts c.call-answer.new.frame_counts)) (vec_items (with_items s.used c.call-answer.new.used)) (vec_items (with_items s.place_counts c.call-answer.new.place_counts)) (vec_items (with_items s.frames c.call-answer.new.frames)) (vec_items (with_items s.disk c.call-answer.new.disk)) in
    let back : left ≡ after = λ i. lent (sym (with_items_is s.table c.call-answer.new.table (c.call-answer.auto.table ∙ c.as_mut_slice.ensures.len)) i) (sym (with_items_is s.segments c.call-answer.new.segments (c.call-answer.auto.segments ∙ c.as_mut_slice-2.ensures.len)) i) (sym (with_items_is s.lookers c.call-answer.new.lookers (c.call-answer.auto.lookers ∙ c.as_mut_slice-3.ensures.len)) i) (sym (with_items_is s.frame_counts c.call-answer.new.frame_counts (c.call-answer.auto.frame_counts ∙ c.as_mut_slice-4.ensures.len)) i) (sym (with_items_is s.used c.call-answer.new.used (c.call-answer.auto.used ∙ c.as_mut_slice-5.ensures.len)) i) (sym (with_items_is s.place_counts c.call-answer.new.place_counts (c.call-answer.auto.place_counts ∙ c.as_mut_slice-6.ensures.len)) i) (sym (with_items_is s.frames c.call-answer.new.frames (c.call-answer.auto.frames ∙ c.as_mut_slice-7.ensures.len)) i) (sym (with_items_is s.disk c.call-answer.new.disk (c.call-answer.auto.disk ∙ c.as_mut_slice-8.ensures.len)) i) in
    let answer : one.0 ≡ c.unwrap_or.result = grind (rules, one.1, c.unwrap_or.ensures) in
    let h = c.call-answer.new.manager in
    record {
      same = one.2.same;
      served = (λ i. (memory.machine h (cut_lent (one.2.same i) (sym back i)), answered (sym answer i))) ∙ one.2.served ∙ ap (λ (x : Lent). memory.serve (seen_sizes g.sizes) (memory.machine g (cut_lent g.sizes x)) a) own;
    }
