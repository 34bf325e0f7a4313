use Rattle.std.proofs.Common.{◌≡◌, ◌-◌, ◌*◌, take, drop, sym, ◌∙◌, subst}
use borrow.Rule.Slice.PartMut.{put_mid}
use Rattle.requests.specs.Meaning.{asked}
use Rattle.tables.specs.State.{Lent}
use Rattle.tables.specs.Lent.{lists}
use Rattle.disk.specs.Moves.{lent}
use Rattle.calls.specs.Entry.{cut_lent, entry_refusal, rest_lent}
use Rattle.requests.specs.declared.answer.Answer.{Answer}
use Rattle.calls.specs.declared.manager.Manager.{Manager}
use Rattle.calls.specs.Memory.{Served}
use Rattle.calls.proofs.Entering.{called_answered, part, part_after, part_rest}
use Rattle.calls.proofs.entry.call_lent.Goals as goal

pub returns-clause-called : goal.returns-clause-called
returns-clause-called c =
    let g = c.args.manager.now in
    let z = g.sizes in
    let n1 = z.processes * z.pages in
    let n2 = z.segments in
    let n3 = z.frames in
    let n4 = z.places in
    let n5 = z.frames * 256 in
    let n6 = z.places * 256 in
    let m = lists c.args.lent.now in
    let left = lent c.serve_cut-answer.new.table c.serve_cut-answer.new.segments c.serve_cut-answer.new.lookers c.serve_cut-answer.new.frame_counts c.serve_cut-answer.new.used c.serve_cut-answer.new.place_counts c.serve_cut-answer.new.frames c.serve_cut-answer.new.disk in
    let roomy = c.in_ok-admit.ensures.roomy in
    let kept = c.serve_cut-answer.auto in
    let after = lent (put_mid 0 (n1 - 0) c.args.lent.now.table.now c.serve_cut-answer.new.table) (put_mid 0 (n2 - 0) c.args.lent.now.segments.now c.serve_cut-answer.new.segments) (put_mid 0 (n2 - 0) c.args.lent.now.lookers.now c.serve_cut-answer.new.lookers) (put_mid 0 (n3 - 0) c.args.lent.now.frame_counts.now c.serve_cut-answer.new.frame_counts) (put_mid 0 (n3 - 0) c.args.lent.now.used.now c.serve_cut-answer.new.used) (put_mid 0 (n4 - 0) c.args.lent.now.place_counts.now c.serve_cut-answer.new.place_counts) (put_mid 0 (n5 - 0) c.args.lent.now.frames.now c.serve_cut-answer.new.frames) (put_mid 0 (n6 - 0) c.args.lent.now.disk.now c.serve_cut-answer.new.disk) in
    let given : lent (take (n1 - 0) (drop 0 c.args.lent.now.table.now)) (take (n2 - 0) (drop 0 c.args.lent.now.segments.now)) (take (n2 - 0) (drop 0 c.args.lent.now.lookers.now)) (take (n3 - 0) (drop 0 c.args.lent.now.frame_counts.now)) (take (n3 - 0) (drop 0 c.args.lent.now.used.now)) (take (n4 - 0) (drop 0 c.args.lent.now.place_counts.now)) (take (n5 - 0) (drop 0 c.args.lent.now.frames.now)) (take (n6 - 0) (drop 0 c.args.lent.now.disk.now)) ≡ cut_lent z m =
    λ i. lent (part n1 c.args.lent.now.table.now i) (part n2 c.args.lent.now.segments.now i) (part n2 c.args.lent.now.lookers.now i) (part n3 c.args.lent.now.frame_counts.now i) (part n3 c.args.lent.now.used.now i) (part n4 c.args.lent.now.place_counts.now i) (part n5 c.args.lent.now.frames.now i) (part n6 c.args.lent.now.disk.now i) in
    let cut : left ≡ cut_lent z after =
    λ i. lent (sym (part_after n1 c.args.lent.now.table.now c.serve_cut-answer.new.table roomy.table kept.table) i) (sym (part_after n2 c.args.lent.now.segments.now c.serve_cut-answer.new.segments roomy.segments kept.segments) i) (sym (part_after n2 c.args.lent.now.lookers.now c.serve_cut-answer.new.lookers roomy.lookers kept.lookers) i) (sym (part_after n3 c.args.lent.now.frame_counts.now c.serve_cut-answer.new.frame_counts roomy.frame_counts kept.frame_counts) i) (sym (part_after n3 c.args.lent.now.used.now c.serve_cut-answer.new.used roomy.used kept.used) i) (sym (part_after n4 c.args.lent.now.place_counts.now c.serve_cut-answer.new.place_counts roomy.place_counts kept.place_counts) i) (sym (part_after n5 c.args.lent.now.frames.now c.serve_cut-answer.new.frames roomy.frames kept.frames) i) (sym (part_after n6 c.args.lent.now.disk.now c.serve_cut-answer.new.disk roomy.disk kept.disk) i) in
    let rest : rest_lent z after ≡ rest_lent z m =
    λ i. lent (part_rest n1 c.args.lent.now.table.now c.serve_cut-answer.new.table roomy.table kept.table i) (part_rest n2 c.args.lent.now.segments.now c.serve_cut-answer.new.segments roomy.segments kept.segments i) (part_rest n2 c.args.lent.now.lookers.now c.serve_cut-answer.new.lookers roomy.lookers kept.lookers i) (part_rest n3 c.args.lent.now.frame_counts.now c.serve_cut-answer.new.frame_counts roomy.frame_counts kept.frame_counts i) (part_rest n3 c.args.lent.now.used.now c.serve_cut-answer.new.used roomy.used kept.used i) (part_rest n4 c.args.lent.now.place_counts.now c.serve_cut-answer.new.place_counts roomy.place_counts kept.place_counts i) (part_rest n5 c.args.lent.now.frames.now c.serve_cut-answer.new.frames roomy.frames kept.frames i) (part_rest n6 c.args.lent.now.disk.now c.serve_cut-answer.new.disk roomy.disk kept.disk i) in
    let a = asked c.args.call in
    let r : Manager × Answer = (c.serve_cut-answer.new.manager, c.serve_cut-answer.result) in
    let served : Served g (cut_lent z m) a r (cut_lent z after) =
    subst (λ (x : Lent). Served g (cut_lent z m) a r x) cut (subst (λ (x : Lent). Served g x a r left) given c.serve_cut-answer.ensures) in
    called_answered (entry_refusal z m) g m a r.1 r.0 after (sym c.admit.ensures.value ∙ c.in_ok-admit.was) served rest
