use Rattle.std.proofs.Common.{◌≡◌, ◌-◌, ◌*◌, sym, ◌∙◌}
use borrow.Rule.Slice.PartMut.{put_mid}
use Rattle.tables.specs.Lent.{lists}
use Rattle.disk.specs.Moves.{lent}
use Rattle.calls.specs.Entry.{cut_lent, entry_refusal, rest_lent}
use Rattle.calls.proofs.Entering.{part_after, part_rest}
use Rattle.calls.proofs.Opening.{filled, opened_done, zeroed}
use Rattle.calls.proofs.open.open_lent.Goals as goal

pub returns-clause-opened : goal.returns-clause-opened
returns-clause-opened c =
    let z = c.args.sizes in
    let n1 = z.processes * z.pages in
    let n2 = z.segments in
    let n3 = z.frames in
    let n4 = z.places in
    let n5 = z.frames * 256 in
    let n6 = z.places * 256 in
    let m = lists c.args.lent.now in
    let roomy = c.in_ok-admit.ensures.roomy in
    let after = lent (put_mid 0 (n1 - 0) c.args.lent.now.table.now c.fill.new.self) (put_mid 0 (n2 - 0) c.args.lent.now.segments.now c.fill-2.new.self) (put_mid 0 (n2 - 0) c.args.lent.now.lookers.now c.fill-3.new.self) (put_mid 0 (n3 - 0) c.args.lent.now.frame_counts.now c.fill-4.new.self) (put_mid 0 (n3 - 0) c.args.lent.now.used.now c.fill-5.new.self) (put_mid 0 (n4 - 0) c.args.lent.now.place_counts.now c.fill-6.new.self) (put_mid 0 (n5 - 0) c.args.lent.now.frames.now c.fill-7.new.self) (put_mid 0 (n6 - 0) c.args.lent.now.disk.now c.fill-8.new.self) in
    let cut : cut_lent z after ≡ zeroed z =
    λ i. lent ((part_after n1 c.args.lent.now.table.now c.fill.new.self roomy.table c.fill.ensures.len ∙ filled n1 c.args.lent.now.table.now c.fill.new.self roomy.table (c.fill.ensures.after (λ y e. e))) i) ((part_after n2 c.args.lent.now.segments.now c.fill-2.new.self roomy.segments c.fill-2.ensures.len ∙ filled n2 c.args.lent.now.segments.now c.fill-2.new.self roomy.segments (c.fill-2.ensures.after (λ y e. e))) i) ((part_after n2 c.args.lent.now.lookers.now c.fill-3.new.self roomy.lookers c.fill-3.ensures.len ∙ filled n2 c.args.lent.now.lookers.now c.fill-3.new.self roomy.lookers (c.fill-3.ensures.after (λ y e. e))) i) ((part_after n3 c.args.lent.now.frame_counts.now c.fill-4.new.self roomy.frame_counts c.fill-4.ensures.len ∙ filled n3 c.args.lent.now.frame_counts.now c.fill-4.new.self roomy.frame_counts (c.fill-4.ensures.after (λ y e. e))) i) ((part_after n3 c.args.lent.now.used.now c.fill-5.new.self roomy.used c.fill-5.ensures.len ∙ filled n3 c.args.lent.now.used.now c.fill-5.new.self roomy.used (c.fill-5.ensures.after (λ y e. e))) i) ((part_after n4 c.args.lent.now.place_counts.now c.fill-6.new.self roomy.place_counts c.fill-6.ensures.len ∙ filled n4 c.args.lent.now.place_counts.now c.fill-6.new.self roomy.place_counts (c.fill-6.ensures.after (λ y e. e))) i) ((part_after n5 c.args.lent.now.frames.now c.fill-7.new.self roomy.frames c.fill-7.ensures.len ∙ filled n5 c.args.lent.now.frames.now c.fill-7.new.self roomy.frames (c.fill-7.ensures.after (λ y e. e))) i) ((part_after n6 c.args.lent.now.disk.now c.fill-8.new.self roomy.disk c.fill-8.ensures.len ∙ filled n6 c.args.lent.now.disk.now c.fill-8.new.self roomy.disk (c.fill-8.ensures.after (λ y e. e))) i) in
    let rest : rest_lent z after ≡ rest_lent z m =
    λ i. lent (part_rest n1 c.args.lent.now.table.now c.fill.new.self roomy.table c.fill.ensures.len i) (part_rest n2 c.args.lent.now.segments.now c.fill-2.new.self roomy.segments c.fill-2.ensures.len i) (part_rest n2 c.args.lent.now.lookers.now c.fill-3.new.self roomy.lookers c.fill-3.ensures.len i) (part_rest n3 c.args.lent.now.frame_counts.now c.fill-4.new.self roomy.frame_counts c.fill-4.ensures.len i) (part_rest n3 c.args.lent.now.used.now c.fill-5.new.self roomy.used c.fill-5.ensures.len i) (part_rest n4 c.args.lent.now.place_counts.now c.fill-6.new.self roomy.place_counts c.fill-6.ensures.len i) (part_rest n5 c.args.lent.now.frames.now c.fill-7.new.self roomy.frames c.fill-7.ensures.len i) (part_rest n6 c.args.lent.now.disk.now c.fill-8.new.self roomy.disk c.fill-8.ensures.len i) in
    let s = c.start.ensures in
    opened_done (entry_refusal z m) z m c.start.result after (sym c.admit.ensures.value ∙ c.in_ok-admit.was)
    (record { sizes = s.sizes; alive = s.alive; hand = s.hand; reads = s.reads; writes = s.writes; slots = s.slots }) cut rest
