use Rattle.std.proofs.Common.{get_or, vec_items, sym, ap, ◌∙◌}
use Rattle.requests.specs.Meaning.{seen_sizes}
use Rattle.fold.specs.Fold as fold
use Rattle.private.specs.Called.{world}
use Rattle.private.specs.SeePage.{see_page}
use Rattle.private.proofs.Calls as way
use Rattle.private.proofs.machine.Machine.load.Goals as goal

pub returns-then-not-reaches : goal.returns-then-not-reaches
returns-then-not-reaches c =
    sym (way.load_outside (seen_sizes c.args.self.now.sizes) (world c.args.self.now) c.args.place.process c.args.place.page c.args.offset (sym c.if-not-reaches.ensures))

pub returns-in-Own : goal.returns-in-Own
unfolding fold.loaded
returns-in-Own c =
    ap fold.done (c.from.ensures ∙ c.byte_at.ensures ∙ ap (λ bs. get_or bs c.args.offset 0) c.as_slice.ensures.value)
    ∙ sym (way.load_inside (seen_sizes c.args.self.now.sizes) (world c.args.self.now) c.args.place.process c.args.place.page c.args.offset (fold.own c.in-Own.label (vec_items c.in-Own.bytes)) (sym c.if-not-reaches.ensures) (c.in-Some.ensures ∙ ap see_page c.in-Own.is))

pub returns-in-Segment : goal.returns-in-Segment
unfolding fold.loaded
returns-in-Segment c =
    ap fold.done (c.from-in-Segment.ensures ∙ c.segment_byte.ensures)
    ∙ sym (way.load_inside (seen_sizes c.args.self.now.sizes) (world c.args.self.now) c.args.place.process c.args.place.page c.args.offset (fold.seen c.in-Segment.number) (sym c.if-not-reaches.ensures) (c.in-Some.ensures ∙ ap see_page c.in-Segment.is))

pub returns-in-Absent : goal.returns-in-Absent
unfolding fold.loaded
returns-in-Absent c =
    sym (way.load_inside (seen_sizes c.args.self.now.sizes) (world c.args.self.now) c.args.place.process c.args.place.page c.args.offset fold.absent (sym c.if-not-reaches.ensures) (c.in-Some.ensures ∙ ap see_page c.in-Absent.is))

pub returns-in_default : goal.returns-in_default
unfolding fold.loaded
returns-in_default c =
    sym (way.load_inside (seen_sizes c.args.self.now.sizes) (world c.args.self.now) c.args.place.process c.args.place.page c.args.offset fold.absent (sym c.if-not-reaches.ensures) c.in_default.ensures)
