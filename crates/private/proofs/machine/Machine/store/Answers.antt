use Rattle.std.proofs.Common.{◌+◌, Ok, vec_items, sym, refl, ap, ◌∙◌}
use Rattle.requests.specs.Meaning.{seen_sizes}
use Rattle.fold.specs.Fold as fold
use Rattle.private.specs.Called.{world}
use Rattle.private.proofs.Calls as way
use Rattle.requests.specs.declared.answer.Answer.TheVariants.{Done}
use Rattle.private.specs.See.{see}
use Rattle.private.specs.SeePage.{see_page}
use Rattle.private.proofs.Made.{stands, segment_made, alone_made, store_full, fresh_made}
use Rattle.private.proofs.machine.Machine.store.Goals as goal

pub returns-then-not-reaches : goal.returns-then-not-reaches
returns-then-not-reaches c =
    let m = c.args.self.now in
    (refl, way.both (way.store_outside (seen_sizes m.sizes) (world m) c.args.place.process c.args.place.page c.args.offset c.args.byte (sym c.if-not-reaches.ensures)))

pub returns-in_default : goal.returns-in_default
unfolding fold.stored
returns-in_default c =
    let m = c.args.self.now in
    (refl, way.both (way.store_inside (seen_sizes m.sizes) (world m) c.args.place.process c.args.place.page c.args.offset c.args.byte (fold.absent) (sym c.if-not-reaches.ensures) (c.in_default.ensures)))

pub returns-in-Absent : goal.returns-in-Absent
unfolding fold.stored
returns-in-Absent c =
    let m = c.args.self.now in
    (refl, way.both (way.store_inside (seen_sizes m.sizes) (world m) c.args.place.process c.args.place.page c.args.offset c.args.byte (fold.absent) (sym c.if-not-reaches.ensures) (c.in-Some.ensures ∙ ap see_page c.in-Absent.is)))

pub invariant_of-self : goal.invariant_of-self
invariant_of-self c =
    let m = c.args.self.now in
    let k = stands m (fold.store c.args.place.process c.args.place.page c.args.offset c.args.byte) (Ok (Done 0)) (see c.put_segment_byte.new.self)
    (segment_made m.sizes (world m) c.args.place.process c.args.place.page c.args.offset c.args.byte (sym c.if-not-reaches.ensures) c.in-Segment.number (see c.put_segment_byte.new.self) (c.in-Some.ensures ∙ ap see_page c.in-Segment.is) c.put_segment_byte.ensures) in
    record { rows = k.0; labels = k.1; room = k.2 }

pub returns-in-Segment : goal.returns-in-Segment
returns-in-Segment c =
    let m = c.args.self.now in
    (refl, segment_made m.sizes (world m) c.args.place.process c.args.place.page c.args.offset c.args.byte (sym c.if-not-reaches.ensures) c.in-Segment.number (see c.put_segment_byte.new.self) (c.in-Some.ensures ∙ ap see_page c.in-Segment.is) c.put_segment_byte.ensures)

pub invariant_of-self-then-not-shares : goal.invariant_of-self-then-not-shares
invariant_of-self-then-not-shares c =
    let m = c.args.self.now in
    let k = stands m (fold.store c.args.place.process c.args.place.page c.args.offset c.args.byte) (Ok (Done 0)) (see c.put_byte.new.self)
    (alone_made m.sizes (world m) c.args.place.process c.args.place.page c.args.offset c.args.byte (sym c.if-not-reaches.ensures) c.in-Own.label (vec_items c.in-Own.bytes) (see c.put_byte.new.self)
    (c.in-Some.ensures ∙ ap see_page c.in-Own.is) (sym c.if-not-shares.ensures) c.put_byte.ensures) in
    record { rows = k.0; labels = k.1; room = k.2 }

pub returns-then-not-shares : goal.returns-then-not-shares
returns-then-not-shares c =
    let m = c.args.self.now in (
      refl,
      alone_made m.sizes (world m) c.args.place.process c.args.place.page c.args.offset c.args.byte (sym c.if-not-reaches.ensures) c.in-Own.label (vec_items c.in-Own.bytes) (see c.put_byte.new.self)
          (c.in-Some.ensures ∙ ap see_page c.in-Own.is) (sym c.if-not-shares.ensures) c.put_byte.ensures,
    )

pub returns-then-branch : goal.returns-then-branch
returns-then-branch c =
    let m = c.args.self.now in (
      refl,
      store_full m.sizes (world m) c.args.place.process c.args.place.page c.args.offset c.args.byte (sym c.if-not-reaches.ensures) c.in-Own.label (vec_items c.in-Own.bytes)
          (c.in-Some.ensures ∙ ap see_page c.in-Own.is) (sym c.if-not-shares.ensures) (sym c.in_ok-is_full.ensures ∙ c.if-branch.true),
    )

pub invariant_of-self-2 : goal.invariant_of-self-2
invariant_of-self-2 c =
    let m = c.args.self.now in
    let k = stands m (fold.store c.args.place.process c.args.place.page c.args.offset c.args.byte) (Ok (Done 0)) (record { processes = (see c.put_byte-2.new.self).processes; segments = (see c.put_byte-2.new.self).segments; next = m.memory.next + 1 })
    (fresh_made m.sizes (world m) c.args.place.process c.args.place.page c.args.offset c.args.byte (sym c.if-not-reaches.ensures) c.in-Own.label (vec_items c.in-Own.bytes) (see c.put_byte-2.new.self)
    (c.in-Some.ensures ∙ ap see_page c.in-Own.is) (sym c.if-not-shares.ensures) (sym c.in_ok-is_full.ensures ∙ c.if-branch.false) c.put_byte-2.ensures) in
    record { rows = k.0; labels = k.1; room = k.2 }

pub returns : goal.returns
returns c =
    let m = c.args.self.now in (
      refl,
      fresh_made m.sizes (world m) c.args.place.process c.args.place.page c.args.offset c.args.byte (sym c.if-not-reaches.ensures) c.in-Own.label (vec_items c.in-Own.bytes) (see c.put_byte-2.new.self)
          (c.in-Some.ensures ∙ ap see_page c.in-Own.is) (sym c.if-not-shares.ensures) (sym c.in_ok-is_full.ensures ∙ c.if-branch.false) c.put_byte-2.ensures,
    )
