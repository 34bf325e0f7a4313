use Rattle.std.proofs.Common.{Ok, vec_items, sym, refl, ◌∙◌}
use Rattle.requests.specs.Meaning.{seen_sizes}
use Rattle.fold.specs.Fold as fold
use Rattle.private.specs.Called.{world}
use Rattle.private.proofs.Calls as way
use Rattle.requests.specs.declared.answer.Answer.TheVariants.{Done}
use Rattle.private.specs.See.{see}
use Rattle.private.proofs.Made.{stands, make_none, make_full, make_made}
use Rattle.private.proofs.machine.Machine.make.Goals as goal

pub returns-then-not-is_free : goal.returns-then-not-is_free
returns-then-not-is_free c =
    let m = c.args.self.now in
    (refl, way.both (way.make_fault (seen_sizes m.sizes) (world m) c.args.place.process c.args.place.page (sym c.if-not-is_free.ensures)))

pub returns-in_default : goal.returns-in_default
returns-in_default c =
    let m = c.args.self.now in
    (refl, make_none m.sizes (world m) c.args.place.process c.args.place.page (sym c.if-not-is_free.ensures) m.room c.in_default.ensures)

pub returns-then-branch : goal.returns-then-branch
returns-then-branch c =
    let m = c.args.self.now in
    (refl, make_full m.sizes (world m) c.args.place.process c.args.place.page c.in-Some.segment (sym c.if-not-is_free.ensures) m.room c.in-Some.ensures (sym c.in_ok-is_full.ensures ∙ c.if-branch.true))

pub invariant_of-self : goal.invariant_of-self
invariant_of-self c =
    let m = c.args.self.now in
    let k = stands m (fold.make c.args.place.process c.args.place.page) (Ok (Done c.in-Some.segment)) (see c.put_page.new.self)
    (make_made m.sizes (world m) c.args.place.process c.args.place.page c.in-Some.segment (vec_items c.in_ok-bytes.bytes) (see c.put_segment.new.self) (see c.put_page.new.self)
    (sym c.if-not-is_free.ensures) m.room c.in-Some.ensures (sym c.in_ok-is_full.ensures ∙ c.if-branch.false) c.in_ok-bytes.ensures c.put_segment.ensures c.put_page.ensures) in
    record { rows = k.0; labels = k.1; room = k.2 }

pub returns : goal.returns
returns c =
    let m = c.args.self.now in (
      refl,
      make_made m.sizes (world m) c.args.place.process c.args.place.page c.in-Some.segment (vec_items c.in_ok-bytes.bytes) (see c.put_segment.new.self) (see c.put_page.new.self)
          (sym c.if-not-is_free.ensures) m.room c.in-Some.ensures (sym c.in_ok-is_full.ensures ∙ c.if-branch.false) c.in_ok-bytes.ensures c.put_segment.ensures c.put_page.ensures,
    )
