use Rattle.std.proofs.Common.{◌≡◌, ℕ, Vec, ◌⊎◌, inl, inr, Ok, sym, refl, ap, ◌∙◌}
use Rattle.requests.specs.Meaning.{seen_sizes}
use Rattle.fold.specs.Fold as fold
use Rattle.private.specs.Called.{world}
use Rattle.std.specs.declared.alloc.Global.{Global}
use Rattle.private.specs.declared.page.Page.{Page}
use Rattle.private.specs.declared.page.Page.TheVariants.{Absent, Own}
use Rattle.private.proofs.Calls as way
use Rattle.requests.specs.declared.answer.Answer.TheVariants.{Done}
use Rattle.private.specs.See.{see}
use Rattle.private.specs.SeePage.{see_page}
use Rattle.private.proofs.Made.{stands, look_made}
use Rattle.private.proofs.machine.Machine.look.Goals as goal

pub returns-then-not-is_free : goal.returns-then-not-is_free
returns-then-not-is_free c =
    let m = c.args.self.now in
    (refl, way.both (way.look_not_free (seen_sizes m.sizes) (world m) c.args.place.process c.args.place.page c.args.from.process c.args.from.page (sym c.if-not-is_free.ensures)))

pub returns-then-not-is_inside : goal.returns-then-not-is_inside
returns-then-not-is_inside c =
    let m = c.args.self.now in
    (refl, way.both (way.look_outside (seen_sizes m.sizes) (world m) c.args.place.process c.args.place.page c.args.from.process c.args.from.page (sym c.if-not-is_free.ensures) (sym c.if-not-is_inside.ensures)))

pub returns-in_default : goal.returns-in_default
unfolding fold.looked
returns-in_default c =
    let m = c.args.self.now in
    (refl, way.both (way.look_inside (seen_sizes m.sizes) (world m) c.args.place.process c.args.place.page c.args.from.process c.args.from.page (fold.absent) (sym c.if-not-is_free.ensures) (sym c.if-not-is_inside.ensures) (c.in_default.ensures)))

pub invariant_of-self : goal.invariant_of-self
invariant_of-self c =
    let m = c.args.self.now in
    let k = stands m (fold.look c.args.place.process c.args.place.page c.args.from.process c.args.from.page) (Ok (Done c.in-Segment.number)) (see c.put_page.new.self)
    (look_made m.sizes (world m) c.args.place.process c.args.place.page c.args.from.process c.args.from.page c.in-Segment.number (see c.put_page.new.self) (sym c.if-not-is_free.ensures) (sym c.if-not-is_inside.ensures)
    (c.in-Some.ensures ∙ ap see_page c.in-Segment.is) c.put_page.ensures) in
    record { rows = k.0; labels = k.1; room = k.2 }

pub returns-in-Segment : goal.returns-in-Segment
returns-in-Segment c =
    let m = c.args.self.now in (
      refl,
      look_made m.sizes (world m) c.args.place.process c.args.place.page c.args.from.process c.args.from.page c.in-Segment.number (see c.put_page.new.self) (sym c.if-not-is_free.ensures) (sym c.if-not-is_inside.ensures)
          (c.in-Some.ensures ∙ ap see_page c.in-Segment.is) c.put_page.ensures,
    )

not_seen : (w : fold.World) (p v : ℕ) (x : Page) → ((l : ℕ) × (b : Vec ℕ Global) × (x ≡ Own l b)) ⊎ (x ≡ Absent) → fold.looked w p v (see_page x) ≡ (w, fold.fault)
unfolding fold.looked
not_seen w p v x (inl h) = ap (λ y. fold.looked w p v (see_page y)) h.2
not_seen w p v x (inr e) = ap (λ y. fold.looked w p v (see_page y)) e

pub returns-in-Own : goal.returns-in-Own
returns-in-Own c =
    let m = c.args.self.now in (
      refl,
      way.both (way.look_inside (seen_sizes m.sizes) (world m) c.args.place.process c.args.place.page c.args.from.process c.args.from.page (see_page c.in-Some.shown.now) (sym c.if-not-is_free.ensures) (sym c.if-not-is_inside.ensures) c.in-Some.ensures
          ∙ not_seen (world m) c.args.place.process c.args.place.page c.in-Some.shown.now c.in-Own.is),
    )

pub returns-in-Own-2 : goal.returns-in-Own-2
returns-in-Own-2 c =
    let m = c.args.self.now in (
      refl,
      way.both (way.look_inside (seen_sizes m.sizes) (world m) c.args.place.process c.args.place.page c.args.from.process c.args.from.page (see_page c.in-Some.shown.now) (sym c.if-not-is_free.ensures) (sym c.if-not-is_inside.ensures) c.in-Some.ensures
          ∙ not_seen (world m) c.args.place.process c.args.place.page c.in-Some.shown.now c.in-Own.is),
    )
