use Rattle.std.proofs.Common.{Ok, vec_items, sym, refl}
use Rattle.requests.specs.Meaning.{seen_sizes}
use Rattle.fold.specs.Fold as fold
use Rattle.private.specs.Called.{world}
use Rattle.private.proofs.Calls as way
use Rattle.requests.specs.declared.answer.Answer.TheVariants.{Done}
use Rattle.private.specs.See.{see}
use Rattle.private.proofs.Made.{stands, map_made}
use Rattle.private.proofs.machine.Machine.map.Goals as goal

pub returns-then-not-is_free : goal.returns-then-not-is_free
returns-then-not-is_free c =
    let m = c.args.self.now in
    (refl, way.both (way.map_fault (seen_sizes m.sizes) (world m) c.args.place.process c.args.place.page (sym c.if-not-is_free.ensures)))

pub invariant_of-self : goal.invariant_of-self
invariant_of-self c =
    let m = c.args.self.now in
    let k = stands m (fold.map c.args.place.process c.args.place.page) (Ok (Done 0)) (see c.put_page.new.self)
    (map_made m.sizes (world m) c.args.place.process c.args.place.page (vec_items c.in_ok-bytes.bytes) (see c.put_page.new.self) (sym c.if-not-is_free.ensures) c.in_ok-bytes.ensures c.put_page.ensures) in
    record { rows = k.0; labels = k.1; room = k.2 }

pub returns : goal.returns
returns c =
    let m = c.args.self.now in
    (refl, map_made m.sizes (world m) c.args.place.process c.args.place.page (vec_items c.in_ok-bytes.bytes) (see c.put_page.new.self) (sym c.if-not-is_free.ensures) c.in_ok-bytes.ensures c.put_page.ensures)
