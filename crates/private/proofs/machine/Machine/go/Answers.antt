use Rattle.std.proofs.Common.{Ok, sym, refl}
use Rattle.requests.specs.Meaning.{seen_sizes}
use Rattle.fold.specs.Fold as fold
use Rattle.private.specs.Called.{world}
use Rattle.private.proofs.Calls as way
use Rattle.requests.specs.declared.answer.Answer.TheVariants.{Done}
use Rattle.private.specs.See.{see}
use Rattle.private.proofs.Made.{stands, leave_made}
use Rattle.private.proofs.machine.Machine.go.Goals as goal

pub returns-then-not-is_alive : goal.returns-then-not-is_alive
returns-then-not-is_alive c =
    let m = c.args.self.now in
    (refl, way.both (way.leave_fault (seen_sizes m.sizes) (world m) c.args.process (sym c.if-not-is_alive.ensures)))

pub invariant_of-self : goal.invariant_of-self
invariant_of-self c =
    let m = c.args.self.now in
    let k = stands m (fold.leave c.args.process) (Ok (Done 0)) (see c.leave.new.self)
    (leave_made m.sizes (world m) c.args.process (see c.leave.new.self) (sym c.if-not-is_alive.ensures) m.rows c.leave.ensures) in
    record { rows = k.0; labels = k.1; room = k.2 }

pub returns : goal.returns
returns c =
    let m = c.args.self.now in
    (refl, leave_made m.sizes (world m) c.args.process (see c.leave.new.self) (sym c.if-not-is_alive.ensures) m.rows c.leave.ensures)
