use Rattle.std.proofs.Common.{Ok, sym, refl, subst}
use Rattle.fold.specs.Fold as fold
use Rattle.requests.specs.Meaning.{asked}
use Rattle.private.specs.Called.{Served, world}
use Rattle.private.proofs.machine.Machine.call.Goals as goal

pub returns-in-Load : goal.returns-in-Load
unfolding fold.call
returns-in-Load c =
    let m = c.args.self.now in
    (refl, subst (λ k. Served m.sizes (asked k) (world m) (Ok c.load.result) (world m)) (sym c.in-Load.is) (refl, c.load.ensures))
