use Rattle.std.proofs.Common.{Ok, refl, ◌∙◌}
use Rattle.requests.specs.Meaning.{seen_sizes}
use Rattle.fold.specs.Fold as fold
use Rattle.private.specs.Called.{world}
use Rattle.private.proofs.Calls as way
use Rattle.requests.specs.declared.answer.Answer.TheVariants.{Done}
use Rattle.private.specs.See.{see}
use Rattle.private.specs.SeePage.{see_process}
use Rattle.private.proofs.Pages.{clone_seen}
use Rattle.private.proofs.Made.{stands, fork_full, fork_made}
use Rattle.private.proofs.machine.Machine.fork.Goals as goal

pub returns-in_default : goal.returns-in_default
returns-in_default c =
    let m = c.args.self.now in
    (refl, way.both (way.fork_fault (seen_sizes m.sizes) (world m) c.args.process c.in_default.ensures))

pub returns-in_default-free_process : goal.returns-in_default-free_process
returns-in_default-free_process c =
    let m = c.args.self.now in
    (refl, fork_full m.sizes (world m) c.args.process c.in-Some.ensures.1 m.room c.in_default-free_process.ensures)

pub invariant_of-self : goal.invariant_of-self
invariant_of-self c =
    let m = c.args.self.now in
    let k = stands m (fold.fork c.args.process) (Ok (Done c.in-Some-free_process.child)) (see c.put_process.new.self)
    (fork_made m.sizes (world m) c.args.process c.in-Some-free_process.child (see_process c.in_ok-copy.copy) (see c.put_process.new.self) c.in-Some.ensures.1 m.room c.in-Some-free_process.ensures
    (clone_seen c.in-Some.parent.now c.in_ok-copy.copy c.in_ok-copy.ensures.cases.0 c.in_ok-copy.ensures.cases.1.0 ∙ c.in-Some.ensures.0) c.put_process.ensures) in
    record { rows = k.0; labels = k.1; room = k.2 }

pub returns : goal.returns
returns c =
    let m = c.args.self.now in (
      refl,
      fork_made m.sizes (world m) c.args.process c.in-Some-free_process.child (see_process c.in_ok-copy.copy) (see c.put_process.new.self) c.in-Some.ensures.1 m.room c.in-Some-free_process.ensures
          (clone_seen c.in-Some.parent.now c.in_ok-copy.copy c.in_ok-copy.ensures.cases.0 c.in_ok-copy.ensures.cases.1.0 ∙ c.in-Some.ensures.0) c.put_process.ensures,
    )
