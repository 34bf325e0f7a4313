use Rattle.std.proofs.Common.{refl}
use Rattle.fold.specs.Fold as fold
use Rattle.private.specs.See.{see}
use Rattle.private.specs.SeePage.{rewritten_in}
use Rattle.private.proofs.Worlds.{edited, put_process_past, past_end}
use Rattle.private.proofs.memory.Memory.put_byte.Goals as goal

pub returns-in-Some : goal.returns-in-Some
returns-in-Some c =
    edited c.args.self.now c.args.place.process c.in-Some.process.now c.store.new.self
    (λ (r : fold.Process). rewritten_in r c.args.place.page c.args.label c.args.offset c.args.byte)
    (c.in-Some.ensures.variant.0 refl) c.in-Some.ensures.value c.store.ensures

pub returns-in_default : goal.returns-in_default
returns-in_default c =
    put_process_past c.args.self.now c.args.place.process
    (rewritten_in (fold.process (see c.args.self.now) c.args.place.process) c.args.place.page c.args.label c.args.offset c.args.byte)
    (past_end _ _ c.in_default.ensures.variant.1)
