use Rattle.std.proofs.Common.{ap}
use Rattle.tables.specs.State.{Lent, view}
use Rattle.disk.proofs.memory.Memory.mark.Goals as goal

pub returns-clause-marked : goal.returns-clause-marked
unfolding view
returns-clause-marked c =
    let m = c.args.self.now in
    ap (λ (x : Lent). view m.limits m.pages m.processes x) c.put_mark.ensures.marked
