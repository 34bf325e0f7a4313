use Rattle.std.proofs.Common.{◌||◌, sym, ap, ◌∙◌}
use Rattle.std.proofs.lemmas.Bool.{ne_eqb}
use Rattle.fold.specs.Fold as fold
use Rattle.private.specs.See.{see}
use Rattle.private.proofs.memory.Memory.shares.Goals as goal

pub returns-else-label-eq0 : goal.returns-else-label-eq0
unfolding fold.users
returns-else-label-eq0 c =
    c.has.ensures
    ∙ sym (ap (λ b. b || fold.more_than_one (fold.users (see c.args.self.now) c.args.label)) (ne_eqb c.args.label 0 c.if-label-eq0.false))
