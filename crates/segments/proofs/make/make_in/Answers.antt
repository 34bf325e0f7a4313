use Rattle.std.proofs.Common.{ap, ◌∙◌}
use Rattle.tables.specs.State.{State, view}
use Rattle.segments.specs.Make.{made_in}
use Rattle.segments.specs.Release.{looked}
use Rattle.segments.proofs.make.make_in.Goals as goal

pub returns-clause-made : goal.returns-clause-made
unfolding made_in
returns-clause-made c =
    let m = c.args.memory.now in
    c.look_lent.ensures.looked m.processes c.requires.process_within ∙ ap (λ (s : State). looked s c.args.process c.args.page c.args.segment) (c.lay.ensures.laid m.pages m.processes)
