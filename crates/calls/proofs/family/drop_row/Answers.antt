use Rattle.std.proofs.Common.{◌≡◌, sym, refl, ap, ◌∙◌, add-one, arith}
use Rattle.tables.specs.State.{State}
use Rattle.disk.specs.Memory.{state_of}
use Rattle.segments.specs.Release.{dropped}
use Rattle.calls.specs.Pages.{dropped_row}
use Rattle.calls.proofs.family.drop_row.Goals as goal

pub loop-page-init : goal.loop-page-init
unfolding dropped_row
loop-page-init c = record { fixed = refl; dropped = refl }

pub loop-page-preserved : goal.loop-page-preserved
unfolding dropped_row
loop-page-preserved c =
    let before = state_of c.args.memory.now in
    record {
      fixed = c.drop_at.ensures.fixed ∙ c.loop-page.invariant.fixed;
      dropped = c.drop_at.ensures.dropped ∙ ap (λ (s : State). dropped s c.args.process c.loop-page.page) c.loop-page.invariant.dropped
          ∙ ap (dropped_row before c.args.process) (sym (add-one c.loop-page.page));
    }

pub returns-clause-dropped : goal.returns-clause-dropped
returns-clause-dropped c =
    c.loop-page.invariant.dropped ∙ ap (dropped_row (state_of c.args.memory.now) c.args.process) (let e : c.loop-page.page ≡ c.args.memory.now.pages = omega arith in e)
