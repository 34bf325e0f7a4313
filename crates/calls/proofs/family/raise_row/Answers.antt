use Rattle.std.proofs.Common.{◌≡◌, sym, refl, ap, ◌∙◌, add-one, arith}
use Rattle.tables.specs.Rows.{entry_of}
use Rattle.disk.specs.Memory.{state_of}
use Rattle.copies.specs.Anew.{holds_of}
use Rattle.calls.specs.Pages.{raised, raised_row}
use Rattle.calls.proofs.Raised.{raised_row_rows}
use Rattle.calls.proofs.family.raise_row.Goals as goal

pub loop-page-init : goal.loop-page-init
unfolding raised_row
loop-page-init c = record { fixed = refl; raised = refl }

pub loop-page-preserved : goal.loop-page-preserved
unfolding raised_row
loop-page-preserved c =
    let before = state_of c.args.memory.now in
    let p = c.args.process in
    let n = c.loop-page.page in
    let far = c.loop-page.invariant.raised in
    record {
      fixed = c.raise_at.ensures.fixed ∙ c.loop-page.invariant.fixed;
      raised = c.raise_at.ensures.raised ∙ (λ i. raised (far i) (holds_of (far i) p n)) ∙ (λ i. raised (raised_row before p n) (entry_of (raised_row_rows before p n i) p n).holds)
          ∙ ap (raised_row before p) (sym (add-one n));
    }

pub returns-clause-raised : goal.returns-clause-raised
returns-clause-raised c =
    c.loop-page.invariant.raised ∙ ap (raised_row (state_of c.args.memory.now) c.args.process) (let e : c.loop-page.page ≡ c.args.memory.now.pages = omega arith in e)
