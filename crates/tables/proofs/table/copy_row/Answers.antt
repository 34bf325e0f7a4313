use Rattle.std.proofs.Common.{◌≡◌, sym, refl, ap, ◌∙◌, add-one, arith}
use Rattle.tables.specs.Rows.{rows, shared_row, shared_entry}
use Rattle.tables.proofs.table.copy_row.Goals as goal

pub loop-page-init : goal.loop-page-init
unfolding shared_row
loop-page-init c n h = refl

pub loop-page-preserved : goal.loop-page-preserved
unfolding shared_row
loop-page-preserved c n h =
    let before = rows c.args.limits c.args.pages n c.args.table.now in
    c.share.ensures n h ∙ ap (λ rs. shared_entry rs c.args.parent c.args.child c.loop-page.page) (c.loop-page.invariant n h)
    ∙ ap (shared_row before c.args.parent c.args.child) (sym (add-one c.loop-page.page))

pub returns : goal.returns
returns c n h =
    let before = rows c.args.limits c.args.pages n c.args.table.now in
    c.loop-page.invariant n h ∙ ap (shared_row before c.args.parent c.args.child) (let e : c.loop-page.page ≡ c.args.pages = omega arith in e)
