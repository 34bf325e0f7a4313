use Rattle.std.proofs.Common.{◌≡◌, sym, ap, ◌∙◌, subst}
use Rattle.tables.specs.declared.entry.Entry.{Entry}
use Rattle.tables.specs.Cells.{cell, none, Within}
use Rattle.tables.specs.Rows.{rows, with_entry}
use Rattle.tables.specs.State.{view, with_rows}
use Rattle.disk.specs.Moves.{lent}
use Rattle.segments.specs.Release.{dropped, unnamed}
use Rattle.segments.proofs.release.drop_page.Goals as goal

pub returns : goal.returns
unfolding view dropped
returns c processes used frames disk h =
    let z = c.args.limits in
    let p = c.args.process in
    let v = c.args.page in
    let m = view z c.args.pages processes (lent c.args.table.now c.args.segments.now c.args.lookers.now c.args.frame_counts.now used c.args.place_counts.now frames disk) in
    let before = rows z c.args.pages processes c.args.table.now in
    let gone : rows z c.args.pages processes c.write.new.table ≡ with_entry before p v none =
    c.write.ensures z processes (subst (λ (e : Entry). Within z e.target) (sym c.absent.ensures) tt) ∙ ap (λ (e : Entry). with_entry before p v (cell z.frames e)) c.absent.ensures in
    c.unname.ensures c.args.pages processes c.write.new.table used frames disk
    ∙ (λ i. unnamed (with_rows m (gone i)) (c.read-target.ensures.value processes h i).holds)
