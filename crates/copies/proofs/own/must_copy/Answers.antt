use Rattle.std.proofs.Common.{ltb, ◌++◌, sym, ap, ◌∙◌, subst}
use Rattle.tables.specs.declared.entry.Target.{Target}
use Rattle.tables.specs.Cells.{held_of, Within}
use Rattle.tables.specs.State.{view}
use Rattle.tables.proofs.Locations.{at_frame, at_place}
use Rattle.copies.specs.Own.{must_copy}
use Rattle.copies.proofs.own.must_copy.Goals as goal

pub returns-in-Frame : goal.returns-in-Frame
unfolding view
returns-in-Frame c =
    let m = c.args.memory.now in
    let z = m.limits in
    let fs = m.lent.frame_counts.now in
    let ps = m.lent.place_counts.now in
    ap (ltb 1) (sym (at_frame fs ps z.frames m.frame_counts_length c.in-Frame.frame 0 (subst (Within z) c.in-Frame.is c.requires)))
    ∙ ap (λ (t : Target). must_copy (fs ++ ps) (held_of z.frames t)) (sym c.in-Frame.is)

pub returns-in-Place : goal.returns-in-Place
unfolding view
returns-in-Place c =
    let m = c.args.memory.now in
    let z = m.limits in
    let fs = m.lent.frame_counts.now in
    let ps = m.lent.place_counts.now in
    ap (ltb 1) (sym (at_place fs ps z.frames m.frame_counts_length c.in-Place.place 0))
    ∙ ap (λ (t : Target). must_copy (fs ++ ps) (held_of z.frames t)) (sym c.in-Place.is)
