use Rattle.std.proofs.Common.{◌++◌, sym, ap, ◌∙◌, subst}
use Rattle.tables.specs.declared.entry.Target.{Target}
use Rattle.tables.specs.Cells.{held_of, Within}
use Rattle.tables.specs.State.{view, with_counts}
use Rattle.disk.specs.Moves.{lent}
use Rattle.copies.proofs.Parts.{down_frame, down_place}
use Rattle.segments.specs.Release.{lowered}
use Rattle.segments.proofs.release.lower.Goals as goal

pub returns-in-Frame : goal.returns-in-Frame
unfolding view
returns-in-Frame c pages processes table segments lookers used frames disk =
    let z = c.args.limits in
    let fs = c.args.frame_counts.now in
    let ps = c.args.place_counts.now in
    let m = view z pages processes (lent table segments lookers fs used ps frames disk) in
    ap (λ cs. with_counts m (cs ++ ps)) c.count_down.ensures
    ∙ ap (with_counts m) (down_frame fs ps z.frames c.requires.frame_counts c.in-Frame.frame (subst (Within z) c.in-Frame.is c.requires.target_within))
    ∙ ap (λ (t : Target). lowered m (held_of z.frames t)) (sym c.in-Frame.is)

pub returns-in-Place : goal.returns-in-Place
unfolding view
returns-in-Place c pages processes table segments lookers used frames disk =
    let z = c.args.limits in
    let fs = c.args.frame_counts.now in
    let ps = c.args.place_counts.now in
    let m = view z pages processes (lent table segments lookers fs used ps frames disk) in
    ap (λ cs. with_counts m (fs ++ cs)) c.count_down-in-Place.ensures ∙ ap (with_counts m) (down_place fs ps z.frames c.requires.frame_counts c.in-Place.place)
    ∙ ap (λ (t : Target). lowered m (held_of z.frames t)) (sym c.in-Place.is)
