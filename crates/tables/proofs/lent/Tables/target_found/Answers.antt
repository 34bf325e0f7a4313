use Rattle.std.proofs.Common.{◌+◌, leb, sym, ap, ◌∙◌, subst}
use Rattle.tables.specs.declared.entry.Target.{Target}
use Rattle.tables.specs.Cells.{held_of, Within}
use Rattle.tables.specs.State.{lies, walked}
use Rattle.tables.specs.Lent.{counts_of, segments_of}
use Rattle.tables.proofs.Locations.{at_frame, at_place}
use Rattle.tables.proofs.lent.Tables.target_found.Goals as goal

pub returns-in-Frame-clause-value : goal.returns-in-Frame-clause-value
returns-in-Frame-clause-value c =
    let t = c.args.self.now in
    let z = t.limits in
    let h = subst (Within z) c.in-Frame.is c.requires in
    ap (λ n. record { spot = lies c.in-Frame.frame; free = leb n 1 }) (sym (at_frame t.frame_counts.now t.place_counts.now z.frames t.frame_counts_length c.in-Frame.frame 0 h))
    ∙ ap (λ (k : Target). walked (segments_of t) (counts_of t) (held_of z.frames k)) (sym c.in-Frame.is)

pub returns-in-Place-clause-value : goal.returns-in-Place-clause-value
returns-in-Place-clause-value c =
    let t = c.args.self.now in
    let z = t.limits in
    ap (λ n. record { spot = lies (z.frames + c.in-Place.place); free = leb n 1 }) (sym (at_place t.frame_counts.now t.place_counts.now z.frames t.frame_counts_length c.in-Place.place 0))
    ∙ ap (λ (k : Target). walked (segments_of t) (counts_of t) (held_of z.frames k)) (sym c.in-Place.is)
