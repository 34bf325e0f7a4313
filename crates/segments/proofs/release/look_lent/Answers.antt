use Rattle.segments.proofs.release.look_lent.Goals as goal

pub returns-clause-looked : goal.returns-clause-looked
returns-clause-looked c processes h =
    let m = c.args.lent.now in c.look.ensures processes m.segments.now m.frame_counts.now m.used.now m.place_counts.now m.frames.now m.disk.now h
