use Rattle.segments.proofs.release.drop_page_lent.Goals as goal

pub returns-clause-dropped : goal.returns-clause-dropped
returns-clause-dropped c processes h =
    let m = c.args.lent.now in c.drop_page.ensures processes m.used.now m.frames.now m.disk.now h
