use Rattle.disk.proofs.moves.move_out_lent.Goals as goal

pub returns-clause-moved : goal.returns-clause-moved
returns-clause-moved c pages processes =
    let m = c.args.lent.now in c.move_out.ensures pages processes m.lookers.now m.used.now
