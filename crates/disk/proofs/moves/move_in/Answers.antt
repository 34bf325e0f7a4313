use Rattle.std.proofs.Common.{◌+◌, [], ◌++◌, refl, ap, ◌∙◌}
use Rattle.frames.specs.Cut.{cut}
use Rattle.frames.proofs.Cut.{cut_length}
use Rattle.tables.specs.State.{view}
use Rattle.disk.specs.Moves.{lent}
use Rattle.disk.proofs.Relocate.{copied_in, relocated_view}
use Rattle.disk.proofs.moves.move_in.Goals as goal

pub returns : goal.returns
unfolding view
returns c pages processes lookers used =
    let z = c.args.limits in
    let fs = cut 256 z.frames c.args.frames.now in
    let ds = cut 256 z.places c.args.disk.now in
    let before = lent c.args.table.now c.args.segments.now lookers c.args.frame_counts.now used c.args.place_counts.now c.args.frames.now c.args.disk.now in
    let after = lent c.relocate.new.table c.relocate.new.segments lookers c.relocate.new.frame_counts used c.relocate.new.place_counts c.copy_across.new.target c.args.disk.now in
    relocated_view z before after c.args.frame (z.frames + c.args.place) pages processes _
    (record {
      table = c.relocate.ensures.table;
      segments = c.relocate.ensures.segments;
      lookers = refl;
      used = refl;
      counts = c.relocate.ensures.counts;
      pages = ap (λ xs. xs ++ ds) (c.copy_across.ensures z.frames z.places c.requires.place_within) ∙ copied_in fs ds z.frames c.args.frame c.args.place [] (cut_length 256 z.frames c.args.frames.now) c.requires.frame_within;
    })
