use Rattle.std.proofs.Common.{◌+◌, [], ◌++◌, refl, ◌∙◌}
use Rattle.frames.specs.Cut.{cut}
use Rattle.frames.proofs.Cut.{cut_length}
use Rattle.tables.specs.State.{view}
use Rattle.disk.specs.Moves.{lent}
use Rattle.disk.proofs.Relocate.{swapped_lists, relocated_view}
use Rattle.disk.proofs.moves.swap_pages.Goals as goal

pub returns : goal.returns
unfolding view
returns c pages processes lookers used =
    let z = c.args.limits in
    let fs = cut 256 z.frames c.args.frames.now in
    let ds = cut 256 z.places c.args.disk.now in
    let before = lent c.args.table.now c.args.segments.now lookers c.args.frame_counts.now used c.args.place_counts.now c.args.frames.now c.args.disk.now in
    let after = lent c.relocate.new.table c.relocate.new.segments lookers c.relocate.new.frame_counts used c.relocate.new.place_counts c.exchange.new.left c.exchange.new.right in
    relocated_view z before after c.args.frame (z.frames + c.args.place) pages processes _
    (record {
      table = c.relocate.ensures.table;
      segments = c.relocate.ensures.segments;
      lookers = refl;
      used = refl;
      counts = c.relocate.ensures.counts;
      pages = (λ i. c.exchange.ensures.left z.frames z.places c.requires.place_within i ++ c.exchange.ensures.right z.places z.frames c.requires.frame_within i) ∙ swapped_lists fs ds z.frames c.args.frame c.args.place [] (cut_length 256 z.frames c.args.frames.now) c.requires.frame_within;
    })
