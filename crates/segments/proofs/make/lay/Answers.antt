use Rattle.std.proofs.Common.{◌++◌, replicate, ap, ◌∙◌}
use Rattle.frames.specs.Cut.{cut}
use Rattle.frames.proofs.Cut.{cut_length}
use Rattle.tables.specs.Lent.{lists}
use Rattle.tables.specs.State.{view, with_counts, with_pages}
use Rattle.tables.proofs.Locations.{put_frame}
use Rattle.copies.proofs.Parts.{up_frame}
use Rattle.segments.specs.Release.{with_segments}
use Rattle.segments.proofs.make.lay.Goals as goal

pub returns-clause-laid : goal.returns-clause-laid
unfolding view
returns-clause-laid c pages processes =
    let z = c.args.limits in
    let f = c.args.frame in
    let n = c.args.lent.now in
    let fs = cut 256 z.frames n.frames.now in
    let ds = cut 256 z.places n.disk.now in
    let m = view z pages processes (lists n) in
    let segs = c.put_segment.ensures z c.requires.frame_within in
    let counts = ap (λ xs. xs ++ n.place_counts.now) c.count_up.ensures ∙ up_frame n.frame_counts.now n.place_counts.now z.frames c.requires.located.frame_counts f c.requires.frame_within in
    let bytes = ap (λ ps. ps ++ ds) (c.clear.ensures z.frames) ∙ put_frame fs ds z.frames (cut_length 256 z.frames n.frames.now) f (replicate 256 0) c.requires.frame_within in
    λ i. with_segments (with_counts (with_pages m (bytes i)) (counts i)) (segs i)
