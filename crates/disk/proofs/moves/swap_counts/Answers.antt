use Rattle.std.proofs.Common.{◌++◌, length, set, refl, ◌∙◌}
use Rattle.disk.proofs.Relocate.{swapped_lists}
use Rattle.disk.proofs.moves.swap_counts.Goals as goal

pub returns : goal.returns
returns c =
    let fs = c.args.frame_counts.now in
    let ds = c.args.place_counts.now in
    (λ i. set fs c.args.frame (c.swap.ensures.x_after i) ++ set ds c.args.place (c.swap.ensures.y_after i))
    ∙ swapped_lists fs ds (length fs) c.args.frame c.args.place 0 refl c.requires.frame_within
