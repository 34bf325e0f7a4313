use Rattle.std.proofs.Common.{◌+◌, ◌++◌, ap, ◌∙◌}
use Rattle.disk.specs.Moves.{swap_at}
use Rattle.disk.proofs.moves.relocate.Goals as goal

pub returns : goal.returns
returns c =
    let counts = c.args.frame_counts.now ++ c.args.place_counts.now in
    record {
      table = c.rename.ensures;
      segments = c.rename-2.ensures;
      counts = c.swap_counts.ensures ∙ ap (λ n. swap_at c.args.frame (n + c.args.place) 0 counts) c.requires.frame_counts;
    }
