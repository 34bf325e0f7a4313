use Rattle.std.proofs.Common.{◌++◌}
use Rattle.frames.specs.Cut.{cut}
use Rattle.tables.specs.Rows.{cells}
use Rattle.tables.specs.State.{view}
use Rattle.segments.specs.Release.{looked}
use Rattle.segments.proofs.release.look.Goals as goal

pub returns : goal.returns
unfolding view looked
returns c processes segments counts used places frames disk h =
    let z = c.args.limits in
    let rows = c.write.ensures z processes c.requires.segment_within in
    λ i. record { rows = rows i; segments = cells z segments; lookers = c.count_up.ensures i; counts = counts ++ places; pages = cut 256 z.frames frames ++ cut 256 z.places disk; used = used }
