use Rattle.std.proofs.Common.{List, map, ap, ◌∙◌}
use Rattle.fold.specs.Fold as fold
use Rattle.private.specs.SeePage.{see_page}
use Rattle.private.proofs.Pages.{clone_absent, absent_pages}
use Rattle.private.proofs.process.Process.empty.Goals as goal

pub returns : goal.returns
returns c =
    ap (λ (ps : List fold.Page). record { alive = c.args.alive; pages = ps })
    (ap (map see_page) (c.in_ok-pages.ensures.items_if_clones_equal clone_absent) ∙ absent_pages c.args.count)
