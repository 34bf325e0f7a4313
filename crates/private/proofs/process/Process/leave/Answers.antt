use Rattle.std.proofs.Common.{List, false, map, vec_len, ap, ◌∙◌}
use Rattle.fold.specs.Fold as fold
use Rattle.private.specs.SeePage.{see_page}
use Rattle.private.proofs.Pages.{clone_absent, absent_pages}
use Rattle.private.proofs.process.Process.leave.Goals as goal

pub returns : goal.returns
returns c =
    ap (λ (ps : List fold.Page). record { alive = false; pages = ps })
    (ap (map see_page) (c.fill.ensures.items clone_absent) ∙ absent_pages (vec_len c.args.self.now.pages))
