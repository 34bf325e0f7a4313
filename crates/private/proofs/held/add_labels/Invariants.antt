use Rattle.std.proofs.Common.{◌≡◌, ◌++◌, map, drop, vec_items}
use Rattle.private.specs.Labelled.{page_labels}
use Rattle.private.specs.SeePage.{see_page}
use Rattle.private.proofs.held.add_labels.Given as goal

abbrev pub invariant-loop-page : goal.invariant-loop-page
invariant-loop-page l =
    vec_items l.labels ++ page_labels (map see_page (drop l.page-index l.pages))
    ≡ vec_items l.initial.labels ++ page_labels (map see_page l.pages)
