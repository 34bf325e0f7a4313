use Rattle.std.proofs.Common.{◌-◌, true, [], ◌∷◌, ◌++◌, map, vec_items, ap, ◌∙◌, arith}
use Rattle.std.proofs.lemmas.List.{map_push}
use Rattle.fold.specs.Fold.{others}
use Rattle.private.specs.SeePage.{see_process, blank}
use Rattle.private.proofs.Keeps.{others_more}
use Rattle.private.proofs.serve.first_processes.Goals as goal

pub loop-init : goal.loop-init
unfolding others
loop-init c = (
  ap (map see_process) c.in_ok-push.ensures.items
      ∙ ap (λ qs. map see_process (qs ++ c.in_ok-empty.field-0 ∷ [])) c.in_ok-processes.ensures.items
      ∙ ap (λ q. q ∷ []) c.in_ok-empty.ensures,
  omega arith,
)

pub loop-preserved : goal.loop-preserved
loop-preserved c =
    let k = c.args.sizes.pages in (
      ap (map see_process) c.in_ok-push-2.ensures.items
          ∙ map_push see_process (vec_items c.loop.processes) c.in_ok-empty-2.field-0
          ∙ ap (λ qs. qs ++ see_process c.in_ok-empty-2.field-0 ∷ []) c.loop.invariant.0
          ∙ ap (λ q. blank true k ∷ others k (c.loop.counter - 1) ++ q ∷ []) c.in_ok-empty-2.ensures
          ∙ ap (λ qs. blank true k ∷ qs) (others_more k (c.loop.counter - 1))
          ∙ ap (λ n. blank true k ∷ others k n) (omega arith),
      omega arith,
    )
