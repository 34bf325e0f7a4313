use Rattle.std.proofs.Common.{◌≡◌, false, rules, tests}
use Rattle.fold.specs.Fold.{there}
use Rattle.private.specs.SeePage.{see_page}
use Rattle.private.specs.See.{see, page_at}
use Rattle.private.proofs.Worlds.{there_or_not, match_weaker}
use Rattle.private.proofs.memory.Memory.has_page.Goals as goal

pub returns : goal.returns
returns c =
    there_or_not (page_at (see c.args.self.now) c.args.place.process c.args.place.page) _ _ c.page.ensures
    (match_weaker c.page.result (c.is_some_and.result ≡ false) _ (λ x. c.is_some_and.result ≡ there (see_page x.now)) (λ x h. search (rules, tests)) c.is_some_and.ensures)
