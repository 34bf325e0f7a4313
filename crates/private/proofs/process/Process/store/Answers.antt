use Rattle.std.proofs.Common.{sym, refl, ap, ◌∙◌}
use Rattle.private.specs.SeePage.{see_process, put_in, rewritten}
use Rattle.private.proofs.Pages.{put_here, page_is}
use Rattle.private.proofs.process.Process.store.Goals as goal

pub returns-in-Some : goal.returns-in-Some
returns-in-Some c =
    let q = c.args.self.now in
    let was = page_is q c.args.page c.in-Some.page.now (c.in-Some.ensures.variant.0 refl) c.in-Some.ensures.value in
    put_here q c.args.page c.store.new.self
    ∙ ap (put_in (see_process q) c.args.page) (c.store.ensures ∙ ap (rewritten c.args.label c.args.offset c.args.byte) (sym was))
