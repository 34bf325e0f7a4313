use Rattle.std.proofs.Common.{◌≡◌, ℕ, List, IfOk, string_bytes, subst}
use Rattle.play.proofs.Lines.{same_text}
use Rattle.play.proofs.played.Goals as goal

pub returns : goal.returns
returns c = subst (λ (text : List ℕ). IfOk c.played.result (λ s. string_bytes s ≡ text)) (same_text c.args.input.now) c.played.ensures
