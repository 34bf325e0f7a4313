-- One call of a row, and the line that it writes.
use Rattle.std.proofs.Common.{◌≡◌, ℕ, suc, ◌+◌, List, ◌++◌, Some, None, sym, refl, ap, ◌∙◌}
use Rattle.fold.specs.Fold as fold
use Rattle.requests.specs.Meaning.{Asked, asked, answered}
use Rattle.requests.specs.Row.{call_at}
use Rattle.requests.specs.Text.{answer_text}
use Rattle.requests.specs.declared.answer.Answer.{Answer}
use Rattle.requests.specs.declared.answer.Answer.TheVariants.{Done, Fault, Full}
use Rattle.requests.specs.declared.request.Call.{Call}
use Rattle.rows.specs.Played.{lines_from, told, line, fold_text}

pub text_is : (a : Answer) → answer_text a ≡ fold_text (answered a)
text_is (Done n) = refl
text_is Fault = refl
text_is Full = refl

module _ {M : Type 0} (serve : M → Asked → M × fold.Answer) (row : List ℕ) (m : M) (n i : ℕ) where
  pub one_line : (k : M) (c : Call) (b : fold.Answer) → call_at row i ≡ Some c → ◌≡◌ {A = M × fold.Answer} (k, b) (serve m (asked c)) → lines_from serve row m (suc n) i ≡ line i b ++ lines_from serve row k n (i + 1)
  unfolding lines_from
  one_line k c b e s =
      ap (λ o. told serve m i o (λ u. lines_from serve row u n (i + 1))) e ∙ (λ j. line i (sym s j).1 ++ lines_from serve row (sym s j).0 n (i + 1))

  pub no_line : call_at row i ≡ None → lines_from serve row m (suc n) i ≡ lines_from serve row m n (i + 1)
  unfolding lines_from
  no_line e = ap (λ o. told serve m i o (λ u. lines_from serve row u n (i + 1))) e
