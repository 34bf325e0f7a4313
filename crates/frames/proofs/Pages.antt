-- Pages of 256 bytes as rows of the lent bytes: what a write to the part that a page is makes of the list of pages.
use Rattle.std.proofs.Common.{◌≡◌, ℕ, ◌+◌, ◌-◌, ◌*◌, ◌<◌, ◌≤◌, List, length, take, drop, set, sym, ap, ap₂, ◌∙◌, inl, inr, arith}
use borrow.Rule.Slice.PartMut.{put_mid}
use Rattle.std.proofs.lemmas.List.{length-take, length-drop, length-set, set_past}
use Rattle.std.proofs.lemmas.Bool.{cases_lt}
use Rattle.frames.specs.Cut.{pages, row, stored}
use Rattle.frames.proofs.Cut.{cut_length, cut_row, cut_put}

-- the bytes from s to e
abbrev pub part : ℕ → ℕ → List ℕ → List ℕ
part s e xs = take (e - s) (drop s xs)

-- where page d lies, as `span` tells
module _ (d s e : ℕ) (start : s ≡ d * 256) (end : e ≡ d * 256 + 256) where
  width : e - s ≡ 256
  width = omega arith

  pub part_length : (xs : List ℕ) → d * 256 + 256 ≤ length xs → length (part s e xs) ≡ 256
  part_length xs h = simp (length-take, length-drop) (omega arith)

  pub page_part : (n : ℕ) (xs : List ℕ) → d < n → row (pages n xs) d ≡ part s e xs
  page_part n xs h = cut_row 256 n xs d h ∙ ap₂ (λ k f. take k (drop f xs)) (sym width) (sym start)

  -- a page written as a whole
  pub page_put : (n : ℕ) (xs ys : List ℕ) → length ys ≡ 256 → d * 256 + 256 ≤ length xs → pages n (put_mid s (e - s) xs ys) ≡ set (pages n xs) d ys
  page_put n xs ys l h = ap₂ (λ f k. pages n (put_mid f k xs ys)) start width ∙ cut_put 256 n xs ys d l h

  -- one byte of a page written
  pub page_stored : (n o b : ℕ) (xs : List ℕ) → d * 256 + 256 ≤ length xs → pages n (put_mid s (e - s) xs (set (part s e xs) o b)) ≡ stored (pages n xs) d o b
  page_stored n o b xs h =
      page_put n xs (set (part s e xs) o b) (length-set (part s e xs) o b ∙ part_length xs h) h
      ∙ elim (cases_lt d n) [
        | inl k ↦ ap (λ ys. set (pages n xs) d (set ys o b)) (sym (page_part n xs k))
        | inr k ↦
            let past : length (pages n xs) ≤ d = omega (arith, cut_length 256 n xs) in
            set_past (pages n xs) d (set (part s e xs) o b) past ∙ sym (set_past (pages n xs) d (set (row (pages n xs) d) o b) past)
      ]

-- a page that has become the page f of some memory zs
pub page_copied : (d s e f a b : ℕ) → s ≡ d * 256 → e ≡ d * 256 + 256 → a ≡ f * 256 → b ≡ f * 256 + 256 → (n m : ℕ) (xs zs ys : List ℕ) → f < m → f * 256 + 256 ≤ length zs → d * 256 + 256 ≤ length xs → ys ≡ part a b zs → pages n (put_mid s (e - s) xs ys) ≡ set (pages n xs) d (row (pages m zs) f)
page_copied d s e f a b start end from to n m xs zs ys k g h y =
    page_put d s e start end n xs ys (ap length y ∙ part_length f a b from to zs g) h ∙ ap (set (pages n xs) d) (y ∙ sym (page_part f a b from to m zs k))
