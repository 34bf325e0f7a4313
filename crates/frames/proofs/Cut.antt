-- Laws of a flat list as rows, for any length of a row.
use Rattle.std.proofs.Common.{◌≡◌, ℕ, zero, suc, ◌+◌, ◌*◌, ◌<◌, ◌≤◌, List, ◌∷◌, ◌++◌, map, length, get_or, take, drop, set, sym, refl, ap, ◌∙◌, suc-mul, zero-mul, arith}
use borrow.Rule.Slice.PartMut.{put_mid}
use Rattle.std.proofs.Math.Seq.{take-set-lt}
use Rattle.std.proofs.lemmas.List.{take-map, drop-map, length-take, length-drop, take_at, drop_at, drop-drop, drop-take, drop-append-le, take-set-le, drop-set-lt, drop-set-add, get_or-take, get_or-drop}
use Rattle.std.proofs.lemmas.Slice.{take-put_mid_below}
use Rattle.frames.specs.Cut.{cut, row}

pub cut_length : {X : Type 0} (w n : ℕ) (xs : List X) → length (cut w n xs) ≡ n
unfolding cut
cut_length w zero xs = refl
cut_length w (suc n) xs = ap suc (cut_length w n (drop w xs))

-- row d, as a part of the flat list
pub cut_row : {X : Type 0} (w n : ℕ) (xs : List X) (d : ℕ) → d < n → row (cut w n xs) d ≡ take w (drop (d * w) xs)
unfolding cut
cut_row w zero xs d h = absurd (omega arith)
cut_row w (suc n) xs zero h = ap (λ k. take w (drop k xs)) (sym (zero-mul w))
cut_row w (suc n) xs (suc d) h =
    cut_row w n (drop w xs) d (omega arith) ∙ ap (take w) (drop-drop (d * w) w xs) ∙ ap (λ k. take w (drop k xs)) (let e : w + d * w ≡ suc d * w = omega (arith, suc-mul d w) in e)

-- an element, by row and column
pub cut_element : {X : Type 0} (w n : ℕ) (xs : List X) (d o : ℕ) (x : X) → d < n → o < w → get_or (row (cut w n xs) d) o x ≡ get_or xs (d * w + o) x
cut_element w n xs d o x h k = ap (λ ys. get_or ys o x) (cut_row w n xs d h) ∙ get_or-take w _ o x k ∙ get_or-drop (d * w) xs o x

cons : {X : Type 0} {x y : X} {xs ys : List X} → x ≡ y → xs ≡ ys → x ∷ xs ≡ y ∷ ys
cons e f = λ i. e i ∷ f i

-- a part that is written past the first row is a part of what follows that row
drop_put : {X : Type 0} (w a : ℕ) (xs ys : List X) → w + a ≤ length xs → drop w (put_mid (w + a) w xs ys) ≡ put_mid a w (drop w xs) ys
drop_put w a xs ys h =
    let fits : w ≤ length (take (w + a) xs) = simp length-take (omega arith) in
    drop-append-le w (take (w + a) xs) (ys ++ drop w (drop (w + a) xs)) fits ∙ ap (λ zs. zs ++ (ys ++ drop w (drop (w + a) xs))) (drop-take w a xs)
    ∙ ap (λ zs. take a (drop w xs) ++ (ys ++ drop w zs)) (sym (drop-drop a w xs))

-- a whole row written
pub cut_put : {X : Type 0} (w n : ℕ) (xs ys : List X) (d : ℕ) → length ys ≡ w → d * w + w ≤ length xs → cut w n (put_mid (d * w) w xs ys) ≡ set (cut w n xs) d ys
unfolding cut
cut_put w zero xs ys d e h = refl
cut_put w (suc n) xs ys zero e h =
    let p : put_mid (0 * w) w xs ys ≡ ys ++ drop w xs = ap (λ k. put_mid k w xs ys) (zero-mul w) in
    cons (ap (take w) p ∙ take_at ys (drop w xs) w e) (ap (cut w n) (ap (drop w) p ∙ drop_at ys (drop w xs) w e))
cut_put w (suc n) xs ys (suc d) e h =
    let k : suc d * w ≡ w + d * w = omega (arith, suc-mul d w) in
    let fits : d * w + w ≤ length (drop w xs) = simp length-drop (omega arith) in
    cons (take-put_mid_below (suc d * w) w xs ys w (omega arith) (omega arith))
    (ap (λ a. cut w n (drop w (put_mid a w xs ys))) k ∙ ap (cut w n) (drop_put w (d * w) xs ys (omega arith)) ∙ cut_put w n (drop w xs) ys d e fits)

-- one element written
pub cut_set : {X : Type 0} (w n : ℕ) (xs : List X) (d o : ℕ) (x : X) → o < w → cut w n (set xs (d * w + o) x) ≡ set (cut w n xs) d (set (row (cut w n xs) d) o x)
unfolding cut
cut_set w zero xs d o x h = refl
cut_set w (suc n) xs zero o x h =
    let k : 0 * w + o ≡ o = omega (arith, zero-mul w) in
    cons (ap (λ i. take w (set xs i x)) k ∙ take-set-lt w xs o x h) (ap (λ i. cut w n (drop w (set xs i x))) k ∙ ap (cut w n) (drop-set-lt w xs o x h))
cut_set w (suc n) xs (suc d) o x h =
    let k : suc d * w + o ≡ w + (d * w + o) = omega (arith, suc-mul d w) in
    cons (take-set-le w xs (suc d * w + o) x (omega arith))
    (ap (λ i. cut w n (drop w (set xs i x))) k ∙ ap (cut w n) (drop-set-add w xs (d * w + o) x) ∙ cut_set w n (drop w xs) d o x h)

-- a function of every element, row by row
pub cut_map : {X Y : Type 0} (f : X → Y) (w n : ℕ) (xs : List X) → cut w n (map f xs) ≡ map (map f) (cut w n xs)
unfolding cut
cut_map f w zero xs = refl
cut_map f w (suc n) xs = cons (take-map f w xs) (ap (cut w n) (drop-map f w xs) ∙ cut_map f w n (drop w xs))
