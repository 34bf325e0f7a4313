-- A lent table as rows of entries, after one of its numbers or a whole row was written.
use Rattle.std.proofs.Common.{◌≡◌, ℕ, zero, suc, ◌+◌, ◌-◌, ◌*◌, ◌<◌, ◌≤◌, ◌⊎◌, List, [], ◌∷◌, ◌++◌, map, length, get_or, take, drop, set, replicate, sym, refl, ap, ◌∙◌, inl, inr, ⊎_elim, le_refl, suc-mul, arith}
use borrow.Rule.Slice.PartMut.{put_mid}
use Rattle.std.proofs.lemmas.List.{map-set, map-append, take-map, drop-map, length-map, length-replicate, get_or-map, length-take, length-drop, get_or_past}
use Rattle.std.proofs.lemmas.Nat.{mul-le}
use Rattle.std.proofs.lemmas.Bool.{cases_lt}
use Rattle.frames.specs.Cut.{cut}
use Rattle.frames.proofs.Cut.{cut_length, cut_row, cut_element, cut_put, cut_set}
use Rattle.tables.specs.declared.entry.Limits.{Limits}
use Rattle.tables.specs.Cells.{Cell, none, decoded}
use Rattle.tables.specs.Rows.{cells, rows, entry_of, with_entry, cleared_row}

-- an entry, read off the flat table
pub rows_read : (z : Limits) (pages n : ℕ) (table : List ℕ) (p v : ℕ) → p < n → v < pages → p * pages + pages ≤ length table → entry_of (rows z pages n table) p v ≡ decoded z (get_or table (p * pages + v) 0)
rows_read z pages n table p v h k long =
    cut_element pages n (cells z table) p v none h k ∙ get_or-map (decoded z) table (p * pages + v) 0 none (omega arith)

-- one number written
pub rows_write : (z : Limits) (pages n : ℕ) (table : List ℕ) (p v code : ℕ) (c : Cell) → v < pages → decoded z code ≡ c → rows z pages n (set table (p * pages + v) code) ≡ with_entry (rows z pages n table) p v c
rows_write z pages n table p v code c h e =
    ap (λ xs. rows_of xs) (map-set (decoded z) table (p * pages + v) code) ∙ cut_set pages n (cells z table) p v (decoded z code) h ∙ ap (with_entry (rows z pages n table) p v) e
  where
    rows_of : List Cell → List (List Cell)
    rows_of = cut pages n

map_put : {X Y : Type 0} (f : X → Y) (a k : ℕ) (xs ys : List X) → map f (put_mid a k xs ys) ≡ put_mid a k (map f xs) (map f ys)
map_put f a k xs ys =
    map-append f (take a xs) (ys ++ drop k (drop a xs)) ∙ ap (λ zs. zs ++ map f (ys ++ drop k (drop a xs))) (sym (take-map f a xs))
    ∙ ap (λ zs. take a (map f xs) ++ zs) (map-append f ys (drop k (drop a xs)) ∙ ap (λ zs. map f ys ++ zs) (sym (ap (drop k) (drop-map f a xs) ∙ drop-map f k (drop a xs))))

pub map_replicate : {X Y : Type 0} (f : X → Y) (n : ℕ) (x : X) → map f (replicate n x) ≡ replicate n (f x)
map_replicate f zero x = refl
map_replicate f (suc n) x = ap (λ ys. f x ∷ ys) (map_replicate f n x)

-- a row filled with one number
pub rows_fill : (z : Limits) (pages n : ℕ) (table ys : List ℕ) (p code : ℕ) → p * pages + pages ≤ length table → decoded z code ≡ none →
    ys ≡ replicate (length (take (p * pages + pages - p * pages) (drop (p * pages) table))) code → rows z pages n (put_mid (p * pages) (p * pages + pages - p * pages) table ys) ≡ cleared_row (rows z pages n table) pages p
rows_fill z pages n table ys p code long e filled =
    let width : p * pages + pages - p * pages ≡ pages = omega arith in
    let count : length (take (p * pages + pages - p * pages) (drop (p * pages) table)) ≡ pages = simp (length-take, length-drop) (omega arith) in
    let blank : map (decoded z) ys ≡ replicate pages none =
    ap (map (decoded z)) (filled ∙ ap (λ k. replicate k code) count) ∙ map_replicate (decoded z) pages code ∙ ap (replicate pages) e in
    ap (cut pages n) (map_put (decoded z) (p * pages) _ table ys ∙ ap (λ k. put_mid (p * pages) k (cells z table) (map (decoded z) ys)) width ∙ ap (put_mid (p * pages) pages (cells z table)) blank)
    ∙ cut_put pages n (cells z table) (replicate pages none) p (length-replicate pages none) (omega (arith, length-map table (decoded z)))

-- a row of the table is within it
pub row_within : (p n w : ℕ) → p < n → p * w + w ≤ n * w
row_within p n w h = omega (arith, suc-mul p w, mul-le (suc p) w n w h (le_refl w))

-- there is no entry outside the rows
below_rows : (z : Limits) (pages n : ℕ) (table : List ℕ) (p v : ℕ) → n ≤ p → entry_of (rows z pages n table) p v ≡ none
below_rows z pages n table p v h =
    ap (λ r. get_or r v none) (get_or_past (rows z pages n table) p [] (omega (arith, cut_length pages n (cells z table))))

beside_rows : (z : Limits) (pages n : ℕ) (table : List ℕ) (p v : ℕ) → pages ≤ v → entry_of (rows z pages n table) p v ≡ none
beside_rows z pages n table p v h =
    elim (cases_lt p n) [
      | inl k ↦
          let short : length (take pages (drop (p * pages) (cells z table))) ≤ v = simp length-take (omega arith) in
          ap (λ r. get_or r v none) (cut_row pages n (cells z table) p k) ∙ get_or_past _ v none short
      | inr k ↦ below_rows z pages n table p v k
    ]

pub entry_outside : (z : Limits) (pages n : ℕ) (table : List ℕ) (p v : ℕ) → (n ≤ p) ⊎ (pages ≤ v) → entry_of (rows z pages n table) p v ≡ none
entry_outside z pages n table p v = ⊎_elim (below_rows z pages n table p v) (beside_rows z pages n table p v)
