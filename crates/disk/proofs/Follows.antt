-- Two locations change their names: what follows.
use Rattle.std.proofs.Common.{◌≡◌, ℕ, ◌+◌, ◌<◌, cond, eqb, leb, ◌≢◌, ◌⊎◌, List, [], ◌∷◌, map, length, get_or, set, sum_by, sym, refl, ap, ◌∙◌, inl, inr, arith}
use mathlib.Core.Path.{fun_ext}
use Rattle.std.proofs.lemmas.List.Sums.{sum_by-cons}
use Rattle.std.proofs.lemmas.List.{get_or-map, get_or_past, get_or-set_same, get_or-set_other, length-map, length-set}
use Rattle.std.proofs.lemmas.Bool.{cases_eq, cases_lt, cond-true, cond-false, eq-eqb, ne_eqb}
use Rattle.frames.specs.Cut.{row}
use Rattle.tables.specs.Cells.{Held, Cell, none, nothing, zeros, at, segment, swapped, held_swapped, renamed}
use Rattle.tables.specs.Rows.{entry_of}
use Rattle.tables.specs.State.{State, Spot, Walked, nowhere, blank, lies, walk, walked, walked_segment}
use Rattle.disk.specs.Moves.{swap_at, relocated}
use Rattle.disk.specs.Follows.{spot_moved, segment_spot, bytes_at, WalkFollows, SegmentFollows, SameBytes, OutKeepsBytes, InKeepsBytes, ExchangeKeepsBytes, names, namers, named, CountsFollow}

-- a map read at any index, where it takes the default to the default
pub map_at : {X Y : Type 0} (f : X → Y) (xs : List X) (i : ℕ) (d : X) (e : Y) → f d ≡ e → get_or (map f xs) i e ≡ f (get_or xs i d)
map_at f xs i d e h =
    elim (cases_lt i (length xs))
    [ inl l ↦ get_or-map f xs i d e l | inr l ↦ get_or_past (map f xs) i e (omega (arith, length-map xs f)) ∙ sym h ∙ ap f (sym (get_or_past xs i d l)) ]

-- the exchange of two locations, case by case
pub swapped_x : (x y : ℕ) → swapped x y x ≡ y
swapped_x x y = cond-true _ _ _ (eq-eqb x x refl)

pub swapped_y : (x y : ℕ) → swapped x y y ≡ x
swapped_y x y =
    elim (cases_eq y x)
    [ inl e ↦ cond-true _ y (cond (eqb y y) x y) (eq-eqb y x e) ∙ e | inr n ↦ cond-false _ y (cond (eqb y y) x y) (ne_eqb y x n) ∙ cond-true _ _ _ (eq-eqb y y refl) ]

pub swapped_other : (x y l : ℕ) → l ≢ x → l ≢ y → swapped x y l ≡ l
swapped_other x y l n k = cond-false _ _ _ (ne_eqb l x n) ∙ cond-false _ _ _ (ne_eqb l y k)

-- l is x, or y, or neither
pub which : (x y l : ℕ) → (l ≡ x) ⊎ ((l ≡ y) ⊎ ((l ≢ x) × (l ≢ y)))
which x y l = elim (cases_eq l x) [ inl e ↦ inl e | inr n ↦ elim (cases_eq l y) [ inl e ↦ inr (inl e) | inr k ↦ inr (inr (n, k)) ] ]

pub swapped_twice : (x y l : ℕ) → swapped x y (swapped x y l) ≡ l
swapped_twice x y l =
    elim (which x y l) [
      | inl e ↦ ap (λ k. swapped x y (swapped x y k)) e ∙ ap (swapped x y) (swapped_x x y) ∙ swapped_y x y ∙ sym e
      | inr (inl e) ↦ ap (λ k. swapped x y (swapped x y k)) e ∙ ap (swapped x y) (swapped_y x y) ∙ swapped_x x y ∙ sym e
      | inr (inr n) ↦ ap (swapped x y) (swapped_other x y l n.0 n.1) ∙ swapped_other x y l n.0 n.1
    ]

-- after an exchange, x has what y had
pub swap_first : {X : Type 0} (x y : ℕ) (d : X) (xs : List X) → x < length xs → y < length xs → get_or (swap_at x y d xs) x d ≡ get_or xs y d
swap_first x y d xs h k =
    elim (cases_eq x y) [
      | inl e ↦ ap (λ n. get_or (swap_at x y d xs) n d) e ∙ get_or-set_same (set xs x (get_or xs y d)) y (get_or xs x d) d (omega (arith, length-set xs x (get_or xs y d))) ∙ ap (λ n. get_or xs n d) e
      | inr n ↦ get_or-set_other (set xs x (get_or xs y d)) y x (get_or xs x d) d n ∙ get_or-set_same xs x (get_or xs y d) d h
    ]

-- what stood at l stands at its new location
pub swap_follows : {X : Type 0} (x y l : ℕ) (d : X) (xs : List X) → x < length xs → y < length xs → get_or (swap_at x y d xs) (swapped x y l) d ≡ get_or xs l d
swap_follows x y l d xs h k =
    elim (which x y l) [
      | inl e ↦
          ap (λ n. get_or (swap_at x y d xs) (swapped x y n) d) e ∙ ap (λ n. get_or (swap_at x y d xs) n d) (swapped_x x y)
          ∙ get_or-set_same (set xs x (get_or xs y d)) y (get_or xs x d) d (omega (arith, length-set xs x (get_or xs y d))) ∙ ap (λ n. get_or xs n d) (sym e)
      | inr (inl e) ↦
          ap (λ n. get_or (swap_at x y d xs) (swapped x y n) d) e ∙ ap (λ n. get_or (swap_at x y d xs) n d) (swapped_y x y) ∙ swap_first x y d xs h k ∙ ap (λ n. get_or xs n d) (sym e)
      | inr (inr n) ↦
          ap (λ m. get_or (swap_at x y d xs) m d) (swapped_other x y l n.0 n.1) ∙ get_or-set_other (set xs x (get_or xs y d)) y l (get_or xs x d) d n.1
          ∙ get_or-set_other xs x l (get_or xs y d) d n.0
    ]

module _ (x y : ℕ) (ps : List (List ℕ)) (m : State) where
  -- every entry and every segment is the old one, renamed
  pub entry_follows : (p v : ℕ) → entry_of (relocated x y ps m).rows p v ≡ renamed x y (entry_of m.rows p v)
  unfolding relocated
  entry_follows p v =
      ap (λ r. get_or r v none) (map_at (map (renamed x y)) m.rows p [] [] refl) ∙ map_at (renamed x y) (row m.rows p) v none none refl

  pub segment_renamed : (s : ℕ) → get_or (relocated x y ps m).segments s none ≡ renamed x y (get_or m.segments s none)
  unfolding relocated
  segment_renamed s = map_at (renamed x y) m.segments s none none refl

segment_moved : (x y : ℕ) (h : Held) → walked_segment (held_swapped x y h) ≡ record { spot = spot_moved x y (walked_segment h).spot; free = (walked_segment h).free }
segment_moved x y nothing = refl
segment_moved x y zeros = refl
segment_moved x y (at l) = refl
segment_moved x y (segment s) = refl

pub segment_follows : SegmentFollows
segment_follows x y ps m s =
    ap (λ (c : Cell). (walked_segment c.holds).spot) (segment_renamed x y ps m s) ∙ ap (λ (w : Walked). w.spot) (segment_moved x y (get_or m.segments s none).holds)

walked_moved : (x y : ℕ) (ps : List (List ℕ)) (m : State) → x < length m.counts → y < length m.counts → (h : Held) →
    walked (relocated x y ps m).segments (relocated x y ps m).counts (held_swapped x y h)
    ≡ record { spot = spot_moved x y (walked m.segments m.counts h).spot; free = (walked m.segments m.counts h).free }
unfolding relocated
walked_moved x y ps m a b nothing = refl
walked_moved x y ps m a b zeros = refl
walked_moved x y ps m a b (at l) = ap (λ n. record { spot = lies (swapped x y l); free = leb n 1 }) (swap_follows x y l 0 m.counts a b)
walked_moved x y ps m a b (segment s) =
    ap (λ (c : Cell). walked_segment c.holds) (segment_renamed x y ps m s) ∙ segment_moved x y (get_or m.segments s none).holds

pub walk_follows : WalkFollows
walk_follows x y ps m p v a b =
    ap (λ (c : Cell). walked (relocated x y ps m).segments (relocated x y ps m).counts c.holds) (entry_follows x y ps m p v)
    ∙ walked_moved x y ps m a b (entry_of m.rows p v).holds

-- what lies at a spot lies at its new spot
bytes_moved : (x y : ℕ) (ps : List (List ℕ)) (m : State) (s : Spot) → ((l : ℕ) → s ≡ lies l → row ps (swapped x y l) ≡ row m.pages l) → bytes_at (relocated x y ps m) (spot_moved x y s) ≡ bytes_at m s
unfolding relocated
bytes_moved x y ps m nowhere h = refl
bytes_moved x y ps m blank h = refl
bytes_moved x y ps m (lies l) h = h l refl

same_bytes : (x y : ℕ) (ps : List (List ℕ)) (m : State) → x < length m.counts → y < length m.counts →
    ((p v l : ℕ) → (walk m p v).spot ≡ lies l → row ps (swapped x y l) ≡ row m.pages l) →
    ((s l : ℕ) → segment_spot m s ≡ lies l → row ps (swapped x y l) ≡ row m.pages l) → SameBytes m (relocated x y ps m)
same_bytes x y ps m a b page seg =
    record {
      page = λ p v. ap (λ (w : Walked). bytes_at (relocated x y ps m) w.spot) (walk_follows x y ps m p v a b) ∙ bytes_moved x y ps m (walk m p v).spot (page p v);
      segment = λ s. ap (bytes_at (relocated x y ps m)) (segment_follows x y ps m s) ∙ bytes_moved x y ps m (segment_spot m s) (seg s);
    }

-- the pages after each of the three moves
pub out_page : (f d l : ℕ) (ps : List (List ℕ)) → d < length ps → l ≢ d → row (set ps d (row ps f)) (swapped f d l) ≡ row ps l
out_page f d l ps h n =
    elim (cases_eq l f) [
      | inl e ↦ ap (row (set ps d (row ps f))) (ap (swapped f d) e ∙ swapped_x f d) ∙ get_or-set_same ps d (row ps f) [] h ∙ ap (row ps) (sym e)
      | inr k ↦ ap (row (set ps d (row ps f))) (swapped_other f d l k n) ∙ get_or-set_other ps d l (row ps f) [] n
    ]

pub in_page : (f d l : ℕ) (ps : List (List ℕ)) → f < length ps → l ≢ f → row (set ps f (row ps d)) (swapped f d l) ≡ row ps l
in_page f d l ps h n =
    elim (cases_eq l d) [
      | inl e ↦ ap (row (set ps f (row ps d))) (ap (swapped f d) e ∙ swapped_y f d) ∙ get_or-set_same ps f (row ps d) [] h ∙ ap (row ps) (sym e)
      | inr k ↦ ap (row (set ps f (row ps d))) (swapped_other f d l n k) ∙ get_or-set_other ps f l (row ps d) [] n
    ]

pub out_keeps_bytes : OutKeepsBytes
out_keeps_bytes f d m t nobody =
    same_bytes f d _ m t.counts_f t.counts_d (λ p v l e. out_page f d l m.pages t.pages_d (λ k. nobody.page p v (e ∙ ap lies k)))
    (λ s l e. out_page f d l m.pages t.pages_d (λ k. nobody.segment s (e ∙ ap lies k)))

pub in_keeps_bytes : InKeepsBytes
in_keeps_bytes f d m t nobody =
    same_bytes f d _ m t.counts_f t.counts_d (λ p v l e. in_page f d l m.pages t.pages_f (λ k. nobody.page p v (e ∙ ap lies k)))
    (λ s l e. in_page f d l m.pages t.pages_f (λ k. nobody.segment s (e ∙ ap lies k)))

pub exchange_keeps_bytes : ExchangeKeepsBytes
exchange_keeps_bytes f d m t =
    same_bytes f d _ m t.counts_f t.counts_d (λ p v l e. swap_follows f d l [] m.pages t.pages_f t.pages_d)
    (λ s l e. swap_follows f d l [] m.pages t.pages_f t.pages_d)

-- an entry names l afterwards where it named the location that is l now
names_moved : (x y l : ℕ) (h : Held) → names l (held_swapped x y h) ≡ names (swapped x y l) h
names_moved x y l nothing = refl
names_moved x y l zeros = refl
names_moved x y l (segment s) = refl
names_moved x y l (at z) =
    ap (λ b. cond {A = ℕ} b 1 0)
    (elim (cases_eq l (swapped x y z)) [
      | inl e ↦ eq-eqb l (swapped x y z) e ∙ sym (eq-eqb (swapped x y l) z (ap (swapped x y) e ∙ swapped_twice x y z))
      | inr n ↦ ne_eqb l (swapped x y z) n ∙ sym (ne_eqb (swapped x y l) z (λ k. n (sym (swapped_twice x y l) ∙ ap (swapped x y) k)))
    ])

pub sumBy_map : {X Y : Type 0} (f : Y → ℕ) (g : X → Y) (xs : List X) → sum_by f (map g xs) ≡ sum_by (λ x. f (g x)) xs
sumBy_map f g [] = refl
sumBy_map f g (x ∷ xs) = sum_by-cons f (g x) (map g xs) ∙ ap (λ n. f (g x) + n) (sumBy_map f g xs) ∙ sym (sum_by-cons (λ z. f (g z)) x xs)

namers_moved : (x y l : ℕ) (cs : List Cell) → namers l (map (renamed x y) cs) ≡ namers (swapped x y l) cs
namers_moved x y l cs = sumBy_map (λ (c : Cell). names l c.holds) (renamed x y) cs ∙ ap (λ (f : Cell → ℕ). sum_by f cs) (fun_ext (λ c. names_moved x y l c.holds))

named_moved : (x y : ℕ) (ps : List (List ℕ)) (m : State) (l : ℕ) → named (relocated x y ps m) l ≡ named m (swapped x y l)
unfolding relocated
named_moved x y ps m l =
    let rows : sum_by (namers l) (map (map (renamed x y)) m.rows) ≡ sum_by (namers (swapped x y l)) m.rows =
    sumBy_map (namers l) (map (renamed x y)) m.rows ∙ ap (λ (f : List Cell → ℕ). sum_by f m.rows) (fun_ext (namers_moved x y l)) in
    λ i. rows i + namers_moved x y l m.segments i

pub swapped_within : (x y l n : ℕ) → x < n → y < n → l < n → swapped x y l < n
swapped_within x y l n a b h =
    elim (which x y l)
    [ inl e ↦ omega (arith, ap (swapped x y) e ∙ swapped_x x y) | inr (inl e) ↦ omega (arith, ap (swapped x y) e ∙ swapped_y x y) | inr (inr k) ↦ omega (arith, swapped_other x y l k.0 k.1) ]

pub counts_follow : CountsFollow
unfolding relocated
counts_follow x y ps m a b right l h =
    let long : l < length m.counts = omega (arith, length-set (set m.counts x (get_or m.counts y 0)) y (get_or m.counts x 0), length-set m.counts x (get_or m.counts y 0)) in
    ap (λ k. get_or (swap_at x y 0 m.counts) k 0) (sym (swapped_twice x y l)) ∙ swap_follows x y (swapped x y l) 0 m.counts a b
    ∙ right (swapped x y l) (swapped_within x y l (length m.counts) a b long) ∙ sym (named_moved x y ps m l)
