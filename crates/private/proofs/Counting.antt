-- What is counted on a sorted list of labels is what the machine holds.
use Rattle.std.proofs.Common.{◌≡◌, ℕ, zero, suc, ◌+◌, ◌<◌, ◌≤◌, Bool, true, false, cond, eqb, ltb, List, [], ◌∷◌, length, get_or, sum_by, sym, refl, ap, ◌∙◌, inl, inr, zero-add, arith}
use Rattle.std.specs.List.{AllByRecursion as All}
use Rattle.std.proofs.lemmas.List.Sums.{sum_by-cons, sum_by-append}
use Rattle.std.proofs.lemmas.Bool.{cond-true, cond-false, eq-eqb, ne_eqb, lt-ltb, le-ltb, cases_eq, cases_lt}
use Rattle.std.proofs.ByRecursion.{All-append, all_shuffled}
use Rattle.std.proofs.lemmas.List.Sorted.{sum_by-IsPermutation}
use Rattle.std.specs.List.Sorted.{IsPermutation, IsNonDecreasing}
use Rattle.fold.specs.Fold as fold
use Rattle.fold.specs.Fold.{World, over_pages, over_all, users, labels_from, is_own, process, page, nobody}
use Rattle.private.specs.See.{label_of, Labels}
use Rattle.private.specs.Labelled.{page_labels, all_labels, changes}

abbrev bit : Bool → ℕ
bit b = cond b 1 0

-- how often l is in a list
abbrev pub times : ℕ → List ℕ → ℕ
times l xs = sum_by (λ x. cond (eqb l x) 1 0) xs

times_page : (l : ℕ) (ps : List fold.Page) → over_pages (is_own l) ps ≡ times l (page_labels ps)
unfolding over_pages is_own
times_page l [] = refl
times_page l (fold.absent ∷ ps) = zero-add (over_pages (is_own l) ps) ∙ times_page l ps
times_page l (fold.own m ws ∷ ps) =
    ap (λ n. cond (eqb l m) 1 0 + n) (times_page l ps) ∙ sym (sum_by-cons (λ x. cond (eqb l x) 1 0) m (page_labels ps))
times_page l (fold.seen s ∷ ps) = zero-add (over_pages (is_own l) ps) ∙ times_page l ps

times_process : (l : ℕ) (b : Bool) (ps : List fold.Page) → cond b (over_pages (is_own l) ps) 0 ≡ times l (cond b (page_labels ps) [])
times_process l true ps = times_page l ps
times_process l false ps = refl

times_all : (l : ℕ) (qs : List fold.Process) → over_all (is_own l) qs ≡ times l (all_labels qs)
unfolding over_all
times_all l [] = refl
times_all l (q ∷ qs) =
    ap (λ n. n + over_all (is_own l) qs) (times_process l q.alive q.pages)
    ∙ ap (λ n. times l (cond q.alive (page_labels q.pages) []) + n) (times_all l qs)
    ∙ sym (sum_by-append (λ x. cond (eqb l x) 1 0) (cond q.alive (page_labels q.pages) []) (all_labels qs))

-- whether n is above last and in a list
abbrev new_at : ℕ → List ℕ → ℕ → ℕ
new_at last xs n = cond (ltb last n) (cond (eqb (times n xs) 0) 0 1) 0

-- how many numbers above last and below n are in a list
abbrev pub above : ℕ → List ℕ → ℕ → ℕ
above last xs zero = 0
above last xs (suc n) = cond (ltb last n) (cond (eqb (times n xs) 0) 0 1) 0 + above last xs n

-- the same from what is in two lists
pub above_same : (last : ℕ) (xs ys : List ℕ) (n : ℕ) → ((l : ℕ) → times l xs ≡ times l ys) → above last xs n ≡ above last ys n
above_same last xs ys zero h = refl
above_same last xs ys (suc n) h =
    ap (λ k. cond (ltb last n) (cond (eqb k 0) 0 1) 0 + above last xs n) (h n)
    ∙ ap (λ k. cond (ltb last n) (cond (eqb (times n ys) 0) 0 1) 0 + k) (above_same last xs ys n h)

times_none : (m : ℕ) (xs : List ℕ) → All (λ x. m < x) xs → times m xs ≡ 0
times_none m [] h = refl
times_none m (x ∷ xs) h =
    sum_by-cons (λ y. cond (eqb m y) 1 0) x xs
    ∙ ap (λ b. cond b 1 0 + times m xs) (ne_eqb m x (λ e. omega (arith, h.0, e)))
    ∙ ap (λ k. 0 + k) (times_none m xs h.1)

times_other : (m x : ℕ) (xs : List ℕ) → (m ≡ x → ⊥) → times m (x ∷ xs) ≡ times m xs
times_other m x xs h =
    let e = sum_by-cons (λ y. cond (eqb m y) 1 0) x xs in
    let f : bit (eqb m x) ≡ 0 = ap bit (ne_eqb m x h) in
    omega arith

times_here : (x : ℕ) (xs : List ℕ) → eqb (times x (x ∷ xs)) 0 ≡ false
times_here x xs =
    let e = sum_by-cons (λ y. cond (eqb x y) 1 0) x xs in
    let f : bit (eqb x x) ≡ 1 = ap bit (eq-eqb x x refl) in
    ne_eqb (times x (x ∷ xs)) 0 (λ z. omega arith)

all_more : (m x : ℕ) (xs : List ℕ) → m < x → All (λ y. x ≤ y) xs → All (λ y. m < y) xs
all_more m x [] l h = tt
all_more m x (y ∷ ys) l h = (omega (arith, h.0), all_more m x ys l h.1)

above_none : (last x : ℕ) (xs : List ℕ) (k : ℕ) → k ≤ x → All (λ y. x ≤ y) xs → above last xs k ≡ 0
above_none last x xs zero l h = refl
above_none last x xs (suc k) l h =
    let none : times k xs ≡ 0 = times_none k xs (all_more k x xs (omega arith) h) in
    let zero-here : new_at last xs k ≡ 0 =
    ap (λ n. cond (ltb last k) (cond (eqb n 0) 0 1) 0) none ∙ same (ltb last k) in
    let rest = above_none last x xs k (omega arith) h in
    omega arith
  where
    same : (b : Bool) → ◌≡◌ {A = ℕ} (cond b (cond (eqb 0 0) 0 1) 0) 0
    same true = refl
    same false = refl

above_again : (x : ℕ) (xs : List ℕ) (n : ℕ) → above x (x ∷ xs) n ≡ above x xs n
above_again x xs zero = refl
above_again x xs (suc n) =
    let rest = above_again x xs n in
    let here : new_at x (x ∷ xs) n ≡ new_at x xs n =
    elim (cases_lt x n) [
      | inl less ↦ ap (λ k. cond (ltb x n) (cond (eqb k 0) 0 1) 0) (times_other n x xs (λ e. omega arith))
      | inr most ↦ ap (λ b. cond b (cond (eqb (times n (x ∷ xs)) 0) 0 1) 0) (le-ltb x n most) ∙ sym (ap (λ b. cond b (cond (eqb (times n xs) 0) 0 1) 0) (le-ltb x n most))
    ] in
    omega arith

above_new : (last x : ℕ) (xs : List ℕ) (n : ℕ) → last < x → x < n → All (λ y. x ≤ y) xs → above last (x ∷ xs) n ≡ suc (above x xs n)
above_new last x xs zero l h g = absurd (omega arith)
above_new last x xs (suc n) l h g =
    elim (cases_lt x n) [
      | inl less ↦
          let rest = above_new last x xs n l less g in
          let here : new_at last (x ∷ xs) n ≡ new_at x xs n =
          ap (λ b. cond b (cond (eqb (times n (x ∷ xs)) 0) 0 1) 0) (lt-ltb last n (omega arith))
          ∙ ap (λ k. cond (eqb k 0) 0 1) (times_other n x xs (λ e. omega arith))
          ∙ sym (ap (λ b. cond b (cond (eqb (times n xs) 0) 0 1) 0) (lt-ltb x n less)) in
          omega arith
      | inr most ↦
          let same : x ≡ n = omega arith in
          let here : new_at last (x ∷ xs) n ≡ 1 =
          ap (λ b. cond b (cond (eqb (times n (x ∷ xs)) 0) 0 1) 0) (lt-ltb last n (omega arith))
          ∙ ap (λ m. cond (eqb (times m (x ∷ xs)) 0) 0 1) (sym same)
          ∙ ap (λ b. cond b 0 1) (times_here x xs) in
          let none : above last (x ∷ xs) n ≡ 0 = above_none last x (x ∷ xs) n most (omega arith, g) in
          let not-here : new_at x xs n ≡ 0 =
          ap (λ b. cond b (cond (eqb (times n xs) 0) 0 1) 0) (le-ltb x n most) in
          let none_after : above x xs n ≡ 0 = above_none x x xs n most g in
          omega arith
    ]

-- a sorted list, each number at least the one before
abbrev pub Climbs : ℕ → List ℕ → Type 0
Climbs last [] = Unit {0}
Climbs last (x ∷ xs) = (last ≤ x) × Climbs x xs

climbs_all : (last m : ℕ) (xs : List ℕ) → m ≤ last → Climbs last xs → All (λ y. m ≤ y) xs
climbs_all last m [] l h = tt
climbs_all last m (x ∷ xs) l h = (omega (arith, h.0), climbs_all x m xs (omega (arith, h.0)) h.1)

pub changes_above : (last : ℕ) (xs : List ℕ) (n : ℕ) → Climbs last xs → All (λ y. y < n) xs → changes last xs ≡ above last xs n
changes_above last [] n c h = sym (above_none last n [] n (omega arith) tt)
changes_above last (x ∷ xs) n c h =
    elim (cases_eq x last) [
      | inl same ↦
          cond-true (eqb x last) (changes last xs) (suc (changes x xs)) (eq-eqb x last same)
          ∙ ap (λ k. changes k xs) (sym same)
          ∙ changes_above x xs n c.1 h.1
          ∙ sym (above_again x xs n)
          ∙ ap (λ k. above k (x ∷ xs) n) same
      | inr new ↦
          cond-false (eqb x last) (changes last xs) (suc (changes x xs)) (ne_eqb x last new)
          ∙ ap suc (changes_above x xs n c.1 h.1)
          ∙ sym (above_new last x xs n (omega (arith, c.0, new)) h.0 (climbs_all x x xs (omega arith) c.1))
    ]

-- the machine's own count of labels
pub above_labels : (w : World) (n : ℕ) → labels_from w n ≡ above 0 (all_labels w.processes) n
unfolding labels_from users
above_labels w zero = refl
above_labels w (suc n) =
    let rest = above_labels w n in
    let here : cond (eqb n 0) 0 (cond (eqb (users w n) 0) 0 1) ≡ new_at 0 (all_labels w.processes) n =
    ap (λ k. cond (eqb n 0) 0 (cond (eqb k 0) 0 1)) (times_all n w.processes) ∙ turn n (cond (eqb (times n (all_labels w.processes)) 0) 0 1) in
    omega arith
  where
    turn : (m k : ℕ) → cond (eqb m 0) 0 k ≡ cond (ltb 0 m) k 0
    turn zero k = refl
    turn (suc m) k = cond-false (eqb (suc m) 0) 0 k (ne_eqb (suc m) 0 (λ e. omega arith)) ∙ sym (cond-true (ltb 0 (suc m)) k 0 (lt-ltb 0 (suc m) (omega arith)))

climbs_rising : (last : ℕ) (ys : List ℕ) → IsNonDecreasing ys → ((d : ℕ) → 0 < length ys → last ≤ get_or ys 0 d) → Climbs last ys
climbs_rising last [] r f = tt
climbs_rising last (y ∷ ys) r f = (
  f 0 (omega arith),
  climbs_rising y ys (λ i j d a b. r (suc i) (suc j) d (omega arith) (omega arith)) (λ d h. r 0 (suc 0) d (omega arith) (omega arith)),
)

pages_below : (n : ℕ) (ps : List fold.Page) → ((v : ℕ) → label_of (get_or ps v fold.absent) < n) → All (λ l. l < n) (page_labels ps)
pages_below n [] h = tt
pages_below n (fold.absent ∷ ps) h = pages_below n ps (λ v. h (suc v))
pages_below n (fold.own l ws ∷ ps) h = (h 0, pages_below n ps (λ v. h (suc v)))
pages_below n (fold.seen s ∷ ps) h = pages_below n ps (λ v. h (suc v))

process_below : (n : ℕ) (b : Bool) (ps : List fold.Page) → ((v : ℕ) → label_of (cond b (get_or ps v fold.absent) fold.absent) < n) → All (λ l. l < n) (cond b (page_labels ps) [])
process_below n true ps h = pages_below n ps h
process_below n false ps h = tt

all_below : (n : ℕ) (qs : List fold.Process) → ((p v : ℕ) → label_of (cond (get_or qs p nobody).alive (get_or (get_or qs p nobody).pages v fold.absent) fold.absent) < n) → All (λ l. l < n) (all_labels qs)
all_below n [] h = tt
all_below n (q ∷ qs) h =
    All-append (λ l. l < n) (cond q.alive (page_labels q.pages) []) (all_labels qs)
    (process_below n q.alive q.pages (h 0)) (all_below n qs (λ p. h (suc p)))

-- what is counted on the sorted labels
pub held_labels : (w : World) (xs ys : List ℕ) → xs ≡ all_labels w.processes → IsPermutation xs ys → IsNonDecreasing ys → Labels w → changes 0 ys ≡ labels_from w w.next
unfolding page process
held_labels w xs ys e sh r h =
    let below : All (λ l. l < w.next) xs = rw e (all_below w.next w.processes h) in
    changes_above 0 ys w.next (climbs_rising 0 ys r (λ d k. omega arith)) (all_shuffled (λ l. l < w.next) xs ys sh below)
    ∙ above_same 0 ys xs w.next (λ l. sum_by-IsPermutation (λ x. cond (eqb l x) 1 0) xs ys sh)
    ∙ ap (λ zs. above 0 zs w.next) e
    ∙ sym (above_labels w w.next)
