-- The ways that a call can go, each with the tests that led there as facts. A statement about a call, its world and its answer
-- is proved by showing it for each way: no proof elsewhere opens `call`.
use Rattle.std.proofs.Common.{◌≡◌, ℕ, suc, ◌<◌, ◌≤◌, Bool, true, false, cond, not, ◌&&◌, ◌||◌, eqb, ltb, ◌≢◌, ◌⊎◌, List, [], get_or, set, replicate, refl, ap, ◌∙◌, inl, inr, ⊎_elim}
use Rattle.std.proofs.lemmas.Bool.{cond_both, and_parts, or_cases, or_parts, not-true, not-false, ltb-true, ltb-false, leb-true, leb-false, eqb-true, eqb-false, true≢false, cond-true, and_from, lt-ltb}
use Rattle.fold.specs.Fold.{Page, Process, Sizes, World, Call, Answer, absent, own, seen, process, page, users, held, with_page, with_process, first_free, first_segment, inside, there, stored, loaded, looked, call, more_than_one, fork, leave, map, drop, make, look, load, store, done, fault, full}

-- page v of p may be asked for: the process is there, and the page is in range
pub record Inside (z : Sizes) (w : World) (p v : ℕ) : Type 0 where
  pub alive : (process w p).alive ≡ true
  pub range : v < z.pages

-- a store to a page with this label needs a label of its own
abbrev pub Shared : World → ℕ → Type 0
Shared w l = (l ≡ 0) ⊎ (1 < users w l)

-- what the calls put in place
abbrev pub gone : Sizes → Process
gone z = record { alive = false; pages = replicate z.pages absent }

abbrev pub zeros : Sizes → List ℕ
zeros z = replicate z.words 0

abbrev pub free_process : World → ℕ
free_process w = first_free w.processes

abbrev pub free_segment : World → ℕ
free_segment w = first_segment w 0 w.segments

abbrev pub segment : World → ℕ → List ℕ
segment w s = get_or w.segments s []

abbrev pub with_segment : World → ℕ → List ℕ → World
with_segment w s ws = record { processes = w.processes; segments = set w.segments s ws; next = w.next }

abbrev pub with_label : World → ℕ → ℕ → List ℕ → World
with_label w p v ws = record { processes = (with_page w p v (own w.next ws)).processes; segments = w.segments; next = suc w.next }

abbrev pub with_made : Sizes → World → ℕ → ℕ → World
with_made z w p v =
    record {
      processes = (with_page w p v (seen (free_segment w))).processes;
      segments = set w.segments (free_segment w) (zeros z);
      next = w.next;
    }

there_false : (x : Page) → there x ≡ false → x ≡ absent
unfolding there
there_false absent e = refl
there_false (own l ws) e = absurd (true≢false e)
there_false (seen s) e = absurd (true≢false e)

pub inside_parts : (z : Sizes) (w : World) (p v : ℕ) → inside z w p v ≡ true → Inside z w p v
unfolding inside
inside_parts z w p v e = let h = and_parts _ _ e in record { alive = h.0; range = ltb-true v z.pages h.1 }

-- the two tests before a page is put where none is
vacant : (z : Sizes) (w : World) (p v : ℕ) → (inside z w p v && not (there (page w p v))) ≡ true → Inside z w p v × (page w p v ≡ absent)
vacant z w p v e = let h = and_parts _ _ e in (inside_parts z w p v h.0, there_false (page w p v) (not-true _ h.1))

-- the two tests before a byte is reached
reached : (z : Sizes) (w : World) (p v o : ℕ) → (inside z w p v && ltb o z.words) ≡ true → Inside z w p v × (o < z.words)
reached z w p v o e = let h = and_parts _ _ e in (inside_parts z w p v h.0, ltb-true o z.words h.1)

shared : (w : World) (l : ℕ) → (eqb l 0 || more_than_one (users w l)) ≡ true → Shared w l
shared w l e = ⊎_elim (λ k. inl (eqb-true l 0 k)) (λ k. inr (ltb-true 1 (users w l) k)) (or_cases _ _ e)

-- a test in a call, and what to show on either side of it
test : (P : World → Answer → Type 0) (b : Bool) (x y : World × Answer) → (b ≡ true → P x.0 x.1) → (b ≡ false → P y.0 y.1) → P (cond b x y).0 (cond b x y).1
test P b x y = cond_both b x y (λ (r : World × Answer). P r.0 r.1)

-- A fork goes three ways.
module _ (z : Sizes) (w : World) (p : ℕ) (P : World → Answer → Type 0) where
  pub record ForkWays : Type 0 where
    pub nobody_there : P w fault
    pub all_there : (process w p).alive ≡ true → z.processes ≤ free_process w → P w full
    pub forked : (process w p).alive ≡ true → free_process w < z.processes → P (with_process w (free_process w) (process w p)) (done (free_process w))

  pub by_fork : ForkWays → P (call z w (fork p)).0 (call z w (fork p)).1
  unfolding call
  by_fork h =
      test P _ _ _ (λ _. h.nobody_there)
      (λ a. test P _ _ _ (λ f. h.all_there (not-false _ a) (leb-true _ _ f)) (λ f. h.forked (not-false _ a) (leb-false _ _ f)))

-- A store goes five ways.
module _ (z : Sizes) (w : World) (p v o x : ℕ) (P : World → Answer → Type 0) where
  pub record StoreWays : Type 0 where
    pub not_there : P w fault
    pub no_room : (l : ℕ) (ws : List ℕ) → Inside z w p v → o < z.words → page w p v ≡ own l ws → Shared w l → z.hold ≤ held w → P w full
    pub anew : (l : ℕ) (ws : List ℕ) → Inside z w p v → o < z.words → page w p v ≡ own l ws → Shared w l → held w < z.hold → P (with_label w p v (set ws o x)) (done 0)
    pub alone : (l : ℕ) (ws : List ℕ) → Inside z w p v → o < z.words → page w p v ≡ own l ws → l ≢ 0 → users w l ≤ 1 → P (with_page w p v (own l (set ws o x))) (done 0)
    pub in_segment : (s : ℕ) → Inside z w p v → o < z.words → page w p v ≡ seen s → P (with_segment w s (set (segment w s) o x)) (done 0)

  storing : StoreWays → Inside z w p v → o < z.words → (g : Page) → page w p v ≡ g → P (stored z w p v o x g).0 (stored z w p v o x g).1
  unfolding stored
  storing h i k absent e = h.not_there
  storing h i k (seen s) e = h.in_segment s i k e
  storing h i k (own l ws) e =
      test P _ _ _
      (λ sh. test P _ _ _ (λ f. h.no_room l ws i k e (shared w l sh) (leb-true _ _ f)) (λ f. h.anew l ws i k e (shared w l sh) (leb-false _ _ f)))
      (λ al. let a = or_parts _ _ al in h.alone l ws i k e (eqb-false l 0 a.0) (ltb-false 1 (users w l) a.1))

  pub by_store : StoreWays → P (call z w (store p v o x)).0 (call z w (store p v o x)).1
  unfolding call
  by_store h =
      test P _ _ _ (λ a. let i = reached z w p v o a in storing h i.0 i.1 (page w p v) refl) (λ _. h.not_there)

-- Every call, by its ways.
module _ (z : Sizes) (w : World) (P : Call → World → Answer → Type 0) where
  pub record Ways : Type 0 where
    pub faulted : (c : Call) → P c w fault
    pub forking : (p : ℕ) → ForkWays z w p (P (fork p))
    pub left : (p : ℕ) → (process w p).alive ≡ true → P (leave p) (with_process w p (gone z)) (done 0)
    pub mapped : (p v : ℕ) → Inside z w p v → page w p v ≡ absent → P (map p v) (with_page w p v (own 0 (zeros z))) (done 0)
    pub dropped : (p v : ℕ) → Inside z w p v → there (page w p v) ≡ true → P (drop p v) (with_page w p v absent) (done 0)
    pub make_full : (p v : ℕ) → Inside z w p v → page w p v ≡ absent → (z.segments ≤ free_segment w) ⊎ (z.hold ≤ held w) → P (make p v) w full
    pub made : (p v : ℕ) → Inside z w p v → page w p v ≡ absent → free_segment w < z.segments → held w < z.hold → P (make p v) (with_made z w p v) (done (free_segment w))
    pub looked_at : (p v q u s : ℕ) → Inside z w p v → page w p v ≡ absent → Inside z w q u → page w q u ≡ seen s → P (look p v q u) (with_page w p v (seen s)) (done s)
    pub loaded_own : (p v o l : ℕ) (ws : List ℕ) → Inside z w p v → o < z.words → page w p v ≡ own l ws → P (load p v o) w (done (get_or ws o 0))
    pub loaded_seen : (p v o s : ℕ) → Inside z w p v → o < z.words → page w p v ≡ seen s → P (load p v o) w (done (get_or (segment w s) o 0))
    pub storing_to : (p v o x : ℕ) → StoreWays z w p v o x (P (store p v o x))

  looking : Ways → (p v q u : ℕ) → Inside z w p v → page w p v ≡ absent → Inside z w q u → (x : Page) → page w q u ≡ x → P (look p v q u) (looked w p v x).0 (looked w p v x).1
  unfolding looked
  looking h p v q u i a k absent e = h.faulted (look p v q u)
  looking h p v q u i a k (own l ws) e = h.faulted (look p v q u)
  looking h p v q u i a k (seen s) e = h.looked_at p v q u s i a k e

  loading : Ways → (p v o : ℕ) → Inside z w p v → o < z.words → (x : Page) → page w p v ≡ x → P (load p v o) w (loaded w o x)
  unfolding loaded
  loading h p v o i k absent e = h.faulted (load p v o)
  loading h p v o i k (own l ws) e = h.loaded_own p v o l ws i k e
  loading h p v o i k (seen s) e = h.loaded_seen p v o s i k e

  pub by_ways : Ways → (c : Call) → P c (call z w c).0 (call z w c).1
  unfolding call
  by_ways h (fork p) = by_fork z w p (P (fork p)) (h.forking p)
  by_ways h (leave p) = test (P (leave p)) _ _ _ (λ a. h.left p a) (λ _. h.faulted (leave p))
  by_ways h (map p v) = test (P (map p v)) _ _ _ (λ a. let i = vacant z w p v a in h.mapped p v i.0 i.1) (λ _. h.faulted (map p v))
  by_ways h (drop p v) =
      test (P (drop p v)) _ _ _ (λ a. let i = and_parts _ _ a in h.dropped p v (inside_parts z w p v i.0) i.1) (λ _. h.faulted (drop p v))
  by_ways h (make p v) =
      test (P (make p v)) _ _ _
      (λ a. let i = vacant z w p v a in
      test (P (make p v)) _ _ _
      (λ f. h.make_full p v i.0 i.1 (⊎_elim (λ k. inl (leb-true _ _ k)) (λ k. inr (leb-true _ _ k)) (or_cases _ _ f)))
      (λ f. let k = or_parts _ _ f in h.made p v i.0 i.1 (leb-false _ _ k.0) (leb-false _ _ k.1)))
      (λ _. h.faulted (make p v))
  by_ways h (look p v q u) =
      test (P (look p v q u)) _ _ _
      (λ a. let i = and_parts _ _ a in let k = and_parts _ _ i.1 in
      looking h p v q u (inside_parts z w p v i.0) (there_false (page w p v) (not-true _ k.0)) (inside_parts z w q u k.1) (page w q u) refl)
      (λ _. h.faulted (look p v q u))
  by_ways h (load p v o) =
      cond_both _ _ _ (λ a. P (load p v o) w a) (λ a. let i = reached z w p v o a in loading h p v o i.0 i.1 (page w p v) refl) (λ _. h.faulted (load p v o))
  by_ways h (store p v o x) = by_store z w p v o x (P (store p v o x)) (h.storing_to p v o x)

-- what a load answers, by the page that it reaches
inside_from : (z : Sizes) (w : World) (p v : ℕ) → Inside z w p v → inside z w p v ≡ true
unfolding inside
inside_from z w p v i = and_from _ _ i.alive (lt-ltb v z.pages i.range)

load_at : (z : Sizes) (w : World) (p v o : ℕ) (g : Page) → Inside z w p v → o < z.words → page w p v ≡ g → (call z w (load p v o)).1 ≡ loaded w o g
unfolding call
load_at z w p v o g i k e = cond-true _ _ fault (and_from _ _ (inside_from z w p v i) (lt-ltb o z.words k)) ∙ ap (loaded w o) e

pub load_own : (z : Sizes) (w : World) (p v o l : ℕ) (ws : List ℕ) → Inside z w p v → o < z.words → page w p v ≡ own l ws → (call z w (load p v o)).1 ≡ done (get_or ws o 0)
unfolding loaded
load_own z w p v o l ws i k e = load_at z w p v o (own l ws) i k e

pub load_seen : (z : Sizes) (w : World) (p v o s : ℕ) → Inside z w p v → o < z.words → page w p v ≡ seen s → (call z w (load p v o)).1 ≡ done (get_or (segment w s) o 0)
unfolding loaded
load_seen z w p v o s i k e = load_at z w p v o (seen s) i k e

loaded_same : (w x : World) (o : ℕ) → w.segments ≡ x.segments → (g : Page) → loaded w o g ≡ loaded x o g
unfolding loaded
loaded_same w x o s absent = refl
loaded_same w x o s (own l ws) = refl
loaded_same w x o s (seen t) = ap (λ (ss : List (List ℕ)). done (get_or (get_or ss t []) o 0)) s

-- a load is answered by who is there, the page, and the segments, and by nothing else
pub load_same : (z : Sizes) (w x : World) (p q v o : ℕ) → (process w p).alive ≡ (process x q).alive → page w p v ≡ page x q v → w.segments ≡ x.segments → (call z w (load p v o)).1 ≡ (call z x (load q v o)).1
unfolding call inside
load_same z w x p q v o a e s =
    let byte : loaded w o (page w p v) ≡ loaded x o (page x q v) = ap (loaded w o) e ∙ loaded_same w x o s (page x q v) in
    let there : ((process w p).alive && ltb v z.pages && ltb o z.words) ≡ ((process x q).alive && ltb v z.pages && ltb o z.words) =
    ap (λ b. b && ltb v z.pages && ltb o z.words) a in
    cc
