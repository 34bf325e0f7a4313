-- What the machine's call is, way by way. Each lemma takes what the tests on its way came out as.
use Rattle.std.proofs.Common.{◌≡◌, ℕ, suc, Bool, true, false, not, ◌&&◌, ◌||◌, eqb, ltb, leb, List, set, replicate, sym, refl, ap}
use Rattle.fold.specs.Fold as fold
use Rattle.fold.specs.Fold.{World, Sizes, Page, Answer, call, process, page, inside, there, held, users, first_free, first_segment, with_page, with_process, stored, loaded, looked, more_than_one}

-- a pair that is known, by its parts
pub both : {A B : Type 0} {r : A × B} {a : A} {b : B} → r ≡ (a, b) → (a ≡ r.0) × (b ≡ r.1)
both e = (sym (ap (λ x. x.0) e), sym (ap (λ x. x.1) e))

and_assoc : (a b c : Bool) → (a && (b && c)) ≡ ((a && b) && c)
and_assoc true b c = refl
and_assoc false b c = refl

module _ (z : Sizes) (w : World) (p : ℕ) where
  pub fork_fault : (process w p).alive ≡ false → call z w (fold.fork p) ≡ (w, fold.fault)
  unfolding call
  fork_fault e = rw e

  pub fork_full : (process w p).alive ≡ true → leb z.processes (first_free w.processes) ≡ true → call z w (fold.fork p) ≡ (w, fold.full)
  unfolding call
  fork_full e f = rw (e, f)

  pub fork_done : (process w p).alive ≡ true → leb z.processes (first_free w.processes) ≡ false → call z w (fold.fork p) ≡ (with_process w (first_free w.processes) (process w p), fold.done (first_free w.processes))
  unfolding call
  fork_done e f = rw (e, f)

  pub leave_fault : (process w p).alive ≡ false → call z w (fold.leave p) ≡ (w, fold.fault)
  unfolding call
  leave_fault e = rw e

  pub leave_done : (process w p).alive ≡ true → call z w (fold.leave p) ≡ (with_process w p (record { alive = false; pages = replicate z.pages fold.absent }), fold.done 0)
  unfolding call
  leave_done e = rw e

module _ (z : Sizes) (w : World) (p v : ℕ) where
  pub map_fault : (inside z w p v && not (there (page w p v))) ≡ false → call z w (fold.map p v) ≡ (w, fold.fault)
  unfolding call
  map_fault e = rw e

  pub map_done : (inside z w p v && not (there (page w p v))) ≡ true → call z w (fold.map p v) ≡ (with_page w p v (fold.own 0 (replicate z.words 0)), fold.done 0)
  unfolding call
  map_done e = rw e

  pub drop_fault : (inside z w p v && there (page w p v)) ≡ false → call z w (fold.drop p v) ≡ (w, fold.fault)
  unfolding call
  drop_fault e = rw e

  pub drop_done : (inside z w p v && there (page w p v)) ≡ true → call z w (fold.drop p v) ≡ (with_page w p v fold.absent, fold.done 0)
  unfolding call
  drop_done e = rw e

  pub make_fault : (inside z w p v && not (there (page w p v))) ≡ false → call z w (fold.make p v) ≡ (w, fold.fault)
  unfolding call
  make_fault e = rw e

  pub make_no_segment : (inside z w p v && not (there (page w p v))) ≡ true → leb z.segments (first_segment w 0 w.segments) ≡ true → call z w (fold.make p v) ≡ (w, fold.full)
  unfolding call
  make_no_segment e f = rw (e, f)

  pub make_full : (inside z w p v && not (there (page w p v))) ≡ true → leb z.segments (first_segment w 0 w.segments) ≡ false → leb z.hold (held w) ≡ true → call z w (fold.make p v) ≡ (w, fold.full)
  unfolding call
  make_full e f g = rw (e, f, g)

  pub make_done : (inside z w p v && not (there (page w p v))) ≡ true → leb z.segments (first_segment w 0 w.segments) ≡ false → leb z.hold (held w) ≡ false → (s : ℕ) → s ≡ first_segment w 0 w.segments → call z w (fold.make p v) ≡ (with_page (record { processes = w.processes; segments = set w.segments s (replicate z.words 0); next = w.next }) p v (fold.seen s), fold.done s)
  unfolding call with_page process
  make_done e f g s h = rw (e, f, g, h)

  pub look_not_free : (q u : ℕ) → (inside z w p v && not (there (page w p v))) ≡ false → call z w (fold.look p v q u) ≡ (w, fold.fault)
  unfolding call
  look_not_free q u e = rw (and_assoc (inside z w p v) (not (there (page w p v))) (inside z w q u), e)

  pub look_outside : (q u : ℕ) → (inside z w p v && not (there (page w p v))) ≡ true → inside z w q u ≡ false → call z w (fold.look p v q u) ≡ (w, fold.fault)
  unfolding call
  look_outside q u e f = rw (and_assoc (inside z w p v) (not (there (page w p v))) (inside z w q u), e, f)

  pub look_inside : (q u : ℕ) (x : Page) → (inside z w p v && not (there (page w p v))) ≡ true → inside z w q u ≡ true → page w q u ≡ x → call z w (fold.look p v q u) ≡ looked w p v x
  unfolding call
  look_inside q u x e f g = rw (and_assoc (inside z w p v) (not (there (page w p v))) (inside z w q u), e, f, g)

  pub load_outside : (o : ℕ) → (inside z w p v && ltb o z.words) ≡ false → (call z w (fold.load p v o)).1 ≡ fold.fault
  unfolding call
  load_outside o e = rw e

  pub load_inside : (o : ℕ) (x : Page) → (inside z w p v && ltb o z.words) ≡ true → page w p v ≡ x → (call z w (fold.load p v o)).1 ≡ loaded w o x
  unfolding call
  load_inside o x e f = rw (e, f)

  pub store_outside : (o x : ℕ) → (inside z w p v && ltb o z.words) ≡ false → call z w (fold.store p v o x) ≡ (w, fold.fault)
  unfolding call
  store_outside o x e = rw e

  pub store_inside : (o x : ℕ) (y : Page) → (inside z w p v && ltb o z.words) ≡ true → page w p v ≡ y → call z w (fold.store p v o x) ≡ stored z w p v o x y
  unfolding call
  store_inside o x y e f = rw (e, f)

module _ (z : Sizes) (w : World) (p v o x l : ℕ) (ws : List ℕ) where
  pub stored_alone : (eqb l 0 || more_than_one (users w l)) ≡ false → stored z w p v o x (fold.own l ws) ≡ (with_page w p v (fold.own l (set ws o x)), fold.done 0)
  unfolding stored
  stored_alone e = rw e

  pub stored_full : (eqb l 0 || more_than_one (users w l)) ≡ true → leb z.hold (held w) ≡ true → stored z w p v o x (fold.own l ws) ≡ (w, fold.full)
  unfolding stored
  stored_full e f = rw (e, f)

  pub stored_fresh : (eqb l 0 || more_than_one (users w l)) ≡ true → leb z.hold (held w) ≡ false → stored z w p v o x (fold.own l ws) ≡ (record { processes = (with_page w p v (fold.own w.next (set ws o x))).processes; segments = w.segments; next = suc w.next }, fold.done 0)
  unfolding stored
  stored_fresh e f = rw (e, f)
