-- Each call by the outcome of its first test.
use Rattle.std.proofs.Common.{◌≡◌, ℕ, Bool, true, false, not, ◌&&◌, ltb, ⊎_elim}
use Rattle.std.proofs.lemmas.Bool.{cond-true, cond-false, and_cases, and_from, and_left, and_parts, and_right}
use Rattle.fold.specs.Fold.{Sizes, fork, leave, map, drop, make, look, load, store, done, fault}
use Rattle.disk.specs.Whole.{Choice}
use Rattle.segments.specs.Make.{make_segment}
use Rattle.segments.specs.Release.{dropped}
use Rattle.calls.specs.Machine.{Machine, living, lowest_absent}
use Rattle.calls.specs.Calls.{calls_by, changed, fork_to, gone, holds, inside, is_there, load_by, look_at, made, slot_found, store_by}
use Rattle.calls.specs.Pages.{mapped}

module _ (choose : Choice) (z : Sizes) (m : Machine) where
  module _ (p : ℕ) where
    pub fork_fault : living m p ≡ false → calls_by choose z m (fork p) ≡ (m, fault)
    unfolding calls_by
    fork_fault e = cond-false _ _ _ e

    pub fork_goes : living m p ≡ true → calls_by choose z m (fork p) ≡ fork_to z m p (lowest_absent 0 m.alive)
    unfolding calls_by
    fork_goes e = cond-true _ _ _ e

    pub leave_fault : living m p ≡ false → calls_by choose z m (leave p) ≡ (m, fault)
    unfolding calls_by
    leave_fault e = cond-false _ _ _ e

    pub leave_goes : living m p ≡ true → calls_by choose z m (leave p) ≡ (gone z m p, done 0)
    unfolding calls_by
    leave_goes e = cond-true _ _ _ e

  module _ (p v : ℕ) where
    abbrev Lacks : Bool → Type 0
    Lacks b = (inside z m p v && not (is_there (holds m p v))) ≡ b

    abbrev Has : Bool → Type 0
    Has b = (inside z m p v && is_there (holds m p v)) ≡ b

    pub map_fault : Lacks false → calls_by choose z m (map p v) ≡ (m, fault)
    unfolding calls_by
    map_fault e = cond-false _ _ _ e

    pub map_goes : Lacks true → calls_by choose z m (map p v) ≡ (changed m (mapped m.whole.state p v), done 0)
    unfolding calls_by
    map_goes e = cond-true _ _ _ e

    pub drop_fault : Has false → calls_by choose z m (drop p v) ≡ (m, fault)
    unfolding calls_by
    drop_fault e = cond-false _ _ _ e

    pub drop_goes : Has true → calls_by choose z m (drop p v) ≡ (changed m (dropped m.whole.state p v), done 0)
    unfolding calls_by
    drop_goes e = cond-true _ _ _ e

    pub make_fault : Lacks false → calls_by choose z m (make p v) ≡ (m, fault)
    unfolding calls_by
    make_fault e = cond-false _ _ _ e

    pub make_goes : Lacks true → calls_by choose z m (make p v) ≡ made m (make_segment choose m.frames m.whole p v).0 (make_segment choose m.frames m.whole p v).1
    unfolding calls_by
    make_goes e = cond-true _ _ _ e

    -- a look makes three tests: the page is one that may be asked for, it is absent, and so may the other page
    pub look_not_absent : (q u : ℕ) → Lacks false → calls_by choose z m (look p v q u) ≡ (m, fault)
    unfolding calls_by
    look_not_absent q u e =
        cond-false _ _ _ (⊎_elim (λ f. and_left (inside z m p v) _ f) (λ f. and_right (inside z m p v) _ (and_left (not (is_there (holds m p v))) (inside z m q u) f)) (and_cases (inside z m p v) (not (is_there (holds m p v))) e))

    pub look_not_inside : (q u : ℕ) → inside z m q u ≡ false → calls_by choose z m (look p v q u) ≡ (m, fault)
    unfolding calls_by
    look_not_inside q u e = cond-false _ _ _ (and_right (inside z m p v) _ (and_right (not (is_there (holds m p v))) (inside z m q u) e))

    pub look_goes : (q u : ℕ) → Lacks true → inside z m q u ≡ true → calls_by choose z m (look p v q u) ≡ look_at m p v (holds m q u)
    unfolding calls_by
    look_goes q u e f =
        let h = and_parts (inside z m p v) (not (is_there (holds m p v))) e in
        cond-true _ _ _ (and_from (inside z m p v) _ h.0 (and_from (not (is_there (holds m p v))) (inside z m q u) h.1 f))

    -- A load or a store makes two tests: the page may be asked for, and so may the byte.
    abbrev Reaches : ℕ → Bool → Type 0
    Reaches o b = (inside z m p v && ltb o z.words) ≡ b

    pub not_inside : (o : ℕ) → inside z m p v ≡ false → Reaches o false
    not_inside o e = and_left (inside z m p v) (ltb o z.words) e

    pub past_the_end : (o : ℕ) → ltb o z.words ≡ false → Reaches o false
    past_the_end o e = and_right (inside z m p v) (ltb o z.words) e

    pub reaches : (o : ℕ) → inside z m p v ≡ true → ltb o z.words ≡ true → Reaches o true
    reaches o e f = and_from (inside z m p v) (ltb o z.words) e f

    pub load_fault : (o : ℕ) → Reaches o false → calls_by choose z m (load p v o) ≡ (m, fault)
    unfolding calls_by
    load_fault o e = cond-false _ _ _ e

    pub load_goes : (o : ℕ) → Reaches o true → calls_by choose z m (load p v o) ≡ load_by choose m p v o (slot_found m p v)
    unfolding calls_by
    load_goes o e = cond-true _ _ _ e

    pub store_fault : (o x : ℕ) → Reaches o false → calls_by choose z m (store p v o x) ≡ (m, fault)
    unfolding calls_by
    store_fault o x e = cond-false _ _ _ e

    pub store_goes : (o x : ℕ) → Reaches o true → calls_by choose z m (store p v o x) ≡ store_by choose m p v o x (slot_found m p v)
    unfolding calls_by
    store_goes o x e = cond-true _ _ _ e
