-- A fork: the child is there first, without pages, and then names what its parent names, page by page.
use Rattle.std.proofs.Common.{◌≡◌, ℕ, zero, suc, ◌<◌, ◌≤◌, Bool, true, false, cond, not, leb, ◌≢◌, List, length, get_or, set, replicate, Some, None, Option, sym, refl, ap, ◌∙◌, subst, inl, inr, arith}
use Rattle.std.proofs.lemmas.List.{length-set, length-replicate, get_or-set_same, get_or-set_other, set-set, ext_get_or}
use Rattle.std.proofs.lemmas.Bool.{cases_eq, cond-true, cond-false, both_ways, le-leb, lt-leb}
use Rattle.fold.specs.Fold.{Page, Process, Sizes, World, absent, process, page, with_page, with_process, Answer, call, fork, done, full, first_free}
use Rattle.fold.proofs.Pages.{page_of, page_is, page_with_process, process_either, process_put, process_other, with_page_is}
use Rattle.fold.proofs.Reach.{all_same}
use Rattle.frames.specs.Cut.{row}
use Rattle.tables.specs.Cells.{Held, Cell, nothing, zeros, at, segment, marked}
use Rattle.tables.specs.Rows.{entry_of, with_entry, shared_entry, shared_row}
use Rattle.tables.specs.State.{State, with_rows}
use Rattle.disk.specs.Whole.{Choice}
use Rattle.calls.specs.Machine.{Machine, living, lowest_absent}
use Rattle.calls.specs.Calls.{holds, with_alive, calls_by, changed, fork_to}
use Rattle.calls.specs.Pages.{raised, raised_row, forked}
use Rattle.simulation.proofs.Sums.{entry_put, entry_other, holds_at}
use Rattle.simulation.proofs.Sim.{Sim, SlotsTrue, state, see}
use Rattle.simulation.proofs.Room.{process_same, no_process_left}
use Rattle.simulation.proofs.Step.{Step, alike_sim, step_by, refused, by_test, changed_true}
use Rattle.simulation.proofs.Entries.{there_below}
use Rattle.simulation.proofs.Naming.{at_state, changed_sim, held_known, attached, remarked}

-- a process put twice
pub put_twice : (w : World) (p : ℕ) (q r : Process) → with_process (with_process w p q) p r ≡ with_process w p r
unfolding with_process
put_twice w p q r = ap (λ (qs : List Process). record { processes = qs; segments = w.segments; next = w.next }) (set-set w.processes p q r)

-- where nothing is seen, nothing is held
pub see_absent : (lab : ℕ → ℕ) (ps : List (List ℕ)) (h : Held) → absent ≡ see lab ps h → h ≡ nothing
see_absent lab ps nothing e = refl
see_absent lab ps zeros e = absurd (let z : ◌≡◌ {A = ℕ} 0 1 = cc in omega arith)
see_absent lab ps (at x) e = absurd (let z : ◌≡◌ {A = ℕ} 0 1 = cc in omega arith)
see_absent lab ps (segment s) e = absurd (let z : ◌≡◌ {A = ℕ} 0 1 = cc in omega arith)

-- a process without pages
abbrev pub bare : Sizes → Bool → Process
bare z b = record { alive = b; pages = replicate z.pages absent }

-- A process without pages comes or goes.
pub flipped : {z : Sizes} {lab : ℕ → ℕ} {m : Machine} {w : World} → Sim z lab m w → (p : ℕ) (b : Bool) → p < z.processes → ((u : ℕ) → page w p u ≡ absent) →
    Sim z lab (with_alive m p b) (with_process w p (bare z b))
unfolding with_process
flipped {z} {lab} {m} {w} sim p b h none =
    alike_sim z lab m (with_alive m p b) w (with_process w p (bare z b))
    (record {
      frames = refl;
      tables = refl;
      processes_there = length-set m.alive p b;
      alive = λ q.
          elim (cases_eq q p) [
            | inl e ↦
                ap (λ n. (process (with_process w p (bare z b)) n).alive) e ∙ ap (λ (r : Process). r.alive) put
                ∙ sym (get_or-set_same m.alive p b false (omega (arith, sim.shape.alive))) ∙ ap (living (with_alive m p b)) (sym e)
            | inr n ↦ ap (λ (r : Process). r.alive) (process_other w p q (bare z b) n) ∙ sim.alive q ∙ sym (get_or-set_other m.alive p q b false n)
          ];
      processes = length-set w.processes p _;
      wide = λ q k.
          elim (process_either w p q (bare z b)) [
            | inl e ↦ ap (λ (r : Process). length r.pages) e.1 ∙ length-replicate z.pages absent
            | inr e ↦ ap (λ (r : Process). length r.pages) e ∙ sim.shape.wide q k
          ];
      pages = λ q u.
          elim (page_with_process w p q u (bare z b)) [
            | inl e ↦ e.1 ∙ nothing_there b u ∙ sym (none u) ∙ ap (λ n. page w n u) (sym e.0)
            | inr e ↦ e
          ];
      segments = refl;
      next = refl;
    })
    sim
  where
    put : process (with_process w p (bare z b)) p ≡ bare z b
    put = process_put w p (bare z b) (omega (arith, sim.shape.processes))

    nothing_there : (b : Bool) (u : ℕ) → page_of (bare z b) u ≡ absent
    nothing_there true u = all_same z.pages u absent
    nothing_there false u = refl

-- the pages of the child once the first n are there
copied : List Page → ℕ → ℕ → List Page
copied xs long zero = replicate long absent
copied xs long (suc n) = set (copied xs long n) n (get_or xs n absent)

copied_length : (xs : List Page) (long n : ℕ) → length (copied xs long n) ≡ long
unfolding copied
copied_length xs long zero = length-replicate long absent
copied_length xs long (suc n) = length-set (copied xs long n) n (get_or xs n absent) ∙ copied_length xs long n

copied_rest : (xs : List Page) (long n u : ℕ) → n ≤ u → get_or (copied xs long n) u absent ≡ absent
unfolding copied
copied_rest xs long zero u h = all_same long u absent
copied_rest xs long (suc n) u h = get_or-set_other (copied xs long n) n u (get_or xs n absent) absent (omega arith) ∙ copied_rest xs long n u (omega arith)

copied_first : (xs : List Page) (long n u : ℕ) → n ≤ long → u < n → get_or (copied xs long n) u absent ≡ get_or xs u absent
unfolding copied
copied_first xs long zero u k h = absurd (omega arith)
copied_first xs long (suc n) u k h =
    elim (cases_eq u n) [
      | inl e ↦
          ap (λ i. get_or (copied xs long (suc n)) i absent) e ∙ get_or-set_same (copied xs long n) n (get_or xs n absent) absent (omega (arith, copied_length xs long n)) ∙ ap (λ i. get_or xs i absent) (sym e)
      | inr d ↦ get_or-set_other (copied xs long n) n u (get_or xs n absent) absent d ∙ copied_first xs long n u (omega arith) (omega arith)
    ]

copied_all : (xs : List Page) → copied xs (length xs) (length xs) ≡ xs
copied_all xs =
    ext_get_or absent (copied xs (length xs) (length xs)) xs (copied_length xs (length xs) (length xs))
    (λ i h. copied_first xs (length xs) (length xs) i (omega arith) (omega (arith, copied_length xs (length xs) (length xs))))

-- counting up does not look at rows
raised_rows : (t : State) (rs us : List (List Cell)) (h : Held) → with_rows (raised (with_rows t rs) h) us ≡ with_rows (raised t h) us
raised_rows t rs us nothing = refl
raised_rows t rs us zeros = refl
raised_rows t rs us (at x) = refl
raised_rows t rs us (segment s) = refl

-- One page is shared: the entry of the parent is marked, and the child has it too.
module _ {z : Sizes} {lab : ℕ → ℕ} {m : Machine} {w : World} (sim : Sim z lab m w) (parent child v : ℕ) (there : living m parent ≡ true) (child_there : living m child ≡ true)
    (other : parent ≢ child) (range : v < z.pages) where
  abbrev entry : Cell
  entry = entry_of (state m).rows parent v

  abbrev rows_marked : List (List Cell)
  rows_marked = with_entry (state m).rows parent v (marked entry)

  abbrev rows_shared : List (List Cell)
  rows_shared = shared_entry (state m).rows parent child v

  -- the mark changes nothing that is held
  holds_marked : (q u : ℕ) → holds_at rows_marked q u ≡ holds m q u
  holds_marked q u =
      elim (cases_eq q parent) [
        | inr n ↦ ap (λ (c : Cell). c.holds) (entry_other (state m).rows parent v q u (marked entry) (λ e _. n e))
        | inl e ↦
            elim (cases_eq u v) [
              | inr n ↦ ap (λ (c : Cell). c.holds) (entry_other (state m).rows parent v q u (marked entry) (λ _ k. n k))
              | inl k ↦
                  ap (λ i. holds_at rows_marked i u) e ∙ ap (holds_at rows_marked parent) k ∙ ap (λ (c : Cell). c.holds) (entry_put (state m).rows parent v (marked entry) row_there column_there)
                  ∙ sym (ap (holds m parent) k) ∙ sym (ap (λ i. holds m i u) e)
            ]
      ]
    where
      below : parent < z.processes
      below = there_below sim parent there

      row_there : parent < length (state m).rows
      row_there = omega (arith, below, sim.shape.rows)

      column_there : v < length (row (state m).rows parent)
      column_there = omega (arith, range, sim.shape.columns parent below)

  parent_keeps : (u : ℕ) → holds_at rows_shared parent u ≡ holds m parent u
  parent_keeps u = ap (λ (c : Cell). c.holds) (entry_other rows_marked child v parent u (marked entry) (λ e _. other e)) ∙ holds_marked parent u

  shared : holds m child v ≡ nothing → Sim z lab (at_state m (with_rows (raised (state m) entry.holds) rows_shared)) (with_page w child v (page w parent v))
  shared old =
      subst (λ s. Sim z lab (at_state m s) (with_page w child v (page w parent v))) (raised_rows (state m) rows_marked rows_shared entry.holds)
      (subst (λ x. Sim z lab (at_state m (with_rows (raised (with_rows (state m) rows_marked) entry.holds) rows_shared)) (with_page w child v x)) (sym (sim.pages parent v))
      (attached (remarked sim parent v there range (marked entry).copy) child v child_there range entry.holds (marked entry).copy (holds_marked child v ∙ old)
      (held_known (at_state m (with_rows (state m) rows_marked)) parent v entry.holds (holds_marked parent v))))

module _ {z : Sizes} {lab : ℕ → ℕ} {m : Machine} {w : World} (sim : Sim z lab m w) (parent child : ℕ) (there : living m parent ≡ true) (below : child < z.processes)
    (gone : living m child ≡ false) where
  other : parent ≢ child
  other e = both_ways (living m child) gone (ap (living m) (sym e) ∙ there)

  parent_below : parent < z.processes
  parent_below = there_below sim parent there

  -- the manager and the world once the child has its first n pages
  abbrev half : ℕ → State
  half n = with_rows (raised_row (state m) parent n) (shared_row (state m).rows parent child n)

  abbrev begun : Machine
  begun = with_alive m child true

  abbrev child_world : List Page → World
  child_world ps = with_process w child (record { alive = true; pages = ps })

  abbrev first : ℕ → List Page
  first n = copied (process w parent).pages z.pages n

  put_in_child : (ps : List Page) (n : ℕ) (x : Page) → with_page (child_world ps) child n x ≡ child_world (set ps n x)
  put_in_child ps n x =
      with_page_is (child_world ps) child n x
      ∙ ap (λ (q : Process). with_process (child_world ps) child (record { alive = q.alive; pages = set q.pages n x })) (process_put w child _ (omega (arith, sim.shape.processes)))
      ∙ put_twice w child _ _

  child_absent : (u : ℕ) → page w child u ≡ absent
  child_absent u = page_is w child u ∙ cond-false _ _ absent (sim.alive child ∙ gone)

  parent_page : (n u : ℕ) → page (child_world (first n)) parent u ≡ page w parent u
  parent_page n u = page_is _ parent u ∙ ap (λ (q : Process). page_of q u) (process_other w child parent _ other) ∙ sym (page_is w parent u)

  child_page : (n : ℕ) → page (child_world (first n)) child n ≡ absent
  child_page n =
      page_is _ child n ∙ ap (λ (q : Process). page_of q n) (process_put w child (record { alive = true; pages = first n }) (omega (arith, sim.shape.processes)))
      ∙ copied_rest (process w parent).pages z.pages n n (omega arith)

  -- both are there
  parent_there : living begun parent ≡ true
  parent_there = get_or-set_other m.alive child parent true false other ∙ there

  child_there : living begun child ≡ true
  child_there = get_or-set_same m.alive child true false (omega (arith, sim.shape.alive))

  -- page n is next, and the parent holds what it held
  record Forking (n : ℕ) : Type 0 where
    now : Sim z lab (at_state begun (half n)) (child_world (first n))
    same : (u : ℕ) → holds_at (half n).rows parent u ≡ holds m parent u

  child_holds : (n : ℕ) → Forking n → holds_at (half n).rows child n ≡ nothing
  child_holds n r = see_absent lab (half n).pages _ (sym (child_page n) ∙ r.now.pages child n)

  -- the page that the child gets
  gets : (n : ℕ) → page (child_world (first n)) parent n ≡ get_or (process w parent).pages n absent
  gets n = parent_page n n ∙ page_is w parent n ∙ cond-true _ _ absent (sim.alive parent ∙ there)

  forking : (n : ℕ) → n ≤ z.pages → Forking n
  unfolding copied raised_row shared_row
  forking zero h = record { now = flipped sim child true below child_absent; same = λ u. refl }
  forking (suc n) h =
      let r = forking n (omega arith) in
      let rows = shared_row (state m).rows parent child n in
      let next = shared_entry rows parent child n in
      let named : holds_at rows parent n ≡ holds m parent n = r.same n in
      let one : Sim z lab (at_state begun (with_rows (raised (half n) (holds_at rows parent n)) next)) (with_page (child_world (first n)) child n (page (child_world (first n)) parent n)) =
      shared r.now parent child n parent_there child_there other (omega arith) (child_holds n r) in
      record {
        now =
            subst (λ x. Sim z lab (at_state begun (half (suc n))) (child_world (set (first n) n x))) (gets n)
            (subst (Sim z lab (at_state begun (half (suc n)))) (put_in_child (first n) n _)
            (subst (λ s. Sim z lab (at_state begun s) (with_page (child_world (first n)) child n (page (child_world (first n)) parent n))) (ap (λ k. with_rows (raised (half n) k) next) named ∙ raised_rows (raised_row (state m) parent n) rows next (holds m parent n)) one));
        same = λ u. parent_keeps r.now parent child n parent_there child_there other (omega arith) u ∙ r.same u;
      }

  -- in the end the child is what its parent is
  forked_sim : Sim z lab (at_state begun (forked (state m) parent child z.pages)) (with_process w child (process w parent))
  unfolding forked
  forked_sim = subst (λ (q : Process). Sim z lab (at_state begun (half z.pages)) (with_process w child q)) same (forking z.pages (omega arith)).now
    where
      all : first z.pages ≡ (process w parent).pages
      all = subst (λ n. copied (process w parent).pages n n ≡ (process w parent).pages) (sim.shape.wide parent parent_below) (copied_all (process w parent).pages)

      same : record { alive = true; pages = first z.pages } ≡ process w parent
      same = λ i. record { alive = sym (sim.alive parent ∙ there) i; pages = all i }

module _ {z : Sizes} {lab : ℕ → ℕ} {m : Machine} {w : World} (sim : Sim z lab m w) (choose : Choice) (slots : SlotsTrue m) (p : ℕ) where
  -- both machines find the same free process, or none
  forks_to : living m p ≡ true → (r : Option ℕ) → lowest_absent 0 m.alive ≡ r → calls_by choose z m (fork p) ≡ fork_to z m p r →
      call z w (fork p)
      ≡ cond (leb z.processes (first_free w.processes)) (w, full) (with_process w (first_free w.processes) (process w p), done (first_free w.processes)) →
      Step choose z m w (fork p)
  forks_to there None is e f = refused choose z m w (fork p) full lab sim slots e (f ∙ cond-true _ _ _ (le-leb _ _ (no_process_left sim is)))
  forks_to there (Some c) is e f =
      let found = process_same sim c is in
      let next = forked (state m) p c z.pages in
      step_by choose z m w (fork p) (with_alive (changed m next) c true) (with_process w c (process w p)) (done c) lab e
      (f ∙ cond-false _ _ _ (lt-leb z.processes (first_free w.processes) (omega (arith, found.0, found.1))) ∙ ap (λ n. (with_process w n (process w p), done n)) found.0)
      (changed_sim (with_alive m c true) next (forked_sim sim p c there found.1 found.2)) (changed_true m next)

  pub fork_step : Step choose z m w (fork p)
  unfolding calls_by call
  fork_step =
      by_test choose z m w (fork p) lab sim slots (living m p) (process w p).alive _ _ refl (swap (process w p).alive _ _) (sim.alive p) (λ there e f. forks_to there (lowest_absent 0 m.alive) refl e f)
    where
      swap : (b : Bool) (x y : World × Answer) → cond (not b) x y ≡ cond b y x
      swap true x y = refl
      swap false x y = refl
