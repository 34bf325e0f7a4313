-- What has to be held, and what is free: as many pages as locations that something names, the same segment, and the same process.
use Rattle.std.proofs.Common.{◌≡◌, ℕ, zero, suc, ◌+◌, ◌-◌, ◌<◌, ◌≤◌, Bool, true, false, cond, not, eqb, ◌≢◌, List, [], ◌∷◌, length, get_or, take, drop, set, Some, None, sum_by, Option, sym, refl, ap, ◌∙◌, subst, inl, inr, add-one, arith, MatchOption}
use Rattle.std.proofs.lemmas.List.{length-set, length-take, length-drop, get_or-take, get_or-drop, get_or-set_other}
use Rattle.std.proofs.lemmas.List.Sums.{sum_by-set, get_or-le-sum_by}
use Rattle.std.proofs.lemmas.Bool.{cases_lt, cases_eq, cases_Bool, eqb-false, ne_eqb, not-true, not_from_false}
use Rattle.std.proofs.lemmas.Bool.Decides.{nat_tests}
use Rattle.fold.specs.Fold.{Process, Sizes, World, own, nobody, process, held, lookers, first_free, first_segment}
use Rattle.fold.proofs.Count.{one, count, count_same}
use Rattle.fold.proofs.Held.{label_held, label_held_of, label_held_from, segment_held, held_is}
use Rattle.frames.specs.Counts.{lowest_from, lowest_free}
use Rattle.frames.specs.Cut.{row}
use Rattle.frames.proofs.Lowest.{lowest_is_free}
use Rattle.tables.specs.Cells.{Held, Cell, none, nothing, zeros, at, segment}
use Rattle.disk.specs.Follows.{names, namers}
use Rattle.copies.specs.Laws.{UsedUp}
use Rattle.calls.specs.Machine.{Machine, living, lowest_absent}
use Rattle.calls.specs.Calls.{holds}
use Rattle.simulation.specs.Over.{over}
use Rattle.simulation.proofs.Sums.{over_member}
use Rattle.simulation.proofs.Sim.{Sim, state, see}
use Rattle.simulation.proofs.Users.{names_one, names_some, at_same, segment_there, segment_names, lies_alone, entry_names, no_segment_there, lookers_same}

-- a number that is not 0
abbrev pub some_of : ℕ → Bool
some_of n = not (eqb n 0)

some_of_true : (n : ℕ) → some_of n ≡ true → n ≢ 0
some_of_true n e = eqb-false n 0 (not-true _ e)

true_some_of : (n : ℕ) → n ≢ 0 → some_of n ≡ true
true_some_of n h = not_from_false _ (ne_eqb n 0 h)

-- a test that two others share out between them
count_shared : (p q r : ℕ → Bool) (n : ℕ) → ((i : ℕ) → i < n → one (p i) ≡ one (q i) + one (r i)) → count p n ≡ count q n + count r n
unfolding count
count_shared p q r zero h = refl
count_shared p q r (suc n) h = omega (arith, h n (omega arith), count_shared p q r n (λ i l. h i (omega arith)))

-- a count is at most the number of tests, and is that where all pass
count_most : (p : ℕ → Bool) (n : ℕ) → count p n ≤ n
unfolding count
count_most p zero = omega arith
count_most p (suc n) = elim (cases_Bool (p n)) [ inl t ↦ omega (arith, ap one t, count_most p n) | inr f ↦ omega (arith, ap one f, count_most p n) ]

count_all : (p : ℕ → Bool) (n : ℕ) → ((i : ℕ) → i < n → p i ≡ true) → count p n ≡ n
unfolding count
count_all p zero h = refl
count_all p (suc n) h = omega (arith, ap one (h n (omega arith)), count_all p n (λ i l. h i (omega arith)))

count_full : (p : ℕ → Bool) (n : ℕ) → n ≤ count p n → (i : ℕ) → i < n → p i ≡ true
unfolding count
count_full p zero h i l = absurd (omega arith)
count_full p (suc n) h i l =
    elim (cases_Bool (p n)) [
      | inr f ↦ absurd (omega (arith, ap one f, count_most p n))
      | inl t ↦ elim (cases_eq i n) [ inl e ↦ ap p e ∙ t | inr d ↦ count_full p n (omega (arith, ap one t)) i (omega arith) ]
    ]

-- a search for a count 0 that finds none, and one that cannot find any
none_free : (cs : List ℕ) → lowest_free cs ≡ None → (k : ℕ) → k < length cs → get_or cs k 0 ≢ 0
none_free cs e = subst (λ r. MatchOption r ((k : ℕ) → k < length cs → get_or cs k 0 ≢ 0) (λ i. (i < length cs) × (get_or cs i 0 ≡ 0) × ((k : ℕ) → k < i → get_or cs k 0 ≢ 0))) e (lowest_is_free cs)

all_named : (cs : List ℕ) → ((k : ℕ) → k < length cs → get_or cs k 0 ≢ 0) → lowest_free cs ≡ None
all_named cs h = from (lowest_free cs) (lowest_is_free cs)
  where
    from : (r : Option ℕ) → MatchOption r ((k : ℕ) → k < length cs → get_or cs k 0 ≢ 0) (λ i. (i < length cs) × (get_or cs i 0 ≡ 0) × ((k : ℕ) → k < i → get_or cs k 0 ≢ 0)) → r ≡ None
    from None n = refl
    from (Some i) s = absurd (h i s.0 s.1)

-- Two searches from number i on agree: one counts from i, and answers n if it finds nothing.
abbrev Agrees : ℕ → ℕ → ℕ → Option ℕ → Type 0
Agrees i n k None = k ≡ n
Agrees i n k (Some r) = (r ≡ i + k) × (k < n)

agrees_later : (i n k : ℕ) (r : Option ℕ) → Agrees (i + 1) n k r → Agrees i (suc n) (suc k) r
agrees_later i n k None a = ap suc a
agrees_later i n k (Some r) a = (omega (arith, a.0), omega (arith, a.1))

agrees_step : (b : Bool) (i n k : ℕ) (r : Option ℕ) → Agrees (i + 1) n k r → Agrees i (suc n) (cond b 0 (suc k)) (cond b (Some i) r)
agrees_step true i n k r a = (omega arith, omega arith)
agrees_step false i n k r a = agrees_later i n k r a

-- the searches for a process
processes_agree : (i : ℕ) (bs : List Bool) (qs : List Process) → length qs ≡ length bs → ((j : ℕ) → (get_or qs j nobody).alive ≡ get_or bs j false) → Agrees i (length qs) (first_free qs) (lowest_absent i bs)
unfolding lowest_absent first_free
processes_agree i [] [] l h = refl
processes_agree i [] (q ∷ qs) l h = absurd (omega arith)
processes_agree i (b ∷ bs) [] l h = absurd (omega arith)
processes_agree i (true ∷ bs) (q ∷ qs) l h =
    rw (h 0) (agrees_later i (length qs) (first_free qs) (lowest_absent (i + 1) bs) (processes_agree (i + 1) bs qs (omega arith) (λ j. h (suc j))))
processes_agree i (false ∷ bs) (q ∷ qs) l h = rw (h 0) (omega arith, omega arith)

-- the process that is found is not there
first_free_gone : (qs : List Process) → (get_or qs (first_free qs) nobody).alive ≡ false
unfolding first_free
first_free_gone [] = refl
first_free_gone (q ∷ qs) =
    elim (cases_Bool q.alive)
    [ inl t ↦ rw t (first_free_gone qs) | inr f ↦ rw f ]

module _ {z : Sizes} {lab : ℕ → ℕ} {m : Machine} {w : World} (sim : Sim z lab m w) where
  -- a page with a label other than 0 is at the location of that label
  pub own_at : (p v l : ℕ) (ws : List ℕ) → l ≢ 0 → (h : Held) → holds m p v ≡ h → see lab (state m).pages h ≡ own l ws → (x : ℕ) × (holds m p v ≡ at x) × (lab x ≡ l)
  own_at p v l ws n nothing e k = let f : ◌≡◌ {A = ℕ} 0 1 = cc in absurd (omega arith)
  own_at p v l ws n (segment s) e k = let f : ◌≡◌ {A = ℕ} 0 1 = cc in absurd (omega arith)
  own_at p v l ws n zeros e k = let f : 0 ≡ l = cc in absurd (omega arith)
  own_at p v l ws n (at x) e k = (x, e, cc)

  -- Labels in use and locations that entries name are one to one.
  labels_same : count (label_held w) w.next ≡ count (λ x. some_of (over (names x) (state m).rows)) z.hold
  labels_same =
      count_same _ _ _ _ (λ l x. (lab x ≡ l) × (p : ℕ) × (v : ℕ) × (holds m p v ≡ at x))
      (λ l k h. let u = label_held_of w l h in
      let a = own_at u.1.0 u.1.1 l u.1.2 u.0 (holds m u.1.0 u.1.1) refl (sym (sim.pages _ _) ∙ u.1.3) in
      let named : over (names a.0) (state m).rows ≢ 0 = omega (arith, entry_names sim u.1.0 u.1.1 a.0 a.1) in
      (a.0, (sim.labels _ _ _ a.1).0, true_some_of _ named, (a.2, u.1.0, u.1.1, a.1)))
      (λ x k h. let some : over (names x) (state m).rows ≢ 0 = some_of_true _ h in
      let e = over_member (names x) (state m).rows (omega arith) in
      let is : holds m e.0 e.1 ≡ at x = names_some x _ e.4 in
      let l = sim.labels e.0 e.1 x is in
      (lab x, l.2, label_held_from w (lab x) l.1 (e.0, e.1, row (state m).pages x, sim.pages _ _ ∙ ap (see lab (state m).pages) is), (refl, e.0, e.1, is)))
      (λ i k j a b. sym a.0 ∙ b.0)
      (λ i j k a b. sim.apart a.1 a.2 b.1 b.2 j k a.3 b.3 (a.0 ∙ sym b.0))

  -- two segments never lie at one location: it would have two names
  pub segments_apart : (s t x : ℕ) → s < z.segments → t < z.segments → (get_or (state m).segments s none).holds ≡ at x → (get_or (state m).segments t none).holds ≡ at x → s ≡ t
  segments_apart s t x h k e f =
      let one = lies_alone sim s x h e in
      let g : Cell → ℕ = λ c. names x c.holds in
      let without : sum_by g (set (state m).segments s none) + g (get_or (state m).segments s none) ≡ namers x (state m).segments + 0 =
      sum_by-set g (state m).segments s none none (omega (arith, sim.shape.table)) in
      elim (cases_eq t s) [
        | inl same ↦ sym same
        | inr other ↦
            let second : g (get_or (set (state m).segments s none) t none) ≤ sum_by g (set (state m).segments s none) =
            get_or-le-sum_by g (set (state m).segments s none) t none (omega (arith, sim.shape.table, length-set (state m).segments s none)) in
            absurd (omega (
              arith,
              one.1,
              sim.counts x one.0,
              ap g (get_or-set_other (state m).segments s t none none other),
              ap (names x) e,
              ap (names x) f,
              names_one x,
            ))
      ]

  -- Segments that somebody looks at and locations that segments name are one to one.
  segments_same : count (segment_held w) (length w.segments) ≡ count (λ x. some_of (namers x (state m).segments)) z.hold
  segments_same =
      count_same _ _ _ _ (λ s x. (s < z.segments) × ((get_or (state m).segments s none).holds ≡ at x))
      (λ s k h. let there : s < z.segments = omega (arith, sim.shape.segments) in
      let some : lookers w s ≢ 0 = some_of_true _ h in
      let l = sim.lying s there (omega (arith, lookers_same sim s there)) in
      let named : namers l.where_it_is (state m).segments ≢ 0 = omega (arith, segment_names sim s l.where_it_is there l.at_it) in
      (l.where_it_is, l.within, true_some_of _ named, (there, l.at_it)))
      (λ x k h. let some : namers x (state m).segments ≢ 0 = some_of_true _ h in
      let s = segment_there sim x (omega arith) in
      let looked : lookers w s.0 ≢ 0 = omega (arith, lookers_same sim s.0 s.1, (lies_alone sim s.0 x s.1 s.2).2) in
      (s.0, omega (arith, s.1, sim.shape.segments), true_some_of _ looked, (s.1, s.2)))
      (λ s t x a b. segments_apart s t x a.0 b.0 a.1 b.1)
      (λ s x y a b. at_same x y (sym a.1 ∙ b.1))

  -- What has to be held is as much as there are locations with a count. Where an entry names a location, no segment does.
  pub held_same : held w ≡ count (λ x. not (eqb (get_or (state m).counts x 0) 0)) z.hold
  held_same =
      held_is w ∙ (λ i. labels_same i + segments_same i)
      ∙ sym (count_shared _ _ _ z.hold (λ x h. parts (over (names x) (state m).rows) (namers x (state m).segments) _ (sim.counts x h) (only x)))
    where
      only : (x : ℕ) → 0 < over (names x) (state m).rows → namers x (state m).segments ≡ 0
      only x h = let e = over_member (names x) (state m).rows h in no_segment_there sim e.0 e.1 x (names_some x _ e.4)

      parts : (a b n : ℕ) → n ≡ a + b → (0 < a → b ≡ 0) → one (some_of n) ≡ one (some_of a) + one (some_of b)
      parts a b n e h =
          elim (cases_lt 0 a) [
            | inl l ↦ let none = h l in grind (arith, nat_tests)
            | inr k ↦ grind (arith, nat_tests)
          ]

  -- No frame and no place is free exactly where every location has a count, and so where all that can be held is held.
  pub used_up_full : UsedUp m.frames m.whole → z.hold ≤ held w
  used_up_full u = omega (arith, held_same, count_all _ z.hold (λ x h. true_some_of _ (named x h)))
    where
      named : (x : ℕ) → x < z.hold → get_or (state m).counts x 0 ≢ 0
      named x h =
          elim (cases_lt x m.frames) [
            | inl l ↦ subst (λ n. n ≢ 0) (get_or-take m.frames (state m).counts x 0 l) (none_free (take m.frames (state m).counts) u.frame x (simp length-take (omega (arith, sim.shape.counts))))
            | inr g ↦
                subst (λ n. n ≢ 0) (get_or-drop m.frames (state m).counts (x - m.frames) 0 ∙ ap (λ i. get_or (state m).counts i 0) (let e : m.frames + (x - m.frames) ≡ x = omega arith in e))
                (none_free (drop m.frames (state m).counts) u.place (x - m.frames) (simp length-drop (omega (arith, sim.shape.counts))))
          ]

  pub full_used_up : z.hold ≤ held w → UsedUp m.frames m.whole
  full_used_up f =
      record {
        frame = all_named (take m.frames (state m).counts) (λ k h. let l : k < m.frames = omega (arith, length-take m.frames (state m).counts) in
            subst (λ n. n ≢ 0) (sym (get_or-take m.frames (state m).counts k 0 l)) (named k (omega (arith, sim.shape.within))));
        place = all_named (drop m.frames (state m).counts) (λ k h. subst (λ n. n ≢ 0) (sym (get_or-drop m.frames (state m).counts k 0)) (named (m.frames + k) (omega (arith, sim.shape.counts, length-drop m.frames (state m).counts))));
      }
    where
      named : (x : ℕ) → x < z.hold → get_or (state m).counts x 0 ≢ 0
      named x h = some_of_true _ (count_full (λ y. some_of (get_or (state m).counts y 0)) z.hold (omega (arith, held_same)) x h)

  -- the search for a segment
  segments_agree : (i : ℕ) (cs : List ℕ) (ss : List (List ℕ)) → length ss ≡ length cs → ((j k : ℕ) → j < length cs → k ≡ i + j → lookers w k ≡ get_or cs j 0) → Agrees i (length ss) (first_segment w i ss) (lowest_from i cs)
  unfolding lowest_from first_segment
  segments_agree i [] [] l h = refl
  segments_agree i [] (s ∷ ss) l h = absurd (omega arith)
  segments_agree i (c ∷ cs) [] l h = absurd (omega arith)
  segments_agree i (c ∷ cs) (s ∷ ss) l h =
      let here : lookers w i ≡ c = h 0 i (omega arith) (omega arith) in
      let rest : Agrees (i + 1) (length ss) (first_segment w (i + 1) ss) (lowest_from (i + 1) cs) = segments_agree (i + 1) cs ss (omega arith) (λ j k l e. h (suc j) k (omega arith) (omega arith)) in
      rw here (agrees_step (eqb c 0) i _ _ _ (subst (λ k. Agrees (i + 1) (length ss) (first_segment w k ss) (lowest_from (i + 1) cs)) (add-one i) rest))

  segment_agrees : Agrees 0 (length w.segments) (first_segment w 0 w.segments) (lowest_free (state m).lookers)
  segment_agrees =
      segments_agree 0 (state m).lookers w.segments (sim.shape.segments ∙ sym sim.shape.lookers) (λ s k h e. ap (lookers w) (let same : k ≡ s = omega arith in same) ∙ lookers_same sim s (omega (arith, sim.shape.lookers)))

  -- The manager finds the segment that the private machine finds, or none where it finds none.
  pub segment_same : (s : ℕ) → lowest_free (state m).lookers ≡ Some s → (first_segment w 0 w.segments ≡ s) × (s < z.segments)
  segment_same s e = let a = subst (Agrees 0 _ _) e segment_agrees in (omega (arith, a.0), omega (arith, a.0, a.1, sim.shape.segments))

  pub no_segment_left : lowest_free (state m).lookers ≡ None → z.segments ≤ first_segment w 0 w.segments
  no_segment_left e = omega (arith, subst (Agrees 0 _ _) e segment_agrees, sim.shape.segments)

  process_agrees : Agrees 0 (length w.processes) (first_free w.processes) (lowest_absent 0 m.alive)
  unfolding process
  process_agrees = processes_agree 0 m.alive w.processes (sim.shape.processes ∙ sym sim.shape.alive) sim.alive

  -- And so for a process, which is then not there.
  pub process_same : (c : ℕ) → lowest_absent 0 m.alive ≡ Some c → (first_free w.processes ≡ c) × (c < z.processes) × (living m c ≡ false)
  unfolding process
  process_same c e =
      let a = subst (Agrees 0 _ _) e process_agrees in
      let is : first_free w.processes ≡ c = omega (arith, a.0) in
      (is, omega (arith, a.1, sim.shape.processes), sym (sim.alive c) ∙ ap (λ i. (process w i).alive) (sym is) ∙ first_free_gone w.processes)

  pub no_process_left : lowest_absent 0 m.alive ≡ None → z.processes ≤ first_free w.processes
  no_process_left e = omega (arith, subst (Agrees 0 _ _) e process_agrees, sim.shape.processes)
