-- A segment is made: both machines find the same segment and are full together, and it lies in the frame that was taken, all zeros.
use Rattle.std.proofs.Common.{◌≡◌, ℕ, ◌+◌, ◌<◌, Bool, true, false, cond, not, ◌&&◌, ◌||◌, eqb, leb, ◌≢◌, List, [], length, get_or, set, replicate, Some, None, Option, sym, refl, ap, ◌∙◌, subst, inl, inr, arith, MatchOption}
use Rattle.std.proofs.lemmas.List.{length-set, get_or-set_same, get_or-set_other}
use Rattle.std.proofs.lemmas.List.Sums.{sum_by-set}
use Rattle.std.proofs.lemmas.Bool.{cases_eq, cases_lt, cond-true, cond-false, ne_eqb, le-leb, lt-leb, or_left, or_right, or_from, eq-eqb}
use Rattle.fold.specs.Fold.{Sizes, World, Answer, seen, with_page, call, make, done, full, held, first_segment}
use Rattle.frames.specs.Counts.{counted_up, lowest_free}
use Rattle.frames.proofs.Lowest.{lowest_is_free}
use Rattle.frames.specs.Cut.{row}
use Rattle.tables.specs.Cells.{Cell, none, nothing, segment}
use Rattle.disk.specs.declared.registers.Taken.{Taken}
use Rattle.disk.specs.Whole.{Choice, Whole, take_frame}
use Rattle.disk.specs.Follows.{names}
use Rattle.disk.proofs.Taking.{none_only_if_full}
use Rattle.copies.specs.Stores.{own_cell}
use Rattle.segments.specs.declared.make.Made.{Made}
use Rattle.segments.specs.Full.{NoRoom}
use Rattle.segments.specs.Make.{made_in, made_by, make_of, make_segment}
use Rattle.segments.specs.Release.{looked}
use Rattle.segments.proofs.Full.{make_full_exactly}
use Rattle.calls.specs.Machine.{Machine, living, with_whole}
use Rattle.calls.specs.Calls.{holds, calls_by, changed, made}
use Rattle.simulation.specs.Over.{looks_at}
use Rattle.simulation.proofs.Sim.{Lying, Sim, SlotsTrue, state, see}
use Rattle.simulation.proofs.Users.{entry_names, lookers_same}
use Rattle.simulation.proofs.Room.{used_up_full, full_used_up, segment_same, no_segment_left}
use Rattle.simulation.proofs.Step.{Step, step_by, refused, by_test, changed_true}
use Rattle.simulation.proofs.Entries.{entry_sim}
use Rattle.simulation.proofs.Naming.{at_state, changed_sim, up_is}
use Rattle.simulation.proofs.EntryCalls.{inside_same, there_same, vacant}
use Rattle.simulation.proofs.Fork.{see_absent}

-- A frame was taken: what is seen is as before, and nobody names the frame.
pub record FrameGiven (z : Sizes) (m : Machine) (w : World) (u : Whole) (f : ℕ) : Type 0 where
  pub lab : ℕ → ℕ
  pub sim : Sim z lab (with_whole m u) w
  pub within : f < m.frames
  pub free : get_or u.state.counts f 0 ≡ 0

none≢some : (r : Made) → None ≡ Some r → ⊥
none≢some r e = let z : ◌≡◌ {A = ℕ} 0 1 = cc in omega arith

-- the world with segment s made
abbrev world_made : Sizes → World → ℕ → ℕ → ℕ → World
world_made z w p v s = record { processes = (with_page w p v (seen s)).processes; segments = set w.segments s (replicate z.words 0); next = w.next }

module _ {z : Sizes} {lab : ℕ → ℕ} {m : Machine} {w : World} (sim : Sim z lab m w) (p v s f : ℕ) (a : living m p ≡ true) (range : v < z.pages) (old : holds m p v ≡ nothing)
    (below : s < z.segments) (nobody-looks : get_or (state m).lookers s 0 ≡ 0) (within : f < m.frames) (free : get_or (state m).counts f 0 ≡ 0) where
  hold : f < z.hold
  hold = omega (arith, sim.shape.within)

  up : (x : ℕ) → get_or (counted_up (state m).counts f) x 0 ≡ get_or (state m).counts x 0 + cond (eqb x f) 1 0
  up x = up_is (state m).counts f x (omega (arith, hold, sim.shape.counts)) (omega arith)

  more : (t : ℕ) → get_or (counted_up (state m).lookers s) t 0 ≡ get_or (state m).lookers t 0 + cond (eqb t s) 1 0
  more t = up_is (state m).lookers s t (omega (arith, sim.shape.lookers)) (omega arith)

  -- a location with a count is not the frame, and keeps its bytes and its count
  elsewhere : (x : ℕ) → 0 < get_or (state m).counts x 0 → x ≢ f
  elsewhere x some e = absurd (omega (arith, ap (λ n. get_or (state m).counts n 0) e))

  bytes_stay : (x : ℕ) → x ≢ f → row (set (state m).pages f (replicate 256 0)) x ≡ row (state m).pages x
  bytes_stay x n = get_or-set_other (state m).pages f x (replicate 256 0) [] n

  made_sim : Sim z lab (at_state m (made_in (state m) p v s f)) (world_made z w p v s)
  unfolding made_in looked
  made_sim =
      entry_sim {c = record { holds = segment s; copy = false }} {shown = seen s} sim
      (record {
        there = a;
        range = range;
        frames = refl;
        alive = refl;
        rows = refl;
        processes = refl;
        shows = refl;
        table_long = length-set (state m).segments s (own_cell f);
        lookers_long = length-set (state m).lookers s _;
        counts_long = length-set (state m).counts f _;
        pages_long = length-set (state m).pages f _;
        used_long = refl;
        segments_long = length-set w.segments s _;
        next = omega arith;
        kept = λ q u x n e. (refl, bytes_stay x (elsewhere x (omega (arith, sim.counts x (sim.labels q u x e).0, entry_names sim q u x e))));
        labels = λ x e. absurd (let z : ◌≡◌ {A = ℕ} 0 1 = cc in omega arith);
        apart = λ q u x y n e k l. absurd (let z : ◌≡◌ {A = ℕ} 0 1 = cc in omega arith);
        looks = λ t e. let same : s ≡ t = cc in omega arith;
        counts = λ x h. omega (
          arith,
          up x,
          ap (names x) old,
          ap (names x) (sim.idle s below nobody-looks),
          sum_by-set (λ (c : Cell). names x c.holds) (state m).segments s (own_cell f) none (omega (arith, sim.shape.table)),
        );
        lookers = λ t h. omega (arith, more t, ap (looks_at t) old);
        lying = λ t h some. elim (cases_eq t s) [ inl e ↦ subst (Lying z _ _) (sym e) here | inr n ↦ others t h n some ];
        idle = λ t h gone.
            elim (cases_eq t s) [
              | inl e ↦ absurd (omega (arith, more t, cond-true {A = ℕ} (eqb t s) 1 0 (eq-eqb t s e)))
              | inr n ↦ ap (λ (c : Cell). c.holds) (get_or-set_other (state m).segments s t (own_cell f) none n) ∙ sim.idle t h (omega (arith, more t))
            ];
      })
    where
      here : Lying z (at_state m (made_in (state m) p v s f)) (world_made z w p v s) s
      here =
          record {
            where_it_is = f;
            at_it = ap (λ (c : Cell). c.holds) (get_or-set_same (state m).segments s (own_cell f) none (omega (arith, sim.shape.table)));
            within = hold;
            alone = omega (arith, up f, cond-true {A = ℕ} (eqb f f) 1 0 (eq-eqb f f refl));
            bytes =
                get_or-set_same (state m).pages f (replicate 256 0) [] (omega (arith, hold, sim.shape.pages)) ∙ ap (λ n. replicate n 0) (sym sim.shape.words)
                ∙ sym (get_or-set_same w.segments s (replicate z.words 0) [] (omega (arith, sim.shape.segments)));
          }

      others : (t : ℕ) → t < z.segments → t ≢ s → 0 < get_or (counted_up (state m).lookers s) t 0 → Lying z (at_state m (made_in (state m) p v s f)) (world_made z w p v s) t
      others t h n some =
          let l = sim.lying t h (omega (arith, more t, cond-false {A = ℕ} (eqb t s) 1 0 (ne_eqb t s n))) in
          let away = elsewhere l.where_it_is (omega (arith, l.alone)) in
          record {
            where_it_is = l.where_it_is;
            at_it = ap (λ (c : Cell). c.holds) (get_or-set_other (state m).segments s t (own_cell f) none n) ∙ l.at_it;
            within = l.within;
            alone = omega (arith, up l.where_it_is, l.alone, cond-false {A = ℕ} (eqb l.where_it_is f) 1 0 (ne_eqb _ f away));
            bytes = bytes_stay l.where_it_is away ∙ l.bytes ∙ sym (get_or-set_other w.segments s t (replicate z.words 0) [] n);
          }

module _ {z : Sizes} {lab : ℕ → ℕ} {m : Machine} {w : World} (sim : Sim z lab m w) (choose : Choice) (slots : SlotsTrue m) (p v : ℕ)
    (given : (t : Taken) → (take_frame choose m.frames m.whole).1 ≡ Some t → FrameGiven z m w (take_frame choose m.frames m.whole).0 t.frame) where
  abbrev makes : Whole × Option Made
  makes = make_segment choose m.frames m.whole p v

  -- the test of the private machine for room, and what it does by it
  abbrev is_full : Bool
  is_full = leb z.segments (first_segment w 0 w.segments) || leb z.hold (held w)

  abbrev by_room : World × Answer
  by_room = cond is_full (w, full) (world_made z w p v (first_segment w 0 w.segments), done (first_segment w 0 w.segments))

  full_both : NoRoom m.frames m.whole → is_full ≡ true
  full_both r = elim r [ inl e ↦ or_left _ _ (le-leb _ _ (no_segment_left sim e)) | inr u ↦ or_right _ _ (le-leb _ _ (used_up_full sim u)) ]

  no_room : NoRoom m.frames m.whole → calls_by choose z m (make p v) ≡ made m makes.0 makes.1 → call z w (make p v) ≡ by_room → Step choose z m w (make p v)
  no_room r e f =
      refused choose z m w (make p v) full lab sim slots (e ∙ ap (λ (q : Whole × Option Made). made m q.0 q.1) ((make_full_exactly choose m.frames m.whole p v).then r))
      (f ∙ cond-true is_full _ _ (full_both r))

  -- a frame was given, so not all that can be held is held
  room_both : (s : ℕ) (u : Whole) (r : Made) → lowest_free (state m).lookers ≡ Some s → makes ≡ (u, Some r) → is_full ≡ false
  room_both s u r is made =
      let found = segment_same sim s is in
      or_from _ _ (lt-leb z.segments (first_segment w 0 w.segments) (omega (arith, found.0, found.1)))
      (elim (cases_lt (held w) z.hold) [
        | inl some ↦ lt-leb _ _ some
        | inr none ↦ absurd (none≢some r (sym (ap (λ (q : Whole × Option Made). q.1) ((make_full_exactly choose m.frames m.whole p v).then (inr (full_used_up sim none)))) ∙ ap (λ (q : Whole × Option Made). q.1) made))
      ])

  -- nobody looks at the segment that is found
  free_segment : (s : ℕ) → lowest_free (state m).lookers ≡ Some s → get_or (state m).lookers s 0 ≡ 0
  free_segment s is =
      let ls : List ℕ = (state m).lookers in
      (subst (λ r. MatchOption r ((k : ℕ) → k < length ls → get_or ls k 0 ≢ 0) (λ i. (i < length ls) × (get_or ls i 0 ≡ 0) × ((k : ℕ) → k < i → get_or ls k 0 ≢ 0))) is (lowest_is_free ls)).1

  goes : living m p ≡ true → v < z.pages → holds m p v ≡ nothing → (s : ℕ) (t : Taken) → lowest_free (state m).lookers ≡ Some s → (take_frame choose m.frames m.whole).1 ≡ Some t →
      calls_by choose z m (make p v) ≡ made m makes.0 makes.1 → call z w (make p v) ≡ by_room → Step choose z m w (make p v)
  unfolding make_segment
  goes a range old s t is took e f =
      let g = given t took in
      let u = (take_frame choose m.frames m.whole).0 in
      let now = made_in u.state p v s t.frame in
      let found = segment_same sim s is in
      let makes-it = ap (make_of choose m.frames m.whole p v) is ∙ ap (made_by m.frames u p v s) took in
      let absent-still : holds (with_whole m u) p v ≡ nothing = see_absent g.lab u.state.pages _ (sym (sim.pages p v ∙ ap (see lab (state m).pages) old) ∙ g.sim.pages p v) in
      let nobody-still : get_or u.state.lookers s 0 ≡ 0 = sym (lookers_same g.sim s found.1) ∙ lookers_same sim s found.1 ∙ free_segment s is in
      step_by choose z m w (make p v) (changed (with_whole m u) now) (world_made z w p v s) (done s) g.lab
      (e ∙ ap (λ (q : Whole × Option Made). made m q.0 q.1) makes-it)
      (f ∙ cond-false is_full _ _ (room_both s _ _ is makes-it) ∙ ap (λ n. (world_made z w p v n, done n)) found.0)
      (changed_sim (with_whole m u) now (made_sim g.sim p v s t.frame a range absent-still found.1 nobody-still g.within g.free))
      (changed_true (with_whole m u) now)

  pub make_step : Step choose z m w (make p v)
  unfolding calls_by call
  make_step =
      by_test choose z m w (make p v) lab sim slots _ _ _ _ refl refl (λ i. inside_same sim p v i && not (there_same sim p v i))
      (λ may e f. let h = vacant sim p v may in by_segment h.0 h.1 h.2 (lowest_free (state m).lookers) refl (take_frame choose m.frames m.whole).1 refl e f)
    where
      by_segment : living m p ≡ true → v < z.pages → holds m p v ≡ nothing → (s : Option ℕ) → lowest_free (state m).lookers ≡ s → (t : Option Taken) → (take_frame choose m.frames m.whole).1 ≡ t →
          calls_by choose z m (make p v) ≡ made m makes.0 makes.1 → call z w (make p v) ≡ by_room → Step choose z m w (make p v)
      by_segment a range old None is t took e f = no_room (inl is) e f
      by_segment a range old (Some s) is None took e f =
          let l = none_only_if_full choose m.frames m.whole took in no_room (inr (record { frame = l.frame; place = l.place })) e f
      by_segment a range old (Some s) is (Some t) took e f = goes a range old s t is took e f
