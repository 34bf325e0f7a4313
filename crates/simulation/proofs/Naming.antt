-- An absent page comes to name what another page names, or zeros, and a page is dropped: counts and lookers go with it.
use Rattle.std.proofs.Common.{◌≡◌, ℕ, ◌+◌, ◌<◌, Bool, true, cond, eqb, ◌≢◌, List, length, get_or, set, sym, refl, ap, ◌∙◌, subst, inl, inr, arith}
use Rattle.std.proofs.lemmas.List.{length-set, get_or-set_same, get_or-set_other}
use Rattle.std.proofs.lemmas.List.Sums.{sum_by-set}
use Rattle.std.proofs.lemmas.Bool.{cases_lt, cases_eq, cond-true, cond-false, cond_both, eq-eqb, ne_eqb, eqb-true, eqb-false}
use Rattle.fold.specs.Fold.{Sizes, World, absent, page, with_page}
use Rattle.fold.proofs.Pages.{page_with_page}
use Rattle.frames.specs.Counts.{counted_up, counted_down}
use Rattle.frames.proofs.Lowest.{counts_one}
use Rattle.tables.specs.Cells.{Held, Cell, none, nothing, zeros, at, segment}
use Rattle.tables.specs.Rows.{with_entry}
use Rattle.tables.specs.State.{State, with_rows}
use Rattle.disk.specs.Follows.{names}
use Rattle.copies.specs.Own.{with_state}
use Rattle.segments.specs.Release.{dropped, unnamed, given_back, lowered, with_lookers, with_segments}
use Rattle.calls.specs.Machine.{Machine, living, with_whole}
use Rattle.calls.specs.Calls.{holds, changed}
use Rattle.calls.specs.Pages.{raised}
use Rattle.simulation.specs.Over.{looks_at}
use Rattle.simulation.proofs.Sums.{over_below}
use Rattle.simulation.proofs.Sim.{Sim, state, see}
use Rattle.simulation.proofs.Users.{names_some, entry_names, no_segment_there, segment_names, lies_alone, count_small, lookers_small, nothing≢at, nothing≢segment}
use Rattle.simulation.proofs.Room.{segments_apart}
use Rattle.simulation.proofs.Entries.{entry_sim}
use Rattle.simulation.proofs.Step.{alike_sim}

-- m with other tables, and all else as it is
abbrev pub at_state : Machine → State → Machine
at_state m s = with_whole m (with_state m.whole s)

-- a purge of the slots is not seen
pub changed_sim : {z : Sizes} {lab : ℕ → ℕ} {w : World} (m : Machine) (s : State) → Sim z lab (at_state m s) w → Sim z lab (changed m s) w
changed_sim {z} {lab} {w} m s sim =
    alike_sim z lab (at_state m s) (changed m s) w w
    (record {
      frames = refl;
      tables = refl;
      processes_there = refl;
      alive = sim.alive;
      processes = refl;
      wide = sim.shape.wide;
      pages = λ p v. refl;
      segments = refl;
      next = refl;
    })
    sim

-- one more, and one less, at i
pub up_is : (cs : List ℕ) (i x : ℕ) → i < length cs → get_or cs i 0 < 65535 → get_or (counted_up cs i) x 0 ≡ get_or cs x 0 + cond (eqb x i) 1 0
up_is cs i x h small =
    let one = counts_one cs i h in
    elim (cases_eq x i) [
      | inl e ↦ omega (arith, ap (λ n. get_or (counted_up cs i) n 0) e, ap (λ n. get_or cs n 0) e, one.0 small, cond-true {A = ℕ} (eqb x i) 1 0 (eq-eqb x i e))
      | inr n ↦ omega (arith, (one.2 x n).0, cond-false {A = ℕ} (eqb x i) 1 0 (ne_eqb x i n))
    ]

pub down_is : (cs : List ℕ) (i x : ℕ) → i < length cs → 0 < get_or cs i 0 → get_or (counted_down cs i) x 0 + cond (eqb x i) 1 0 ≡ get_or cs x 0
down_is cs i x h some =
    let one = counts_one cs i h in
    elim (cases_eq x i) [
      | inl e ↦ omega (arith, ap (λ n. get_or (counted_down cs i) n 0) e, ap (λ n. get_or cs n 0) e, one.1 some, cond-true {A = ℕ} (eqb x i) 1 0 (eq-eqb x i e))
      | inr n ↦ omega (arith, (one.2 x n).1, cond-false {A = ℕ} (eqb x i) 1 0 (ne_eqb x i n))
    ]

looks_some : (s : ℕ) (h : Held) → 0 < looks_at s h → h ≡ segment s
looks_some s nothing k = absurd (omega arith)
looks_some s zeros k = absurd (omega arith)
looks_some s (at x) k = absurd (omega arith)
looks_some s (segment t) k =
    elim (cases_eq s t) [ inl e ↦ ap segment (sym e) | inr n ↦ absurd (omega (arith, cond-false {A = ℕ} (eqb s t) 1 0 (ne_eqb s t n))) ]

looks_one : (s : ℕ) → looks_at s (segment s) ≡ 1
looks_one s = cond-true _ 1 0 (eq-eqb s s refl)

-- what h names, some entry names
pub record Known (m : Machine) (h : Held) : Type 0 where
  pub located : (x : ℕ) → h ≡ at x → (q : ℕ) × (u : ℕ) × (holds m q u ≡ at x)
  pub looked : (s : ℕ) → h ≡ segment s → (q : ℕ) × (u : ℕ) × (holds m q u ≡ segment s)

-- nothing names nothing
nothing_known : {m : Machine} → Known m nothing
nothing_known = record { located = λ x e. absurd (nothing≢at x e); looked = λ s e. absurd (nothing≢segment s e) }

-- what an entry holds is known
pub held_known : (m : Machine) (q u : ℕ) (h : Held) → holds m q u ≡ h → Known m h
held_known m q u h e = record { located = λ x k. (q, u, e ∙ k); looked = λ s k. (q, u, e ∙ k) }

module _ {z : Sizes} {lab : ℕ → ℕ} {m : Machine} {w : World} (sim : Sim z lab m w) where
  pub segment_looked : (q u s : ℕ) → holds m q u ≡ segment s → (s < z.segments) × (0 < get_or (state m).lookers s 0)
  segment_looked q u s e =
      let h = sim.looks q u s e in
      (h, omega (arith, sim.lookers s h, over_below (looks_at s) refl (state m).rows q u, ap (looks_at s) e, looks_one s))

  -- where a segment lies, nothing that is known names
  not_named : (h : Held) → Known m h → (s x : ℕ) → s < z.segments → (get_or (state m).segments s none).holds ≡ at x → names x h ≡ 0
  not_named h k s x below lies =
      elim (cases_lt 0 (names x h)) [
        | inr none ↦ omega arith
        | inl some ↦
            let q = k.located x (names_some x h some) in absurd (omega (arith, no_segment_there sim q.0 q.1 x q.2, segment_names sim s x below lies))
      ]

  -- Only the entry, counts and lookers change, and every segment that is looked at still is.
  plain : (p v : ℕ) (c : Cell) (ls cs : List ℕ) → living m p ≡ true → v < z.pages → Known m c.holds → length ls ≡ length (state m).lookers → length cs ≡ length (state m).counts →
      ((x : ℕ) → x < z.hold → get_or cs x 0 + names x (holds m p v) ≡ get_or (state m).counts x 0 + names x c.holds) →
      ((s : ℕ) → s < z.segments → get_or ls s 0 + looks_at s (holds m p v) ≡ get_or (state m).lookers s 0 + looks_at s c.holds) →
      ((s : ℕ) → s < z.segments → 0 < get_or (state m).lookers s 0 → 0 < get_or ls s 0) →
      Sim z lab (at_state m (record { rows = with_entry (state m).rows p v c; segments = (state m).segments; lookers = ls; counts = cs; pages = (state m).pages; used = (state m).used }))
      (with_page w p v (see lab (state m).pages c.holds))
  unfolding with_page
  plain p v c ls cs a range known ll cl counts lookers stay =
      entry_sim sim
      (record {
        there = a;
        range = range;
        frames = refl;
        alive = refl;
        rows = refl;
        processes = refl;
        shows = refl;
        table_long = refl;
        lookers_long = ll;
        counts_long = cl;
        pages_long = refl;
        used_long = refl;
        segments_long = refl;
        next = omega arith;
        kept = λ q u x n e. (refl, refl);
        labels = λ x e. let k = known.located x e in sim.labels k.0 k.1 x k.2;
        apart = λ q u x y n e f l. let k = known.located x e in sim.apart k.0 k.1 q u x y k.2 f l;
        looks = λ s e. let k = known.looked s e in sim.looks k.0 k.1 s k.2;
        counts = λ x h. omega (arith, counts x h);
        lookers = lookers;
        lying = λ s h some.
            let l = sim.lying s h (was s h some) in
            record {
              where_it_is = l.where_it_is;
              at_it = l.at_it;
              within = l.within;
              alone =
                  omega (
                    arith,
                    counts l.where_it_is l.within,
                    l.alone,
                    not_named c.holds known s l.where_it_is h l.at_it,
                    not_named (holds m p v) (held_known m p v _ refl) s l.where_it_is h l.at_it,
                  );
              bytes = l.bytes;
            };
        idle = λ s h none. sim.idle s h (gone s h none);
      })
    where
      was : (s : ℕ) → s < z.segments → 0 < get_or ls s 0 → 0 < get_or (state m).lookers s 0
      was s h some =
          elim (cases_lt 0 (looks_at s c.holds)) [
            | inl new ↦ let k = known.looked s (looks_some s c.holds new) in (segment_looked k.0 k.1 s k.2).1
            | inr none ↦ omega (arith, lookers s h)
          ]

      gone : (s : ℕ) → s < z.segments → get_or ls s 0 ≡ 0 → get_or (state m).lookers s 0 ≡ 0
      gone s h none = elim (cases_lt 0 (get_or (state m).lookers s 0)) [ inl some ↦ absurd (omega (arith, stay s h some)) | inr zero ↦ omega arith ]

  module _ (p v : ℕ) (a : living m p ≡ true) (range : v < z.pages) where
    -- an entry that names as little as before: only it changes
    as_little : (c : Cell) → Known m c.holds → ((x : ℕ) → names x (holds m p v) ≡ names x c.holds) → ((s : ℕ) → looks_at s (holds m p v) ≡ looks_at s c.holds) →
        Sim z lab (at_state m (with_rows (state m) (with_entry (state m).rows p v c))) (with_page w p v (see lab (state m).pages c.holds))
    as_little c known named looked =
        plain p v c (state m).lookers (state m).counts a range known refl refl (λ x _. omega (arith, named x)) (λ s _. omega (arith, looked s)) (λ s _ some. some)

    -- an absent page comes to name what is known
    pub attached : (h : Held) (b : Bool) → holds m p v ≡ nothing → Known m h →
        Sim z lab (at_state m (with_rows (raised (state m) h) (with_entry (state m).rows p v (record { holds = h; copy = b })))) (with_page w p v (see lab (state m).pages h))
    attached nothing b old known = as_little _ known (λ x. ap (names x) old) (λ s. ap (looks_at s) old)
    attached zeros b old known = as_little _ known (λ x. ap (names x) old) (λ s. ap (looks_at s) old)
    attached (at y) b old known =
        let k = known.located y refl in
        let below = (sim.labels k.0 k.1 y k.2).0 in
        plain p v _ (state m).lookers (counted_up (state m).counts y) a range known refl (length-set (state m).counts y _)
        (λ x _. omega (arith, up_is (state m).counts y x (omega (arith, sim.shape.counts)) (count_small sim y below), ap (names x) old)) (λ s _. omega (arith, ap (looks_at s) old)) (λ s _ some. some)
    attached (segment t) b old known =
        let k = known.looked t refl in
        let below = sim.looks k.0 k.1 t k.2 in
        let up : (s : ℕ) → get_or (counted_up (state m).lookers t) s 0 ≡ get_or (state m).lookers s 0 + cond (eqb s t) 1 0 = λ s. up_is (state m).lookers t s (omega (arith, sim.shape.lookers)) (lookers_small sim t below) in
        plain p v _ (counted_up (state m).lookers t) (state m).counts a range known (length-set (state m).lookers t _) refl (λ x _. omega (arith, ap (names x) old))
        (λ s _. omega (arith, up s, ap (looks_at s) old)) (λ s _ some. omega (arith, up s))

    -- a mark is not seen
    pub remarked : (b : Bool) → Sim z lab (at_state m (with_rows (state m) (with_entry (state m).rows p v (record { holds = holds m p v; copy = b })))) w
    unfolding with_page
    remarked b =
        let now = as_little (record { holds = holds m p v; copy = b }) (held_known m p v _ refl) (λ x. refl) (λ s. refl) in
        alike_sim z lab _ _ _ w
        (record {
          frames = refl;
          tables = refl;
          processes_there = refl;
          alive = sim.alive;
          processes = sym (length-set w.processes p _);
          wide = sim.shape.wide;
          pages = λ q u.
              elim (page_with_page w p v q u (see lab (state m).pages (holds m p v))) [
                | inl e ↦ ap (λ n. page w n u) e.0 ∙ ap (page w p) e.1 ∙ sim.pages p v ∙ sym e.2
                | inr e ↦ sym e
              ];
          segments = refl;
          next = refl;
        })
        now

    -- the last who looked at segment t goes: the segment gives back location y, and lies nowhere
    last_left : (t y : ℕ) → holds m p v ≡ segment t → (get_or (state m).segments t none).holds ≡ at y → get_or (counted_down (state m).lookers t) t 0 ≡ 0 →
        Sim z lab (at_state m (record {
          rows = with_entry (state m).rows p v none;
          segments = set (state m).segments t none;
          lookers = counted_down (state m).lookers t;
          counts = counted_down (state m).counts y;
          pages = (state m).pages;
          used = (state m).used;
        }))
        (with_page w p v absent)
    unfolding with_page
    last_left t y old lies last =
        let there = segment_looked p v t old in
        let alone = lies_alone sim t y there.0 lies in
        let down : (s : ℕ) → get_or (counted_down (state m).lookers t) s 0 + cond (eqb s t) 1 0 ≡ get_or (state m).lookers s 0 = λ s. down_is (state m).lookers t s (omega (arith, there.0, sim.shape.lookers)) there.1 in
        let less : (x : ℕ) → get_or (counted_down (state m).counts y) x 0 + cond (eqb x y) 1 0 ≡ get_or (state m).counts x 0 = λ x. down_is (state m).counts y x (omega (arith, alone.0, sim.shape.counts)) (omega (arith, alone.1)) in
        entry_sim sim
        (record {
          there = a;
          range = range;
          frames = refl;
          alive = refl;
          rows = refl;
          processes = refl;
          shows = refl;
          table_long = length-set (state m).segments t none;
          lookers_long = length-set (state m).lookers t _;
          counts_long = length-set (state m).counts y _;
          pages_long = refl;
          used_long = refl;
          segments_long = refl;
          next = omega arith;
          kept = λ q u x n e. (refl, refl);
          labels = λ x e. absurd (nothing≢at x e);
          apart = λ q u x y n e f l. absurd (nothing≢at x e);
          looks = λ s e. absurd (nothing≢segment s e);
          counts = λ x h. omega (arith, less x, ap (names x) old, ap (names x) lies, sum_by-set (λ (c : Cell). names x c.holds) (state m).segments t none none (omega (arith, there.0, sim.shape.table)));
          lookers = λ s h. omega (arith, down s, ap (looks_at s) old);
          lying = λ s h some.
              let other : s ≢ t = λ e. absurd (omega (arith, last, ap (λ n. get_or (counted_down (state m).lookers t) n 0) e)) in
              let l = sim.lying s h (omega (arith, down s)) in
              let elsewhere : l.where_it_is ≢ y = λ e. other (segments_apart sim s t y h there.0 (l.at_it ∙ ap at e) lies) in
              record {
                where_it_is = l.where_it_is;
                at_it = ap (λ (c : Cell). c.holds) (get_or-set_other (state m).segments t s none none other) ∙ l.at_it;
                within = l.within;
                alone = omega (arith, less l.where_it_is, l.alone, cond-false {A = ℕ} (eqb l.where_it_is y) 1 0 (ne_eqb _ y elsewhere));
                bytes = l.bytes;
              };
          idle = λ s h gone.
              elim (cases_eq s t) [
                | inl e ↦ ap (λ n. (get_or (set (state m).segments t none) n none).holds) e ∙ ap (λ (c : Cell). c.holds) (get_or-set_same (state m).segments t none none (omega (arith, there.0, sim.shape.table)))
                | inr n ↦ ap (λ (c : Cell). c.holds) (get_or-set_other (state m).segments t s none none n) ∙ sim.idle s h (omega (arith, down s, cond-false {A = ℕ} (eqb s t) 1 0 (ne_eqb s t n)))
              ];
        })

    -- a segment that others look at too stays where it is
    left_there : (t : ℕ) → holds m p v ≡ segment t → 0 < get_or (counted_down (state m).lookers t) t 0 →
        Sim z lab (at_state m (with_lookers (with_rows (state m) (with_entry (state m).rows p v none)) (counted_down (state m).lookers t))) (with_page w p v absent)
    left_there t old some =
        let there = segment_looked p v t old in
        let down : (s : ℕ) → get_or (counted_down (state m).lookers t) s 0 + cond (eqb s t) 1 0 ≡ get_or (state m).lookers s 0 = λ s. down_is (state m).lookers t s (omega (arith, there.0, sim.shape.lookers)) there.1 in
        plain p v none (counted_down (state m).lookers t) (state m).counts a range nothing_known (length-set (state m).lookers t _) refl (λ x _. omega (arith, ap (names x) old))
        (λ s _. omega (arith, down s, ap (looks_at s) old))
        (λ s _ more.
        elim (cases_eq s t) [
          | inl e ↦ omega (arith, ap (λ n. get_or (counted_down (state m).lookers t) n 0) e)
          | inr n ↦ omega (arith, down s, cond-false {A = ℕ} (eqb s t) 1 0 (ne_eqb s t n))
        ])

    released_by : (h : Held) → holds m p v ≡ h → Sim z lab (at_state m (unnamed (with_rows (state m) (with_entry (state m).rows p v none)) h)) (with_page w p v absent)
    released_by nothing old = as_little none nothing_known (λ x. ap (names x) old) (λ s. ap (looks_at s) old)
    released_by zeros old = as_little none nothing_known (λ x. ap (names x) old) (λ s. ap (looks_at s) old)
    released_by (at y) old =
        let below = (sim.labels p v y old).0 in
        plain p v none (state m).lookers (counted_down (state m).counts y) a range nothing_known refl (length-set (state m).counts y _)
        (λ x _. omega (arith, down_is (state m).counts y x (omega (arith, sim.shape.counts)) (omega (arith, sim.counts y below, entry_names sim p v y old)), ap (names x) old))
        (λ s _. omega (arith, ap (looks_at s) old)) (λ s _ some. some)
    released_by (segment t) old =
        let there = segment_looked p v t old in
        let lies = sim.lying t there.0 there.1 in
        let less = with_lookers (with_rows (state m) (with_entry (state m).rows p v none)) (counted_down (state m).lookers t) in
        cond_both (eqb (get_or (counted_down (state m).lookers t) t 0) 0) (given_back less t) less (λ s. Sim z lab (at_state m s) (with_page w p v absent))
        (λ e. subst (λ h. Sim z lab (at_state m (with_segments (lowered less h) (set (state m).segments t none))) (with_page w p v absent)) (sym lies.at_it)
        (last_left t lies.where_it_is old lies.at_it (eqb-true _ 0 e)))
        (λ e. left_there t old (let n = eqb-false _ 0 e in omega arith))

    -- a page is dropped, whatever it names
    pub released : Sim z lab (at_state m (dropped (state m) p v)) (with_page w p v absent)
    unfolding dropped
    released = released_by (holds m p v) refl
