-- An own page comes to lie at a location that nobody else names, with other bytes: nobody else sees it.
use Rattle.std.proofs.Common.{◌≡◌, ℕ, suc, ◌+◌, ◌<◌, ◌≤◌, true, cond, eqb, leb, ◌≢◌, List, [], length, get_or, set, Option, sym, refl, ap, ◌∙◌, subst, arith}
use Rattle.std.proofs.lemmas.List.{get_or-set_other, get_or-set_same, length-set}
use Rattle.std.proofs.lemmas.Bool.{cond-false, cond-true, eq-eqb, le-leb, ne_eqb}
use Rattle.fold.specs.Fold.{Sizes, World, own, with_page}
use Rattle.frames.specs.Counts.{counted_down, counted_up}
use Rattle.tables.specs.Cells.{Cell, zeros, at}
use Rattle.tables.specs.Rows.{with_entry}
use Rattle.tables.specs.State.{State, lies, walk, walked}
use Rattle.lookaside.specs.declared.slots.Slot.{Slot}
use Rattle.disk.specs.Follows.{names}
use Rattle.calls.specs.Machine.{Machine, living, with_whole}
use Rattle.calls.specs.Calls.{holds}
use Rattle.simulation.specs.Over.{looks_at}
use Rattle.simulation.proofs.Entries.{EntryChanged, Other, each, entry_sim, holds_here}
use Rattle.simulation.proofs.Naming.{down_is, up_is}
use Rattle.simulation.proofs.Sim.{Lying, Sim, see, state}
use Rattle.simulation.proofs.Sums.{over_below, over_two}
use Rattle.simulation.proofs.Users.{at_same, names_one, segment_names}

-- Page v of p, an own page, comes to lie at f, which no other names, with the label l. The counts are cs then, and all labels are below n.
pub record Put (z : Sizes) (lab : ℕ → ℕ) (m : Machine) (w : World) (p v f l n : ℕ) (cs : List ℕ) : Type 0 where
  pub alive : living m p ≡ true
  pub range : v < z.pages
  pub within : f < z.hold
  -- only this page may name f, and it looks at no segment
  pub only : get_or (state m).counts f 0 ≤ names f (holds m p v)
  pub unlooked : (s : ℕ) → looks_at s (holds m p v) ≡ 0
  -- one more names f, and one less what the page was
  pub long : length cs ≡ length (state m).counts
  pub right : (x : ℕ) → x < z.hold → get_or cs x 0 + names x (holds m p v) ≡ get_or (state m).counts x 0 + names x (at f)
  -- the label was given out, and no other page has it
  pub some : l ≢ 0
  pub given : l < n
  pub grows : w.next ≤ n
  pub new : (q u y : ℕ) → holds m q u ≡ at y → lab y ≡ l → y ≡ f

-- the labels then, and the world
abbrev pub relabelled : (ℕ → ℕ) → ℕ → ℕ → ℕ → ℕ
relabelled lab f l x = cond (eqb x f) l (lab x)

abbrev pub own_world : World → ℕ → ℕ → ℕ → ℕ → List ℕ → World
own_world w p v l n ws = record { processes = (with_page w p v (own l ws)).processes; segments = w.segments; next = n }

abbrev pub put_state : State → ℕ → ℕ → ℕ → Cell → List ℕ → List ℕ → State
put_state s p v f c cs ws =
    record { rows = with_entry s.rows p v c; segments = s.segments; lookers = s.lookers; counts = cs; pages = set s.pages f ws; used = s.used }

module _ (z : Sizes) (lab : ℕ → ℕ) (m : Machine) (w : World) (sim : Sim z lab m w) (p v f l n : ℕ) (cs ws : List ℕ) (put : Put z lab m w p v f l n cs)
    (c : Cell) (is : c.holds ≡ at f) (hand reads writes : ℕ) (slots : List (Option Slot)) where
  abbrev lab_then : ℕ → ℕ
  lab_then = relabelled lab f l

  abbrev then : Machine
  then = with_whole m (record { state = put_state (state m) p v f c cs ws; hand = hand; reads = reads; writes = writes; slots = slots })

  abbrev world : World
  world = own_world w p v l n ws

  -- nobody else names f
  others : (q u : ℕ) → Other p v q u → (x : ℕ) → holds m q u ≡ at x → x ≢ f
  others q u d x e same =
      let here : names f (holds m q u) ≡ 1 = ap (names f) (e ∙ ap at same) ∙ names_one f in
      omega (arith, over_two (names f) refl (state m).rows p v q u d, sim.counts f put.within, put.only)

  label_here : lab_then f ≡ l
  label_here = cond-true _ l (lab f) (eq-eqb f f refl)

  is_f : (x : ℕ) → c.holds ≡ at x → f ≡ x
  is_f x e = at_same f x (sym is ∙ e)

  -- a segment lies elsewhere, and is alone there
  lying_then : (s : ℕ) → s < z.segments → Lying z m w s → Lying z then world s
  lying_then s h k =
      let x = k.where_it_is in
      let named = segment_names sim s x h k.at_it in
      let other : x ≢ f = λ e. omega (arith, over_below (names f) refl (state m).rows p v, sim.counts f put.within, put.only, segment_names sim s f h (k.at_it ∙ ap at e)) in
      let elsewhere : names x (at f) ≡ 0 = cond-false _ 1 0 (ne_eqb x f other) in
      record {
        where_it_is = x;
        at_it = k.at_it;
        within = k.within;
        alone = omega (arith, over_below (names x) refl (state m).rows p v, sim.counts x k.within, k.alone, put.right x k.within);
        bytes = get_or-set_other (state m).pages f x ws [] other ∙ k.bytes;
      }

  changed : EntryChanged z lab lab_then m then w world p v c (own l ws)
  changed =
      record {
        there = put.alive;
        range = put.range;
        frames = refl;
        alive = refl;
        rows = refl;
        processes = refl;
        shows =
            (λ i. own (sym label_here i) (sym (get_or-set_same (state m).pages f ws [] (omega (arith, sim.shape.pages, put.within))) i))
            ∙ sym (ap (see lab_then (state then).pages) is);
        table_long = refl;
        lookers_long = refl;
        counts_long = put.long;
        pages_long = length-set (state m).pages f ws;
        used_long = refl;
        segments_long = refl;
        next = put.grows;
        kept = λ q u x d e. let n = others q u d x e in (cond-false _ l (lab x) (ne_eqb x f n), get_or-set_other (state m).pages f x ws [] n);
        labels = λ x e.
            subst (λ y. (y < z.hold) × (lab_then y ≢ 0) × (lab_then y < n)) (is_f x e) (put.within, λ zero. put.some (sym label_here ∙ zero), omega (arith, label_here, put.given));
        apart = λ q u x y d e k same. sym (is_f x e) ∙ sym (put.new q u y k (sym same ∙ ap lab_then (sym (is_f x e)) ∙ label_here));
        looks = λ s e. absurd (let no : ◌≡◌ {A = ℕ} 0 1 = cc in omega arith);
        counts = λ x h. omega (arith, put.right x h, ap (names x) is);
        lookers = λ s h. omega (arith, put.unlooked s, ap (looks_at s) is);
        lying = λ s h k. lying_then s h (sim.lying s h k);
        idle = sim.idle;
      }

  pub put_sim : Sim z lab_then then world
  put_sim = entry_sim sim changed

  -- where it lay there already, every entry names what it named
  pub put_same : holds m p v ≡ at f → (q u : ℕ) → holds then q u ≡ holds m q u
  put_same e = each sim changed (λ q u h. h ≡ holds m q u) (is ∙ sym e) (λ q u d. refl)

  -- and a walk finds it there, with nobody else
  pub put_walk : walk (state then) p v ≡ record { spot = lies f; free = true }
  put_walk =
      let alone : leb (get_or cs f 0) 1 ≡ true = le-leb _ 1 (omega (arith, put.right f put.within, put.only, names_one f)) in
      ap (walked (state m).segments cs) (holds_here sim changed ∙ is) ∙ ap (λ b. record { spot = lies f; free = b }) alone

-- the ways that an own page comes to lie so
module _ (z : Sizes) (lab : ℕ → ℕ) (m : Machine) (w : World) (sim : Sim z lab m w) (p v : ℕ) (alive : living m p ≡ true) (range : v < z.pages) (f : ℕ) where
  -- it lies there already, and alone
  pub alone_put : holds m p v ≡ at f → get_or (state m).counts f 0 ≤ 1 → Put z lab m w p v f (lab f) w.next (state m).counts
  alone_put e few =
      let l = sim.labels p v f e in
      record {
        alive = alive;
        range = range;
        within = l.0;
        only = omega (arith, ap (names f) e, names_one f);
        unlooked = λ s. ap (looks_at s) e;
        long = refl;
        right = λ x h. ap (λ k. get_or (state m).counts x 0 + names x k) e;
        some = l.1;
        given = l.2;
        grows = omega arith;
        new = λ q u y k same. sim.apart q u p v y f k e same;
      }

  module _ (within : f < z.hold) (free : get_or (state m).counts f 0 ≡ 0) where
    fresh : (q u y : ℕ) → holds m q u ≡ at y → lab y ≡ w.next → y ≡ f
    fresh q u y e same = absurd (omega (arith, same, (sim.labels q u y e).2))

    -- it was a page of zeros
    pub zeros_put : holds m p v ≡ zeros → Put z lab m w p v f w.next (suc w.next) (counted_up (state m).counts f)
    zeros_put e =
        record {
          alive = alive;
          range = range;
          within = within;
          only = omega arith;
          unlooked = λ s. ap (looks_at s) e;
          long = length-set (state m).counts f _;
          right = λ x h. omega (arith, up_is (state m).counts f x (omega (arith, sim.shape.counts)) (omega arith), ap (names x) e);
          some = omega (arith, sim.fresh);
          given = omega arith;
          grows = omega arith;
          new = fresh;
        }

    -- it lay where others have it too
    pub copy_put : (x : ℕ) → holds m p v ≡ at x → 1 < get_or (state m).counts x 0 → Put z lab m w p v f w.next (suc w.next) (counted_up (counted_down (state m).counts x) f)
    copy_put x e shared =
        let less = counted_down (state m).counts x in
        let short : length less ≡ length (state m).counts = length-set (state m).counts x _ in
        let down = λ (y : ℕ). down_is (state m).counts x y (omega (arith, (sim.labels p v x e).0, sim.shape.counts)) (omega arith) in
        record {
          alive = alive;
          range = range;
          within = within;
          only = omega arith;
          unlooked = λ s. ap (looks_at s) e;
          long = length-set less f _ ∙ short;
          right = λ y h. omega (arith, down y, up_is less f y (omega (arith, sim.shape.counts)) (omega (arith, down f)), ap (names y) e);
          some = omega (arith, sim.fresh);
          given = omega arith;
          grows = omega arith;
          new = fresh;
        }
