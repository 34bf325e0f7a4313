-- Two locations change places, with everything that names them: what is seen stays, and the labels go with the pages.
use Rattle.std.proofs.Common.{◌≡◌, ℕ, ◌+◌, ◌<◌, ◌≤◌, leb, ◌≢◌, List, [], map, length, get_or, set, sum_by, Option, sym, refl, ap, ◌∙◌, subst, arith}
use mathlib.Core.Path.{fun_ext}
use Rattle.std.proofs.lemmas.List.{length-map, length-set}
use Rattle.std.proofs.lemmas.Bool.{cond-true, eq-eqb}
use Rattle.fold.specs.Fold.{Sizes, World, own}
use Rattle.frames.specs.Cut.{row}
use Rattle.tables.specs.Cells.{Held, Cell, none, nothing, zeros, at, segment, swapped, held_swapped, renamed}
use Rattle.tables.specs.State.{State, Spot, nowhere, blank, lies, walk, walked, walked_segment}
use Rattle.lookaside.specs.declared.slots.Slot.{Slot}
use Rattle.disk.specs.Moves.{swap_at, relocated, gone_out, come_in, exchanged}
use Rattle.disk.specs.Follows.{names, namers}
use Rattle.disk.specs.Whole.{Whole, with_used}
use Rattle.disk.proofs.Follows.{map_at, swapped_twice, swapped_within, swap_follows, entry_follows, segment_renamed, out_page, in_page, sumBy_map, counts_follow}
use Rattle.calls.specs.Machine.{Machine, with_whole}
use Rattle.calls.specs.Calls.{holds}
use Rattle.simulation.specs.Over.{looks_at, over, over_row}
use Rattle.simulation.proofs.Sums.{over_below}
use Rattle.simulation.proofs.Sim.{Sim, Shape, Lying, state, see}

-- an entry that names l afterwards named the location that is l now; one that looks at a segment still does
named_back : (x y l : ℕ) (h : Held) → held_swapped x y h ≡ at l → h ≡ at (swapped x y l)
named_back x y l nothing e = cc
named_back x y l zeros e = cc
named_back x y l (at k) e = let same : swapped x y k ≡ l = cc in ap at (sym (swapped_twice x y k) ∙ ap (swapped x y) same)
named_back x y l (segment s) e = cc

looked_back : (x y s : ℕ) (h : Held) → held_swapped x y h ≡ segment s → h ≡ segment s
looked_back x y s nothing e = e
looked_back x y s zeros e = e
looked_back x y s (at k) e = cc
looked_back x y s (segment t) e = e

looks_moved : (x y s : ℕ) (h : Held) → looks_at s (held_swapped x y h) ≡ looks_at s h
looks_moved x y s nothing = refl
looks_moved x y s zeros = refl
looks_moved x y s (at k) = refl
looks_moved x y s (segment t) = refl

over_moved : (x y s : ℕ) (rows : List (List Cell)) → over (looks_at s) (map (map (renamed x y)) rows) ≡ over (looks_at s) rows
over_moved x y s rows =
    let in_row : (cs : List Cell) → over_row (looks_at s) (map (renamed x y) cs) ≡ over_row (looks_at s) cs =
    λ cs. sumBy_map (λ (c : Cell). looks_at s c.holds) (renamed x y) cs ∙ ap (λ (f : Cell → ℕ). sum_by f cs) (fun_ext (λ c. looks_moved x y s c.holds)) in
    sumBy_map (over_row (looks_at s)) (map (renamed x y)) rows ∙ ap (λ (f : List Cell → ℕ). sum_by f rows) (fun_ext in_row)

-- what a process sees is the same where the labels and the bytes went with the locations
see_moved : (x y : ℕ) (lab lab' : ℕ → ℕ) (ps qs : List (List ℕ)) (h : Held) → ((l : ℕ) → h ≡ at l → (lab' (swapped x y l) ≡ lab l) × (row qs (swapped x y l) ≡ row ps l)) →
    see lab' qs (held_swapped x y h) ≡ see lab ps h
see_moved x y lab lab' ps qs nothing k = refl
see_moved x y lab lab' ps qs zeros k = refl
see_moved x y lab lab' ps qs (at l) k = λ i. own ((k l refl).0 i) ((k l refl).1 i)
see_moved x y lab lab' ps qs (segment s) k = refl

-- a location that an entry names has a count
pub named_counted : (z : Sizes) (lab : ℕ → ℕ) (m : Machine) (w : World) → Sim z lab m w → (p v l : ℕ) → holds m p v ≡ at l → get_or (state m).counts l 0 ≢ 0
named_counted z lab m w sim p v l e none =
    let here : names l (holds m p v) ≡ 1 = ap (names l) e ∙ cond-true _ 1 0 (eq-eqb l l refl) in
    let below : names l (holds m p v) ≤ over (names l) (state m).rows = over_below (names l) refl (state m).rows p v in
    let right : get_or (state m).counts l 0 ≡ over (names l) (state m).rows + namers l (state m).segments = sim.counts l (sim.labels p v l e).0 in
    omega arith

-- an entry and a walk's answer, where the page at each location l is at `to l` now
abbrev pub held_to : (ℕ → ℕ) → Held → Held
held_to to nothing = nothing
held_to to zeros = zeros
held_to to (at l) = at (to l)
held_to to (segment s) = segment s

abbrev pub spot_to : (ℕ → ℕ) → Spot → Spot
spot_to to nowhere = nowhere
spot_to to blank = blank
spot_to to (lies l) = lies (to l)

-- Pages have moved, from m to m with all of `whole`, and what is seen is the same: `lab'` has the labels now, and `to` says where the page at each location is now.
pub record Moved (z : Sizes) (lab : ℕ → ℕ) (m : Machine) (w : World) (whole : Whole) (lab' to : ℕ → ℕ) : Type 0 where
  pub sim : Sim z lab' (with_whole m whole) w
  pub entries : (p v : ℕ) → holds (with_whole m whole) p v ≡ held_to to (holds m p v)
  pub segments : (s : ℕ) → (get_or whole.state.segments s none).holds ≡ held_to to (get_or (state m).segments s none).holds
  pub lookers : whole.state.lookers ≡ (state m).lookers
  pub labels : (l : ℕ) → lab' (to l) ≡ lab l
  pub counts : (l : ℕ) → get_or whole.state.counts (to l) 0 ≡ get_or (state m).counts l 0
  pub within : (l : ℕ) → l < z.hold → to l < z.hold
  pub bytes : (l : ℕ) → l < z.hold → get_or (state m).counts l 0 ≢ 0 → row whole.state.pages (to l) ≡ row (state m).pages l

module _ (z : Sizes) (lab : ℕ → ℕ) (m : Machine) (w : World) (sim : Sim z lab m w) (x y : ℕ) (hx : x < z.hold) (hy : y < z.hold)
    (ps : List (List ℕ)) (long : length ps ≡ z.hold)
    (kept : (l : ℕ) → l < z.hold → get_or (state m).counts l 0 ≢ 0 → row ps (swapped x y l) ≡ row (state m).pages l) where
  -- the machine then, with any hand, transfers and slots
  module _ (us : List ℕ) (marks : length us ≡ m.frames) (hand reads writes : ℕ) (slots : List (Option Slot)) where
    abbrev then : Machine
    then = with_whole m (record { state = with_used (relocated x y ps (state m)) us; hand = hand; reads = reads; writes = writes; slots = slots })

    holds_then : (p v : ℕ) → holds then p v ≡ held_swapped x y (holds m p v)
    holds_then p v = ap (λ (c : Cell). c.holds) (entry_follows x y ps (state m) p v)

    shape_then : Shape z then w
    unfolding relocated
    shape_then =
        let s = sim.shape in
        record {
          words = s.words;
          some = s.some;
          within = s.within;
          few_processes = s.few_processes;
          few_pages = s.few_pages;
          few_segments = s.few_segments;
          processes = s.processes;
          wide = s.wide;
          segments = s.segments;
          alive = s.alive;
          rows = length-map (state m).rows (map (renamed x y)) ∙ s.rows;
          columns = λ p h. ap length (map_at (map (renamed x y)) (state m).rows p [] [] refl) ∙ length-map (row (state m).rows p) (renamed x y) ∙ s.columns p h;
          table = length-map (state m).segments (renamed x y) ∙ s.table;
          lookers = s.lookers;
          counts = simp length-set s.counts;
          pages = long;
          used = marks;
        }

    segment_then : (s : ℕ) → (get_or (state then).segments s none).holds ≡ held_swapped x y (get_or (state m).segments s none).holds
    segment_then s = ap (λ (c : Cell). c.holds) (segment_renamed x y ps (state m) s)

    counts_then : (l : ℕ) → get_or (state then).counts (swapped x y l) 0 ≡ get_or (state m).counts l 0
    unfolding relocated
    counts_then l = swap_follows x y l 0 (state m).counts (omega (arith, sim.shape.counts)) (omega (arith, sim.shape.counts))

    lying_then : (s : ℕ) → Lying z m w s → Lying z then w s
    unfolding relocated
    lying_then s k =
        let l = k.where_it_is in
        record {
          where_it_is = swapped x y l;
          at_it = segment_then s ∙ ap (held_swapped x y) k.at_it;
          within = swapped_within x y l z.hold hx hy k.within;
          alone = counts_then l ∙ k.alone;
          bytes = kept l k.within (λ e. let no : ◌≡◌ {A = ℕ} 1 0 = sym k.alone ∙ e in omega arith) ∙ k.bytes;
        }

    sim_then : Sim z (λ l. lab (swapped x y l)) then w
    unfolding relocated
    sim_then =
        record {
          shape = shape_then;
          fresh = sim.fresh;
          alive = sim.alive;
          pages = λ p v.
              sim.pages p v
              ∙ sym (ap (see (λ l. lab (swapped x y l)) ps) (holds_then p v)
              ∙ see_moved x y lab (λ l. lab (swapped x y l)) (state m).pages ps (holds m p v)
              (λ l e. (ap lab (swapped_twice x y l), kept l (sim.labels p v l e).0 (named_counted z lab m w sim p v l e))));
          labels = λ p v l e.
              let was = sim.labels p v (swapped x y l) (named_back x y l (holds m p v) (sym (holds_then p v) ∙ e)) in
              let back : swapped x y (swapped x y l) < z.hold = swapped_within x y (swapped x y l) z.hold hx hy was.0 in
              (subst (λ k. k < z.hold) (swapped_twice x y l) back, was.1, was.2);
          apart = λ p v q u a b e f same.
              let was = sim.apart p v q u (swapped x y a) (swapped x y b) (named_back x y a (holds m p v) (sym (holds_then p v) ∙ e))
              (named_back x y b (holds m q u) (sym (holds_then q u) ∙ f)) same in
              sym (swapped_twice x y a) ∙ ap (swapped x y) was ∙ swapped_twice x y b;
          looks = λ p v s e. sim.looks p v s (looked_back x y s (holds m p v) (sym (holds_then p v) ∙ e));
          counts = λ l h.
              counts_follow x y ps (state m) (omega (arith, sim.shape.counts)) (omega (arith, sim.shape.counts))
              (λ k d. sim.counts k (omega (arith, sim.shape.counts))) l (omega (arith, shape_then.counts));
          lookers = λ s h. sim.lookers s h ∙ sym (over_moved x y s (state m).rows);
          lying = λ s h k. lying_then s (sim.lying s h k);
          idle = λ s h e. segment_then s ∙ ap (held_swapped x y) (sim.idle s h e);
        }

    moved_then : Moved z lab m w then.whole (λ l. lab (swapped x y l)) (swapped x y)
    unfolding relocated
    moved_then =
        record {
          sim = sim_then;
          entries = λ p v. holds_then p v ∙ swapped_to (holds m p v);
          segments = λ s. segment_then s ∙ swapped_to (get_or (state m).segments s none).holds;
          lookers = refl;
          labels = λ l. ap lab (swapped_twice x y l);
          counts = counts_then;
          within = λ l h. swapped_within x y l z.hold hx hy h;
          bytes = kept;
        }
      where
        swapped_to : (h : Held) → held_swapped x y h ≡ held_to (swapped x y) h
        swapped_to nothing = refl
        swapped_to zeros = refl
        swapped_to (at l) = refl
        swapped_to (segment s) = refl

  pub moved : (whole : Whole) (us : List ℕ) → length us ≡ m.frames → whole.state ≡ with_used (relocated x y ps (state m)) us →
      Moved z lab m w whole (λ l. lab (swapped x y l)) (swapped x y)
  moved whole us marks e =
      let literal : State → Whole = λ s. record { state = s; hand = whole.hand; reads = whole.reads; writes = whole.writes; slots = whole.slots } in
      subst (λ s. Moved z lab m w (literal s) (λ l. lab (swapped x y l)) (swapped x y)) (sym e) (moved_then us marks whole.hand whole.reads whole.writes whole.slots)

module _ (z : Sizes) (lab : ℕ → ℕ) (m : Machine) (w : World) (sim : Sim z lab m w) (f d : ℕ) (hf : f < z.hold) (hd : d < z.hold)
    (whole : Whole) (us : List ℕ) (marks : length us ≡ m.frames) where
  -- the page at f goes to d, which is free; nobody sees what was there
  pub out_moved : get_or (state m).counts d 0 ≡ 0 → whole.state ≡ with_used (gone_out f d (state m)) us → Moved z lab m w whole (λ l. lab (swapped f d l)) (swapped f d)
  out_moved free e =
      moved z lab m w sim f d hf hd (set (state m).pages d (row (state m).pages f)) (length-set (state m).pages d _ ∙ sim.shape.pages)
      (λ l h n. out_page f d l (state m).pages (omega (arith, sim.shape.pages)) (λ k. n (ap (λ i. get_or (state m).counts i 0) k ∙ free))) whole us marks e

  -- the page at d comes to f, which is free
  pub in_moved : get_or (state m).counts f 0 ≡ 0 → whole.state ≡ with_used (come_in f d (state m)) us → Moved z lab m w whole (λ l. lab (swapped f d l)) (swapped f d)
  in_moved free e =
      moved z lab m w sim f d hf hd (set (state m).pages f (row (state m).pages d)) (length-set (state m).pages f _ ∙ sim.shape.pages)
      (λ l h n. in_page f d l (state m).pages (omega (arith, sim.shape.pages)) (λ k. n (ap (λ i. get_or (state m).counts i 0) k ∙ free))) whole us marks e

  -- the pages at both change places
  pub exchange_moved : whole.state ≡ with_used (exchanged f d (state m)) us → Moved z lab m w whole (λ l. lab (swapped f d l)) (swapped f d)
  exchange_moved e =
      moved z lab m w sim f d hf hd (swap_at f d [] (state m).pages) (simp length-set sim.shape.pages)
      (λ l h n. swap_follows f d l [] (state m).pages (omega (arith, sim.shape.pages)) (omega (arith, sim.shape.pages))) whole us marks e

-- no page has moved
pub stayed : (z : Sizes) (lab : ℕ → ℕ) (m : Machine) (w : World) → Sim z lab m w → Moved z lab m w m.whole lab (λ l. l)
stayed z lab m w sim =
    record {
      sim = sim;
      entries = λ p v. same (holds m p v);
      segments = λ s. same (get_or (state m).segments s none).holds;
      lookers = refl;
      labels = λ l. refl;
      counts = λ l. refl;
      within = λ l h. h;
      bytes = λ l h n. refl;
    }
  where
    same : (h : Held) → h ≡ held_to (λ l. l) h
    same nothing = refl
    same zeros = refl
    same (at l) = refl
    same (segment s) = refl

-- pages have moved, and then moved again
pub moved_on : (z : Sizes) (lab : ℕ → ℕ) (m : Machine) (w : World) (one two : Whole) (lab' lab'' to on : ℕ → ℕ) →
    Moved z lab m w one lab' to → Moved z lab' (with_whole m one) w two lab'' on → Moved z lab m w two lab'' (λ l. on (to l))
moved_on z lab m w one two lab' lab'' to on a b =
    record {
      sim = b.sim;
      entries = λ p v. b.entries p v ∙ ap (held_to on) (a.entries p v) ∙ twice (holds m p v);
      segments = λ s. b.segments s ∙ ap (held_to on) (a.segments s) ∙ twice (get_or (state m).segments s none).holds;
      lookers = b.lookers ∙ a.lookers;
      labels = λ l. b.labels (to l) ∙ a.labels l;
      counts = λ l. b.counts (to l) ∙ a.counts l;
      within = λ l h. b.within (to l) (a.within l h);
      bytes = λ l h n. b.bytes (to l) (a.within l h) (λ e. n (sym (a.counts l) ∙ e)) ∙ a.bytes l h n;
    }
  where
    twice : (h : Held) → held_to on (held_to to h) ≡ held_to (λ l. on (to l)) h
    twice nothing = refl
    twice zeros = refl
    twice (at l) = refl
    twice (segment s) = refl

-- a walk's answer follows its page, with the same right to store
pub walk_moved : (z : Sizes) (lab : ℕ → ℕ) (m : Machine) (w : World) (whole : Whole) (lab' to : ℕ → ℕ) → Moved z lab m w whole lab' to → (p v : ℕ) →
    walk whole.state p v ≡ record { spot = spot_to to (walk (state m) p v).spot; free = (walk (state m) p v).free }
walk_moved z lab m w whole lab' to k p v = ap (walked whole.state.segments whole.state.counts) (k.entries p v) ∙ by_held (holds m p v)
  where
    in_segment : (h : Held) → walked_segment (held_to to h) ≡ record { spot = spot_to to (walked_segment h).spot; free = (walked_segment h).free }
    in_segment nothing = refl
    in_segment zeros = refl
    in_segment (at l) = refl
    in_segment (segment s) = refl

    by_held : (h : Held) → walked whole.state.segments whole.state.counts (held_to to h)
        ≡ record { spot = spot_to to (walked (state m).segments (state m).counts h).spot; free = (walked (state m).segments (state m).counts h).free }
    by_held nothing = refl
    by_held zeros = refl
    by_held (at l) = ap (λ n. record { spot = lies (to l); free = leb n 1 }) (k.counts l)
    by_held (segment s) = ap walked_segment (k.segments s) ∙ in_segment (get_or (state m).segments s none).holds
