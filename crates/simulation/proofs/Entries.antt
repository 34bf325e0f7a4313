-- One entry changes, and with it one page of one process: what has to hold of the change so that the relation stays.
use Rattle.std.proofs.Common.{◌≡◌, ℕ, ◌+◌, ◌<◌, ◌≤◌, Bool, true, false, ◌≢◌, ◌⊎◌, List, [], length, get_or, set, sym, refl, ap, ◌∙◌, subst, inl, inr, arith}
use Rattle.std.proofs.lemmas.List.{length-set, get_or_past, get_or-set_same, get_or-set_other}
use Rattle.std.proofs.lemmas.Bool.{cases_lt, cases_eq, both_ways}
use Rattle.fold.specs.Fold.{Page, Process, Sizes, World, process, page, with_page}
use Rattle.fold.proofs.Pages.{same_pages, same_process, alive_with_page, width_with_page, page_put, page_other}
use Rattle.frames.specs.Cut.{row}
use Rattle.tables.specs.Cells.{Held, Cell, none, nothing, zeros, at, segment}
use Rattle.tables.specs.Rows.{entry_of, with_entry}
use Rattle.disk.specs.Follows.{names, namers}
use Rattle.calls.specs.Machine.{Machine, living}
use Rattle.calls.specs.Calls.{holds}
use Rattle.simulation.specs.Over.{looks_at, over}
use Rattle.simulation.proofs.Sums.{over_put, entry_put, entry_other}
use Rattle.simulation.proofs.Sim.{Lying, Sim, state, see}
use Rattle.simulation.proofs.Users.{at_same}

-- another page than page v of p
abbrev pub Other : ℕ → ℕ → ℕ → ℕ → Type 0
Other p v q u = q ≡ p → u ≡ v → ⊥

-- The entry of page v of p is c now, and the page of the process is shown as that. All that other entries name stays as it was, with its label; locations that nobody
-- names may have any bytes and labels.
pub record EntryChanged (z : Sizes) (lab lab' : ℕ → ℕ) (m m' : Machine) (w w' : World) (p v : ℕ) (c : Cell) (shown : Page) : Type 0 where
  pub there : living m p ≡ true
  pub range : v < z.pages
  pub frames : m'.frames ≡ m.frames
  pub alive : m'.alive ≡ m.alive
  pub rows : (state m').rows ≡ with_entry (state m).rows p v c
  pub processes : w'.processes ≡ (with_page w p v shown).processes
  pub shows : shown ≡ see lab' (state m').pages c.holds
  -- all lists stay as long as they were
  pub table_long : length (state m').segments ≡ length (state m).segments
  pub lookers_long : length (state m').lookers ≡ length (state m).lookers
  pub counts_long : length (state m').counts ≡ length (state m).counts
  pub pages_long : length (state m').pages ≡ length (state m).pages
  pub used_long : length (state m').used ≡ length (state m).used
  pub segments_long : length w'.segments ≡ length w.segments
  pub next : w.next ≤ w'.next
  -- what other entries name
  pub kept : (q u x : ℕ) → Other p v q u → holds m q u ≡ at x → (lab' x ≡ lab x) × (row (state m').pages x ≡ row (state m).pages x)
  -- the new entry
  pub labels : (x : ℕ) → c.holds ≡ at x → (x < z.hold) × (lab' x ≢ 0) × (lab' x < w'.next)
  pub apart : (q u x y : ℕ) → Other p v q u → c.holds ≡ at x → holds m q u ≡ at y → lab' x ≡ lab y → x ≡ y
  pub looks : (s : ℕ) → c.holds ≡ segment s → s < z.segments
  -- counts go with the old and the new entry, and with where segments lie
  pub counts : (x : ℕ) → x < z.hold →
      get_or (state m').counts x 0 + names x (holds m p v) + namers x (state m).segments ≡ get_or (state m).counts x 0 + names x c.holds + namers x (state m').segments
  pub lookers : (s : ℕ) → s < z.segments → get_or (state m').lookers s 0 + looks_at s (holds m p v) ≡ get_or (state m).lookers s 0 + looks_at s c.holds
  pub lying : (s : ℕ) → s < z.segments → 0 < get_or (state m').lookers s 0 → Lying z m' w' s
  pub idle : (s : ℕ) → s < z.segments → get_or (state m').lookers s 0 ≡ 0 → (get_or (state m').segments s none).holds ≡ nothing

living_below : (m : Machine) (p : ℕ) → living m p ≡ true → p < length m.alive
living_below m p a =
    elim (cases_lt p (length m.alive)) [ inl h ↦ h | inr past ↦ absurd (both_ways _ (get_or_past m.alive p false past) a) ]

pub there_below : {z : Sizes} {lab : ℕ → ℕ} {m : Machine} {w : World} → Sim z lab m w → (p : ℕ) → living m p ≡ true → p < z.processes
there_below {m = m} sim p a = omega (arith, living_below m p a, sim.shape.alive)

-- the same of each location that an entry names, the same seen
pub see_same : (lab lab' : ℕ → ℕ) (ps ps' : List (List ℕ)) (h : Held) → ((x : ℕ) → h ≡ at x → (lab' x ≡ lab x) × (row ps' x ≡ row ps x)) → see lab ps h ≡ see lab' ps' h
see_same lab lab' ps ps' nothing k = refl
see_same lab lab' ps ps' zeros k = refl
see_same lab lab' ps ps' (segment s) k = refl
see_same lab lab' ps ps' (at x) k = let e = k x refl in let l = e.0 in let b = e.1 in cc

module _ {z : Sizes} {lab lab' : ℕ → ℕ} {m m' : Machine} {w w' : World} {p v : ℕ} {c : Cell} {shown : Page} (sim : Sim z lab m w)
    (e : EntryChanged z lab lab' m m' w w' p v c shown) where
  below : p < z.processes
  below = there_below sim p e.there

  row_there : p < length (state m).rows
  row_there = omega (arith, below, sim.shape.rows)

  column_there : v < length (row (state m).rows p)
  column_there = omega (arith, e.range, sim.shape.columns p below)

  -- every entry is the new one or an old one
  either : (q u : ℕ) → ((q ≡ p) × (u ≡ v)) ⊎ Other p v q u
  either q u = elim (cases_eq q p) [ inr n ↦ inr (λ a b. n a) | inl a ↦ elim (cases_eq u v) [ inl b ↦ inl (a, b) | inr n ↦ inr (λ _ b. n b) ] ]

  pub holds_here : holds m' p v ≡ c.holds
  holds_here = ap (λ (rs : List (List Cell)). (entry_of rs p v).holds) e.rows ∙ ap (λ (k : Cell). k.holds) (entry_put (state m).rows p v c row_there column_there)

  holds_other : (q u : ℕ) → Other p v q u → holds m' q u ≡ holds m q u
  holds_other q u n = ap (λ (rs : List (List Cell)). (entry_of rs q u).holds) e.rows ∙ ap (λ (k : Cell). k.holds) (entry_other (state m).rows p v q u c n)

  -- a fact about every entry, from the new one and the others
  pub each : (P : ℕ → ℕ → Held → Type 0) → P p v c.holds → ((q u : ℕ) → Other p v q u → P q u (holds m q u)) → (q u : ℕ) → P q u (holds m' q u)
  each P here others q u =
      elim (either q u) [
        | inl is ↦ subst (λ n. P n u (holds m' n u)) (sym is.0) (subst (λ n. P p n (holds m' p n)) (sym is.1) (subst (P p v) (sym holds_here) here))
        | inr n ↦ subst (P q u) (sym (holds_other q u n)) (others q u n)
      ]

  over_after : (f : Held → ℕ) → over f (state m').rows + f (holds m p v) ≡ over f (state m).rows + f c.holds
  over_after f =
      ap (λ (rs : List (List Cell)). over f rs + f (holds m p v)) e.rows ∙ over_put f (state m).rows p v c row_there column_there

  row_lengths : (q : ℕ) → length (row (state m').rows q) ≡ length (row (state m).rows q)
  row_lengths q =
      ap (λ (rs : List (List Cell)). length (row rs q)) e.rows
      ∙ elim (cases_eq q p) as (λ _. length (row (with_entry (state m).rows p v c) q) ≡ length (row (state m).rows q)) [
        | inl is ↦
            ap (λ n. length (row (with_entry (state m).rows p v c) n)) is ∙ ap length (get_or-set_same (state m).rows p (set (row (state m).rows p) v c) [] row_there)
            ∙ length-set (row (state m).rows p) v c ∙ ap (λ n. length (row (state m).rows n)) (sym is)
        | inr n ↦ ap length (get_or-set_other (state m).rows p q _ [] n)
      ]

  -- the world after it, read off its processes
  with_shown : (q : ℕ) → process w' q ≡ process (with_page w p v shown) q
  with_shown q = same_process w' (with_page w p v shown) e.processes q

  wide_after : (q : ℕ) → length (process w' q).pages ≡ length (process w q).pages
  wide_after q = ap (λ (r : Process). length r.pages) (with_shown q) ∙ width_with_page w p v q shown

  alive_after : (q : ℕ) → (process w' q).alive ≡ (process w q).alive
  alive_after q = ap (λ (r : Process). r.alive) (with_shown q) ∙ alive_with_page w p v q shown

  processes_after : length w'.processes ≡ length w.processes
  unfolding with_page
  processes_after = ap length e.processes ∙ length-set w.processes p _

  page_here : page w' p v ≡ see lab' (state m').pages c.holds
  page_here =
      same_pages w' (with_page w p v shown) e.processes p v ∙ page_put w p v shown (sim.alive p ∙ e.there) (omega (arith, e.range, sim.shape.wide p below)) ∙ e.shows

  page_there : (q u : ℕ) → Other p v q u → page w' q u ≡ see lab' (state m').pages (holds m q u)
  page_there q u n =
      same_pages w' (with_page w p v shown) e.processes q u ∙ page_other w p v q u shown n ∙ sim.pages q u
      ∙ see_same lab lab' (state m).pages (state m').pages (holds m q u) (λ x h. e.kept q u x n h)

  apart_after : (q u r t x y : ℕ) → holds m' q u ≡ at x → holds m' r t ≡ at y → lab' x ≡ lab' y → x ≡ y
  apart_after q u r t x y =
      each (λ q u h. h ≡ at x → holds m' r t ≡ at y → lab' x ≡ lab' y → x ≡ y)
      (λ new. each (λ r t h. h ≡ at y → lab' x ≡ lab' y → x ≡ y) (λ also _. at_same x y (sym new ∙ also)) (λ r t n is l. e.apart r t x y n new is (l ∙ (e.kept r t y n is).0)) r t)
      (λ q u n is. each (λ r t h. h ≡ at y → lab' x ≡ lab' y → x ≡ y) (λ new l. sym (e.apart q u y x n new is (sym l ∙ (e.kept q u x n is).0)))
      (λ r t k also l. sim.apart q u r t x y is also (sym (e.kept q u x n is).0 ∙ l ∙ (e.kept r t y k also).0)) r t)
      q u

  pub entry_sim : Sim z lab' m' w'
  entry_sim =
      let s = sim.shape in
      record {
        shape =
            record {
              words = s.words;
              some = omega (arith, s.some, e.frames);
              within = omega (arith, s.within, e.frames);
              few_processes = s.few_processes;
              few_pages = s.few_pages;
              few_segments = s.few_segments;
              processes = processes_after ∙ s.processes;
              wide = λ q h. wide_after q ∙ s.wide q h;
              segments = e.segments_long ∙ s.segments;
              alive = ap length e.alive ∙ s.alive;
              rows = ap length e.rows ∙ length-set (state m).rows p _ ∙ s.rows;
              columns = λ q h. row_lengths q ∙ s.columns q h;
              table = e.table_long ∙ s.table;
              lookers = e.lookers_long ∙ s.lookers;
              counts = e.counts_long ∙ s.counts;
              pages = e.pages_long ∙ s.pages;
              used = e.used_long ∙ s.used ∙ sym e.frames;
            };
        fresh = omega (arith, sim.fresh, e.next);
        alive = λ q. alive_after q ∙ sim.alive q ∙ ap (λ (bs : List Bool). get_or bs q false) (sym e.alive);
        pages = each (λ q u h. page w' q u ≡ see lab' (state m').pages h) page_here page_there;
        labels = λ q u x. each (λ q u h. h ≡ at x → (x < z.hold) × (lab' x ≢ 0) × (lab' x < w'.next)) (e.labels x)
            (λ r t n is. let l = sim.labels r t x is in let k = (e.kept r t x n is).0 in (l.0, λ zero. l.1 (sym k ∙ zero), omega (arith, l.2, e.next))) q u;
        apart = apart_after;
        looks = λ q u t. each (λ q u h. h ≡ segment t → t < z.segments) (e.looks t) (λ r t' n is. sim.looks r t' t is) q u;
        counts = λ x h. omega (arith, sim.counts x h, e.counts x h, over_after (names x));
        lookers = λ t h. omega (arith, sim.lookers t h, e.lookers t h, over_after (looks_at t));
        lying = e.lying;
        idle = e.idle;
      }
