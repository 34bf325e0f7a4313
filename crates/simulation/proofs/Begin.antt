-- The manager and the machine of private memories begin alike: process 0 is there, and no page.
use Rattle.std.proofs.Common.{◌≡◌, ℕ, zero, suc, ◌+◌, ◌-◌, ◌<◌, ◌≤◌, false, List, [], length, get_or, replicate, Some, None, sym, refl, ap, ◌∙◌, inl, inr, arith}
use Rattle.std.proofs.lemmas.List.{length-replicate, get_or-replicate, get_or_past}
use Rattle.std.proofs.lemmas.Bool.{cases_lt}
use Rattle.lookaside.specs.declared.slots.Slot.{Slot}
use Rattle.fold.specs.Fold.{Sizes, absent, nobody, process, others, begin}
use Rattle.fold.proofs.Reach.{all_same, others_gone, others_length, begin_absent}
use Rattle.tables.specs.Cells.{Held, Cell, none, nothing}
use Rattle.tables.specs.Rows.{entry_of}
use Rattle.disk.specs.Follows.{names}
use Rattle.calls.specs.Machine.{living, first}
use Rattle.calls.specs.Calls.{holds}
use Rattle.simulation.specs.Over.{looks_at, over}
use Rattle.simulation.proofs.Sums.{over_member}
use Rattle.simulation.proofs.Sim.{Shape, Sim, SlotsTrue, see}
use Rattle.simulation.proofs.Users.{nothing≢at, nothing≢segment, sumBy_none}

others_wide : (pages n q : ℕ) → q < n → length (get_or (others pages n) q nobody).pages ≡ pages
unfolding others
others_wide pages zero q h = absurd (omega arith)
others_wide pages (suc n) zero h = length-replicate pages absent
others_wide pages (suc n) (suc q) h = others_wide pages n q (omega arith)

begin_wide : (z : Sizes) (n p : ℕ) → p < suc n → length (process (begin z n) p).pages ≡ z.pages
unfolding begin process
begin_wide z n zero h = length-replicate z.pages absent
begin_wide z n (suc q) h = others_wide z.pages n q (omega arith)

-- no entry is there at first
no_entry : (rows pages p v : ℕ) → entry_of (replicate rows (replicate pages none)) p v ≡ none
no_entry rows pages p v =
    elim (cases_lt p rows) [
      | inl h ↦ ap (λ (r : List Cell). get_or r v none) (get_or-replicate rows p (replicate pages none) [] h) ∙ all_same pages v none
      | inr h ↦ ap (λ (r : List Cell). get_or r v none) (get_or_past (replicate rows (replicate pages none)) p [] (omega (arith, length-replicate rows (replicate pages none))))
    ]

-- so nothing adds up
nothing_over : (f : Held → ℕ) → f nothing ≡ 0 → (rows pages : ℕ) → over f (replicate rows (replicate pages none)) ≡ 0
nothing_over f blank rows pages =
    elim (cases_lt 0 (over f (replicate rows (replicate pages none)))) [
      | inl some ↦
          let e = over_member f (replicate rows (replicate pages none)) some in
          absurd (omega (arith, e.4, ap (λ (c : Cell). f c.holds) (no_entry rows pages e.0 e.1)))
      | inr z ↦ omega arith
    ]

none≢some : (s : Slot) → None ≡ Some s → ⊥
none≢some s e = let z : ◌≡◌ {A = ℕ} 0 1 = cc in omega arith

module _ (z : Sizes) (n frames places : ℕ) (words : z.words ≡ 256) (processes : z.processes ≡ suc n) (few : n < 16) (few_pages : z.pages ≤ 64)
    (few_segments : z.segments ≤ 16) (some : 1 ≤ frames) (hold : z.hold ≡ frames + places) where
  shape : Shape z (first z frames places) (begin z n)
  unfolding first begin
  shape =
      record {
        words = words;
        some = some;
        within = omega arith;
        few_processes = omega arith;
        few_pages = few_pages;
        few_segments = few_segments;
        processes = omega (arith, others_length z.pages n);
        wide = λ p h. begin_wide z n p (omega arith);
        segments = length-replicate z.segments [];
        alive = omega (arith, length-replicate (z.processes - 1) false);
        rows = length-replicate z.processes _;
        columns = λ p h. ap length (get_or-replicate z.processes p (replicate z.pages none) [] h) ∙ length-replicate z.pages none;
        table = length-replicate z.segments none;
        lookers = length-replicate z.segments 0;
        counts = length-replicate (frames + places) 0 ∙ sym hold;
        pages = length-replicate (frames + places) _ ∙ sym hold;
        used = length-replicate frames 0;
      }

  alive_first : (p : ℕ) → (process (begin z n) p).alive ≡ living (first z frames places) p
  unfolding first begin process
  alive_first zero = refl
  alive_first (suc q) = others_gone z.pages n q ∙ sym (all_same (z.processes - 1) q false)

  holds_nothing : (p v : ℕ) → holds (first z frames places) p v ≡ nothing
  unfolding first
  holds_nothing p v = ap (λ (c : Cell). c.holds) (no_entry z.processes z.pages p v)

  -- Nothing is named, nothing is looked at, and every segment lies nowhere.
  pub begins : Sim z (λ x. x) (first z frames places) (begin z n)
  unfolding first begin
  begins =
      record {
        shape = shape;
        fresh = omega arith;
        alive = alive_first;
        pages = λ p v. begin_absent z n p v ∙ sym (ap (see (λ x. x) _) (holds_nothing p v));
        labels = λ p v x e. absurd (nothing≢at x (sym (holds_nothing p v) ∙ e));
        apart = λ p v q u x y e f l. l;
        looks = λ p v s e. absurd (nothing≢segment s (sym (holds_nothing p v) ∙ e));
        counts = λ x h. omega (
          arith,
          all_same {X = ℕ} (frames + places) x 0,
          nothing_over (names x) refl z.processes z.pages,
          sumBy_none (λ (c : Cell). names x c.holds) (replicate z.segments none) none (λ s _. ap (λ (c : Cell). names x c.holds) (all_same z.segments s none)),
        );
        lookers = λ s h. omega (arith, all_same {X = ℕ} z.segments s 0, nothing_over (looks_at s) refl z.processes z.pages);
        lying = λ s h k. absurd (omega (arith, all_same {X = ℕ} z.segments s 0));
        idle = λ s h k. ap (λ (c : Cell). c.holds) (all_same z.segments s none);
      }

  pub slots_begin : SlotsTrue (first z frames places)
  unfolding first
  slots_begin i s e = absurd (none≢some s (sym (all_same 16 i None) ∙ e))
