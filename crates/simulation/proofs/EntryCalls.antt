-- map, drop and look: both machines make the same tests, and then one page changes.
use Rattle.std.proofs.Common.{◌≡◌, ℕ, ◌<◌, true, false, not, ◌&&◌, ltb, replicate, sym, refl, ap, ◌∙◌, subst, arith}
use Rattle.std.proofs.lemmas.Bool.{and_parts, ltb-true, not-true, true≢false}
use Rattle.fold.specs.Fold.{Sizes, World, own, seen, page, inside, there, with_page, looked, call, map, drop, look, done, fault}
use Rattle.tables.specs.Cells.{Held, nothing, zeros, at, segment}
use Rattle.segments.specs.Release.{dropped}
use Rattle.disk.specs.Whole.{Choice}
use Rattle.segments.specs.Release as release
use Rattle.calls.specs.Machine.{Machine, living}
use Rattle.calls.specs.Calls.{holds, is_there, calls_by, changed, look_at}
use Rattle.calls.specs.Calls as calls
use Rattle.calls.specs.Pages.{mapped}
use Rattle.simulation.proofs.Sim.{Sim, SlotsTrue, state, see}
use Rattle.simulation.proofs.Step.{Step, step_by, refused, by_test, changed_true}
use Rattle.simulation.proofs.Naming.{Known, held_known, changed_sim, attached, released}

not_there : (h : Held) → is_there h ≡ false → h ≡ nothing
not_there nothing e = refl
not_there zeros e = absurd (true≢false e)
not_there (at x) e = absurd (true≢false e)
not_there (segment s) e = absurd (true≢false e)

-- a page of zeros names nothing
zeros_known : {m : Machine} → Known m zeros
zeros_known = record { located = λ x e. absurd (let z : ◌≡◌ {A = ℕ} 0 1 = cc in omega arith); looked = λ s e. absurd (let z : ◌≡◌ {A = ℕ} 0 1 = cc in omega arith) }

module _ {z : Sizes} {lab : ℕ → ℕ} {m : Machine} {w : World} (sim : Sim z lab m w) where
  -- the tests of both machines
  pub inside_same : (p v : ℕ) → inside z w p v ≡ calls.inside z m p v
  unfolding inside
  inside_same p v = ap (λ b. b && ltb v z.pages) (sim.alive p)

  pub there_same : (p v : ℕ) → there (page w p v) ≡ is_there (holds m p v)
  unfolding there
  there_same p v = ap there (sim.pages p v) ∙ seen_there (holds m p v)
    where
      seen_there : (h : Held) → there (see lab (state m).pages h) ≡ is_there h
      seen_there nothing = refl
      seen_there zeros = refl
      seen_there (at x) = refl
      seen_there (segment s) = refl

  pub asked : (p v : ℕ) → calls.inside z m p v ≡ true → (living m p ≡ true) × (v < z.pages)
  asked p v e = let h = and_parts _ _ e in (h.0, ltb-true v z.pages h.1)

  pub vacant : (p v : ℕ) → (calls.inside z m p v && not (is_there (holds m p v))) ≡ true → (living m p ≡ true) × (v < z.pages) × (holds m p v ≡ nothing)
  vacant p v e = let h = and_parts _ _ e in let k = asked p v h.0 in (k.0, k.1, not_there _ (not-true _ h.1))

  module _ (choose : Choice) (slots : SlotsTrue m) where
    pub map_step : (p v : ℕ) → Step choose z m w (map p v)
    unfolding calls_by call mapped
    map_step p v =
        by_test choose z m w (map p v) lab sim slots _ _ _ _ refl refl (λ i. inside_same p v i && not (there_same p v i))
        (λ may e f. let h = vacant p v may in
        step_by choose z m w (map p v) _ _ _ lab e f
        (subst (λ n. Sim z lab (changed m (mapped (state m) p v)) (with_page w p v (own 0 (replicate n 0)))) (sym sim.shape.words)
        (changed_sim m (mapped (state m) p v) (attached sim p v h.0 h.1 zeros true h.2 zeros_known)))
        (changed_true m (mapped (state m) p v)))

    pub drop_step : (p v : ℕ) → Step choose z m w (drop p v)
    unfolding calls_by call
    drop_step p v =
        by_test choose z m w (drop p v) lab sim slots _ _ _ _ refl refl (λ i. inside_same p v i && there_same p v i)
        (λ may e f. let h = asked p v (and_parts _ _ may).0 in
        step_by choose z m w (drop p v) _ _ _ lab e f (changed_sim m (dropped (state m) p v) (released sim p v h.0 h.1)) (changed_true m (dropped (state m) p v)))

    -- what a look finds: a segment, or both machines refuse
    looks_by : (p v q u : ℕ) → living m p ≡ true → v < z.pages → holds m p v ≡ nothing → (h : Held) → holds m q u ≡ h →
        calls_by choose z m (look p v q u) ≡ look_at m p v h → call z w (look p v q u) ≡ looked w p v (see lab (state m).pages h) → Step choose z m w (look p v q u)
    unfolding looked release.looked
    looks_by p v q u a range old nothing is e f = refused choose z m w (look p v q u) fault lab sim slots e f
    looks_by p v q u a range old zeros is e f = refused choose z m w (look p v q u) fault lab sim slots e f
    looks_by p v q u a range old (at x) is e f = refused choose z m w (look p v q u) fault lab sim slots e f
    looks_by p v q u a range old (segment s) is e f =
        let now = release.looked (state m) p v s in
        step_by choose z m w (look p v q u) (changed m now) (with_page w p v (seen s)) (done s) lab e f
        (changed_sim m now (attached sim p v a range (segment s) false old (held_known m q u (segment s) is))) (changed_true m now)

    pub look_step : (p v q u : ℕ) → Step choose z m w (look p v q u)
    unfolding calls_by call
    look_step p v q u =
        by_test choose z m w (look p v q u) lab sim slots _ _ _ _ refl refl (λ i. inside_same p v i && (not (there_same p v i) && inside_same q u i))
        (λ may e f. let h = and_parts _ _ may in
        let k = asked p v h.0 in
        looks_by p v q u k.0 k.1 (not_there _ (not-true _ (and_parts _ _ h.1).0)) (holds m q u) refl e (f ∙ ap (looked w p v) (sim.pages q u)))
