-- A manager over memory that is all zeros is a machine at its start.
use Rattle.std.proofs.Common.{◌≡◌, ℕ, zero, suc, ◌+◌, ◌-◌, ◌*◌, ◌≤◌, min, true, false, List, ◌∷◌, ◌++◌, map, length, take, drop, replicate, Some, None, Ok, Err, Option, sym, refl, ap, ◌∙◌, suc-mul, arith}
use Rattle.std.proofs.lemmas.List.{drop-replicate, length-take, length-drop, replicate-append-replicate, take-replicate}
use Rattle.frames.specs.Cut.{cut}
use Rattle.requests.specs.Meaning.{seen_sizes}
use Rattle.requests.specs.Refusals.{unless_refused}
use Rattle.requests.specs.declared.answer.Refusal.{Refusal}
use Rattle.requests.specs.declared.sizes.Sizes.{Sizes}
use Rattle.tables.specs.Cells.{decoded, none}
use Rattle.tables.specs.State.{Lent, view}
use Rattle.tables.proofs.Rows.{map_replicate}
use Rattle.disk.specs.Moves.{lent}
use Rattle.calls.specs.declared.manager.Manager.{Manager}
use Rattle.calls.specs.Entry.{Opened, cut_lent, rest_lent}
use Rattle.calls.specs.Machine.{first}
use Rattle.calls.specs.Memory.{limits_of, machine}

-- rows of one and the same element
pub cut_replicate : {X : Type 0} (w n : ℕ) (x : X) → cut w n (replicate (n * w) x) ≡ replicate n (replicate w x)
unfolding cut
cut_replicate w zero x = refl
cut_replicate w (suc n) x =
    let whole : suc n * w ≡ n * w + w = suc-mul n w in
    let rest : suc n * w - w ≡ n * w = omega arith in
    (λ i. take-replicate w (suc n * w) x (omega arith) i ∷ cut w n (drop-replicate w (suc n * w) x i)) ∙ ap (λ k. replicate w x ∷ cut w n (replicate k x)) rest
    ∙ ap (λ rs. replicate w x ∷ rs) (cut_replicate w n x)

-- the record and memory at the start
pub record AtStart (z : Sizes) (g : Manager) : Type 0 where
  pub sizes : g.sizes ≡ z
  pub alive : take z.processes g.alive ≡ true ∷ replicate (z.processes - 1) false
  pub hand : g.registers.hand.at ≡ 0
  pub reads : g.registers.transfers.reads ≡ 0
  pub writes : g.registers.transfers.writes ≡ 0
  pub slots : g.registers.lookaside.slots ≡ replicate 16 None

abbrev pub zeroed : Sizes → Lent
zeroed z =
    lent (replicate (z.processes * z.pages) 0) (replicate z.segments 0) (replicate z.segments 0) (replicate z.frames 0) (replicate z.frames 0) (replicate z.places 0)
    (replicate (z.frames * 256) 0) (replicate (z.places * 256) 0)

pub starts : (z : Sizes) (g : Manager) → AtStart z g → machine g (zeroed z) ≡ first (seen_sizes z) z.frames z.places
unfolding view first
starts z g s =
    let absent : map (decoded (limits_of z)) (replicate (z.processes * z.pages) 0) ≡ replicate (z.processes * z.pages) none = map_replicate (decoded (limits_of z)) (z.processes * z.pages) 0 in
    let rows = ap (cut z.pages z.processes) absent ∙ cut_replicate z.pages z.processes none in
    let segments : map (decoded (limits_of z)) (replicate z.segments 0) ≡ replicate z.segments none = map_replicate (decoded (limits_of z)) z.segments 0 in
    let counts : replicate z.frames 0 ++ replicate z.places 0 ≡ replicate (z.frames + z.places) 0 = replicate-append-replicate z.frames z.places 0 in
    let pages = (λ i. cut_replicate 256 z.frames 0 i ++ cut_replicate 256 z.places 0 i) ∙ replicate-append-replicate z.frames z.places (replicate 256 0) in
    (λ i. machine (record { sizes = s.sizes i; alive = g.alive; registers = g.registers }) (zeroed z))
    ∙ (λ i. record {
      frames = z.frames;
      alive = s.alive i;
      whole = record {
        state = record { rows = rows i; segments = segments i; lookers = replicate z.segments 0; counts = counts i; pages = pages i; used = replicate z.frames 0 };
        hand = s.hand i;
        reads = s.reads i;
        writes = s.writes i;
        slots = s.slots i;
      };
    })

-- the first n of a list that was filled with zeros
pub filled : (n : ℕ) (xs ys : List ℕ) → n ≤ length xs → ys ≡ replicate (length (take (n - 0) (drop 0 xs))) 0 → ys ≡ replicate n 0
filled n xs ys h e = e ∙ ap (λ k. replicate k 0) (simp (length-take, length-drop) (let m : min (n - 0) (length xs - 0) ≡ n = omega arith in m))

pub opened_refused : (o : Option Refusal) (z : Sizes) (m : Lent) (e : Refusal) → unless_refused {T = Unit {0}} o tt ≡ Err e → Opened o z m (Err e) m
opened_refused None z m e q = let k : ◌≡◌ {A = ℕ} 0 1 = cc in absurd (omega arith)
opened_refused (Some f) z m e q = let s : f ≡ e = cc in (ap (λ (x : Refusal). Err x) (sym s), refl)

pub opened_done : (o : Option Refusal) (z : Sizes) (m : Lent) (g : Manager) (after : Lent) → unless_refused {T = Unit {0}} o tt ≡ Ok tt → AtStart z g → cut_lent z after ≡ zeroed z →
    rest_lent z after ≡ rest_lent z m → Opened o z m (Ok g) after
opened_done None z m g after q s e r = (g, refl, s.sizes, ap (machine g) e ∙ starts z g s, r)
opened_done (Some f) z m g after q s e r = let k : ◌≡◌ {A = ℕ} 0 1 = cc in absurd (omega arith)
