-- The manager prints what the machine of private memories prints: both are together after every call, and so answer alike.
use Rattle.std.proofs.Common.{◌≡◌, ℕ, zero, suc, ◌+◌, ◌-◌, ◌/◌, ◌<◌, ◌≤◌, List, ◌++◌, length, drop, Some, None, Option, refl, ap, arith}
use Rattle.fold.specs.Fold as fold
use Rattle.frames.specs.Turn.{turn}
use Rattle.requests.specs.Meaning.{Asked, asked, calls, counts, seen_sizes}
use Rattle.requests.specs.Ranges.{ranged, sizes_of, sizes_refusal}
use Rattle.requests.specs.Refusals.{either_refusal}
use Rattle.requests.specs.Row.{call_at, row_refusal}
use Rattle.requests.specs.declared.answer.Refusal.{Refusal}
use Rattle.requests.specs.declared.request.Call.{Call}
use Rattle.requests.specs.declared.sizes.Sizes.{Sizes}
use Rattle.requests.proofs.Ranging.{in_range}
use Rattle.calls.specs.Calls as rule
use Rattle.calls.specs.Machine.{Machine, first}
use Rattle.calls.specs.Memory.{serve}
use Rattle.simulation.specs.Run.{Usable}
use Rattle.simulation.proofs.Run.{Reached, next, opening}
use Rattle.simulation.proofs.Taking.{turn_usable}
use Rattle.rows.specs.Played.{line, lines_from, played_text, told, unless}
use Rattle.play.specs.Seen.{counted, counted_by, counts_from, see, seen_lines, seen_text}

module _ (z : fold.Sizes) (frames : ℕ) (usable : Usable turn frames) (row : List ℕ) where
  abbrev Alike : ℕ → ℕ → Type 0
  Alike n i = (m : Machine) (w : fold.World) → Reached z frames m w → lines_from (serve z) row m n i ≡ lines_from (see z) row (w, counts_from z row m n i) n i

  -- one call, by what it asks
  one : (n i : ℕ) → Alike n (i + 1) → (m : Machine) (w : fold.World) → Reached z frames m w → (a : Asked) →
      line i (serve z m a).1 ++ lines_from (serve z) row (serve z m a).0 n (i + 1)
      ≡ line i (see z (w, counted_by z m a (λ k. counts_from z row k n (i + 1))) a).1 ++ lines_from (see z) row (see z (w, counted_by z m a (λ k. counts_from z row k n (i + 1))) a).0 n (i + 1)
  one n i later m w r (calls k) =
      let s = next turn z frames usable m w r k in λ j. line i (s.1 j) ++ later (rule.calls z m k).0 (fold.call z w k).0 s.0 j
  one n i later m w r counts = ap (λ rest. line i (rule.counts_answer m) ++ rest) (later m w r)

  by_call : (n i : ℕ) → Alike n (i + 1) → (m : Machine) (w : fold.World) → Reached z frames m w → (o : Option Call) →
      told (serve z) m i o (λ k. lines_from (serve z) row k n (i + 1)) ≡ told (see z) (w, counted z m o (λ k. counts_from z row k n (i + 1))) i o (λ k. lines_from (see z) row k n (i + 1))
  by_call n i later m w r None = later m w r
  by_call n i later m w r (Some c) = one n i later m w r (asked c)

  pub same_lines : (n i : ℕ) → Alike n i
  unfolding lines_from counts_from
  same_lines zero i m w r = refl
  same_lines (suc n) i m w r = by_call n i (same_lines n (i + 1)) m w r (call_at row i)

either_none : (a b : Option Refusal) → either_refusal a b ≡ None → a ≡ None
either_none None b e = refl
either_none (Some f) b e = cc

-- the lines of a row of a machine whose sizes are in range
row_same : (z : Sizes) (row : List ℕ) (n : ℕ) → sizes_refusal z ≡ None → lines_from (serve (seen_sizes z)) row (first (seen_sizes z) z.frames z.places) n 0 ≡ seen_lines z row n
row_same z row n e =
    let r = in_range (ranged z) e in
    let some : 1 ≤ z.frames = omega (arith, r) in
    let processes : z.processes ≡ suc (z.processes - 1) = omega (arith, r) in
    let few : z.processes - 1 < 16 = omega (arith, r) in
    let pages : z.pages ≤ 64 = omega (arith, r) in
    let segments : z.segments ≤ 16 = omega (arith, r) in
    same_lines (seen_sizes z) z.frames (turn_usable z.frames some) row n 0 (first (seen_sizes z) z.frames z.places) (fold.begin (seen_sizes z) (z.processes - 1))
    (opening (seen_sizes z) (z.processes - 1) z.frames z.places refl processes few pages segments some refl)

by_refusal : (o : Option Refusal) (a b : List ℕ) → (o ≡ None → a ≡ b) → unless o a ≡ unless o b
by_refusal None a b h = h refl
by_refusal (Some e) a b h = refl

-- for any bytes
pub same_text : (input : List ℕ) → played_text input ≡ seen_text input
same_text input =
    by_refusal (either_refusal (sizes_refusal (sizes_of input)) (row_refusal (drop 10 input))) _ _
    (λ e. row_same (sizes_of input) (drop 10 input) (length (drop 10 input) / 8) (either_none (sizes_refusal (sizes_of input)) (row_refusal (drop 10 input)) e))
