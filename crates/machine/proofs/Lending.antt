-- A machine lends its own memory and has it back: what a call says of lent lists it says of the machine.
use Rattle.std.proofs.Common.{◌≡◌, ℕ, ◌*◌, false, cond, ◌&&◌, leb, length, is_some, Some, None, Ok, Err, Option, Result, sym, refl, ap, ◌∙◌, arith}
use Rattle.std.proofs.lemmas.Bool.{true≢false}
use Rattle.requests.specs.Meaning.{Asked, seen_sizes}
use Rattle.requests.specs.Ranges.{sizes_refusal}
use Rattle.requests.specs.Refusals.{either_refusal}
use Rattle.requests.specs.declared.answer.Answer.{Answer}
use Rattle.requests.specs.declared.answer.Part.TheVariants as part
use Rattle.requests.specs.declared.answer.Refusal.{Refusal}
use Rattle.requests.specs.declared.answer.Refusal.TheVariants.{Lent as TooShort}
use Rattle.requests.specs.declared.sizes.Sizes.{Sizes}
use Rattle.tables.specs.State.{Lent}
use Rattle.calls.specs.declared.manager.Manager.{Manager}
use Rattle.calls.specs.Entry.{Called, Opened, cut_lent, entry_refusal}
use Rattle.calls.specs.Machine.{first}
use Rattle.calls.specs.Memory.{Served, machine}

-- where memory is long enough, a call is answered
pub answered_call : (o : Option Refusal) (g : Manager) (m : Lent) (a : Asked) (r : Result Answer Refusal) (h : Manager) (after : Lent) → is_some o ≡ false → Called o g m a r h after →
    (answer : Answer) × (r ≡ Ok answer) × Served g (cut_lent g.sizes m) a (h, answer) (cut_lent g.sizes after)
answered_call None g m a r h after e c = (c.0, c.1, c.2)
answered_call (Some f) g m a r h after e c = absurd (true≢false e)

-- whether it is long enough is a matter of lengths alone
pub record AsLong (m after : Lent) : Type 0 where
  pub table : length after.table ≡ length m.table
  pub segments : length after.segments ≡ length m.segments
  pub lookers : length after.lookers ≡ length m.lookers
  pub frame_counts : length after.frame_counts ≡ length m.frame_counts
  pub used : length after.used ≡ length m.used
  pub place_counts : length after.place_counts ≡ length m.place_counts
  pub frames : length after.frames ≡ length m.frames
  pub disk : length after.disk ≡ length m.disk

pub as_roomy : (z : Sizes) (m after : Lent) → AsLong m after → entry_refusal z after ≡ entry_refusal z m
as_roomy z m after l =
    λ i. either_refusal (sizes_refusal z)
    (cond (leb (z.frames * 256) (l.frames i))
    (cond (leb (z.places * 256) (l.disk i))
    (cond
    (leb (z.processes * z.pages) (l.table i)
    && (leb z.segments (l.segments i) && (leb z.segments (l.lookers i) && (leb z.frames (l.frame_counts i) && (leb z.frames (l.used i) && leb z.places (l.place_counts i))))))
    None (Some (TooShort part.Tables))) (Some (TooShort part.Disk))) (Some (TooShort part.Frames)))

-- an opening that gave a manager was not refused
pub opened_manager : (o : Option Refusal) (z : Sizes) (m : Lent) (r : Result Manager Refusal) (after : Lent) (g : Manager) → r ≡ Ok g → Opened o z m r after →
    (o ≡ None) × (g.sizes ≡ z) × (machine g (cut_lent z after) ≡ first (seen_sizes z) z.frames z.places)
opened_manager (Some e) z m r after g k c = let b : ◌≡◌ {A = ℕ} 0 1 = (let q : Ok g ≡ Err e = sym k ∙ c.0 in cc) in absurd (omega arith)
opened_manager None z m r after g k c =
    let same : c.0 ≡ g = (let q : Ok c.0 ≡ Ok g = sym c.1 ∙ k in cc) in
    (refl, ap (λ (x : Manager). x.sizes) (sym same) ∙ c.2, ap (λ (x : Manager). machine x (cut_lent z after)) (sym same) ∙ c.3)
