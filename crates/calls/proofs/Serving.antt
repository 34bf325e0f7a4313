-- From what the parts of a call leave to what the call leaves.
use Rattle.std.proofs.Common.{◌≡◌, ℕ, ◌<◌, Bool, set, take, Some, None, Option, sym, refl, ap, ◌∙◌}
use lib.Seq.{take-set-lt}
use Rattle.fold.specs.Fold as fold
use Rattle.requests.specs.Meaning as asks
use Rattle.requests.specs.Meaning.{Asked, answered, seen_sizes}
use Rattle.requests.specs.declared.answer.Answer.{Answer}
use Rattle.tables.specs.State.{State}
use Rattle.lookaside.specs.Purge.{purged}
use Rattle.disk.specs.declared.memory.Memory.{Memory}
use Rattle.disk.specs.Memory.{fixed, state_of}
use Rattle.calls.specs.declared.manager.Manager.{Manager}
use Rattle.calls.specs.Calls.{calls, changed, with_alive}
use Rattle.calls.specs.Memory.{Serves, ServesAsked, machine_of, serve}

-- a call that is refused leaves all as it was
pub refused : (g : Manager) (m : Memory) (c : fold.Call) (a : Answer) → calls (seen_sizes g.sizes) (machine_of g m) c ≡ (machine_of g m, answered a) → Serves g m c (g, a) m
refused g m c a e = record { same = refl; fixed = refl; serves = sym e }

-- The record after a change of pages: only its slots are others.
pub record Settled (g r : Manager) (m : Memory) : Type 0 where
  pub sizes : r.sizes ≡ g.sizes
  pub alive : r.alive ≡ g.alive
  pub hand : r.registers.hand ≡ g.registers.hand
  pub transfers : r.registers.transfers ≡ g.registers.transfers
  pub slots : r.registers.lookaside.slots ≡ purged (state_of m).rows (state_of m).segments (state_of m).counts m.limits.frames g.registers.lookaside.slots

-- pages were changed, and then the slots were settled
pub settled_machine : (g r : Manager) (m after : Memory) (s : State) → Settled g r after → fixed after ≡ fixed m → state_of after ≡ s → machine_of r after ≡ changed (machine_of g m) s
settled_machine g r m after s h k e = λ i.
    record {
      frames = (k i).limits.frames;
      alive = take (h.sizes i).processes (h.alive i);
      whole = record {
        state = e i;
        hand = (h.hand i).at;
        reads = (h.transfers i).reads;
        writes = (h.transfers i).writes;
        slots = (h.slots ∙ (λ j. purged (e j).rows (e j).segments (e j).counts (k j).limits.frames g.registers.lookaside.slots)) i;
      };
    }

-- a process has come or gone
pub with_alive_machine : (g r : Manager) (m : Memory) (p : ℕ) (there : Bool) → r ≡ record { sizes = g.sizes; alive = set g.alive p there; registers = g.registers } → p < g.sizes.processes →
    machine_of r m ≡ with_alive (machine_of g m) p there
with_alive_machine g r m p there e h =
    ap (λ (x : Manager). machine_of x m) e
    ∙ (λ i. record { frames = m.limits.frames; alive = take-set-lt g.sizes.processes g.alive p there h i; whole = (machine_of g m).whole })

pub no_some : {X : Type 0} (o : Option X) → ((x : X) → o ≡ Some x → ⊥) → o ≡ None
no_some None n = refl
no_some (Some x) n = absurd (n x refl)

-- what was served for a call was served for what was asked, where that says the call
pub of_call : (g : Manager) (m : Memory) (r : Manager × Answer) (after : Memory) (k : fold.Call) (a : Asked) → a ≡ asks.calls k → Serves g m k r after → ServesAsked g m a r after
of_call g m r after k a e h = record { same = h.same; fixed = h.fixed; served = h.serves ∙ ap (serve (seen_sizes g.sizes) (machine_of g m)) (sym e) }
