-- Every call keeps manager and private machine together, and so every row of calls does.
use Rattle.std.proofs.Common.{◌≡◌, ℕ, suc, ◌+◌, ◌<◌, ◌≤◌, List, [], ◌∷◌, sym, refl, ◌∙◌, subst}
use Rattle.fold.specs.Fold.{Sizes, World, Call, fork, leave, map, drop, make, look, load, store, call, answers, after, begin}
use Rattle.fold.specs.Promise.{manager_answers}
use Rattle.disk.specs.Whole.{Choice}
use Rattle.calls.specs.Machine.{Machine, first}
use Rattle.calls.specs.Calls.{calls_by}
use Rattle.simulation.specs.Run.{Usable, after_calls}
use Rattle.simulation.proofs.Begin.{begins, slots_begin}
use Rattle.simulation.proofs.EntryCalls.{map_step, drop_step, look_step}
use Rattle.simulation.proofs.Fork.{fork_step}
use Rattle.simulation.proofs.Leave.{leave_step}
use Rattle.simulation.proofs.Load.{load_together}
use Rattle.simulation.proofs.Make.{make_step}
use Rattle.simulation.proofs.Outcome.{outcome}
use Rattle.simulation.proofs.Sim.{Sim, SlotsTrue}
use Rattle.simulation.proofs.Step.{Step}
use Rattle.simulation.proofs.Store.{store_together}
use Rattle.simulation.proofs.Taking.{taken}

module _ {z : Sizes} {lab : ℕ → ℕ} {m : Machine} {w : World} (sim : Sim z lab m w) (slots : SlotsTrue m) (choose : Choice) (usable : Usable choose m.frames) where
  pub made_step : (p v : ℕ) → Step choose z m w (make p v)
  made_step p v =
      let k = taken z lab m w sim choose usable in
      make_step sim choose slots p v (λ t e. let g = k.given t e in record { lab = k.lab'; sim = k.moved.sim; within = g.0; free = g.1 })

  pub step : (c : Call) → Step choose z m w c
  step (fork p) = fork_step sim choose slots p
  step (leave p) = leave_step sim choose slots p
  step (map p v) = map_step sim choose slots p v
  step (drop p v) = drop_step sim choose slots p v
  step (make p v) = made_step p v
  step (look p v q u) = look_step sim choose slots p v q u
  step (load p v o) = load_together z lab m w sim slots choose usable p v o
  step (store p v o x) = store_together z lab m w sim slots choose usable p v o x

-- what holds of both machines after a row of calls
pub record Reached (z : Sizes) (frames : ℕ) (m : Machine) (w : World) : Type 0 where
  pub lab : ℕ → ℕ
  pub sim : Sim z lab m w
  pub slots : SlotsTrue m
  pub frames_stay : m.frames ≡ frames

module _ (choose : Choice) (z : Sizes) (frames : ℕ) (usable : Usable choose frames) where
  pub next : (m : Machine) (w : World) → Reached z frames m w → (c : Call) → (Reached z frames (calls_by choose z m c).0 (call z w c).0) × ((calls_by choose z m c).1 ≡ (call z w c).1)
  next m w r c =
      let s = step r.sim r.slots choose (subst (Usable choose) (sym r.frames_stay) usable) c in
      (record { lab = s.lab; sim = s.sim; slots = s.slots; frames_stay = (outcome choose z m c).1 ∙ r.frames_stay }, s.same)

  pub reaches : (m : Machine) (w : World) → Reached z frames m w → (cs : List Call) → Reached z frames (after_calls choose z m cs) (after z w cs)
  unfolding after_calls after
  reaches m w r [] = r
  reaches m w r (c ∷ cs) = reaches (calls_by choose z m c).0 (call z w c).0 (next m w r c).0 cs

  pub same_answers_from : (m : Machine) (w : World) → Reached z frames m w → (cs : List Call) → manager_answers (calls_by choose) z m cs ≡ answers z w cs
  unfolding manager_answers answers
  same_answers_from m w r [] = refl
  same_answers_from m w r (c ∷ cs) = let n = next m w r c in λ i. n.1 i ∷ same_answers_from (calls_by choose z m c).0 (call z w c).0 n.0 cs i

pub opening : (z : Sizes) (n frames places : ℕ) → z.words ≡ 256 → z.processes ≡ suc n → n < 16 → z.pages ≤ 64 → z.segments ≤ 16 → 1 ≤ frames → z.hold ≡ frames + places →
    Reached z frames (first z frames places) (begin z n)
unfolding first
opening z n frames places words processes few few_pages few_segments some hold =
    record {
      lab = λ x. x;
      sim = begins z n frames places words processes few few_pages few_segments some hold;
      slots = slots_begin z n frames places words processes few few_pages few_segments some hold;
      frames_stay = refl;
    }
