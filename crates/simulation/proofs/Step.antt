-- What one call has to keep: the relation and the true slots, with the same answer. And what Sim does not look at.
use Rattle.std.proofs.Common.{◌≡◌, ℕ, ◌<◌, Bool, true, cond, List, [], length, get_or, sym, refl, ap, ◌∙◌, subst, inl, inr, arith}
use Rattle.std.proofs.lemmas.Bool.{cases_Bool, cond-true, cond-false}
use Rattle.fold.specs.Fold.{Sizes, World, Call, Answer, fault, call, process, page}
use Rattle.tables.specs.State.{State}
use Rattle.lookaside.proofs.Laws.{purged_is_true}
use Rattle.disk.specs.Whole.{Choice}
use Rattle.calls.specs.Machine.{Machine, living}
use Rattle.calls.specs.Calls.{calls_by, changed}
use Rattle.simulation.proofs.Sim.{Sim, SlotsTrue, state}

-- what both machines are after a call, and what they have answered: they still go together, and the answers are the same
pub record Together (z : Sizes) (m : Machine × Answer) (w : World × Answer) : Type 0 where
  pub lab : ℕ → ℕ
  pub sim : Sim z lab m.0 w.0
  pub slots : SlotsTrue m.0
  pub same : m.1 ≡ w.1

-- the same of equal outcomes
pub carried : {z : Sizes} {r q : Machine × Answer} {s t : World × Answer} → q ≡ r → t ≡ s → Together z r s → Together z q t
carried {z} {r} {q} {s} {t} e k h = subst (λ a. Together z a t) (sym e) (subst (λ a. Together z r a) (sym k) h)

-- a call keeps both together
abbrev pub Step : Choice → Sizes → Machine → World → Call → Type 0
Step choose z m w c = Together z (calls_by choose z m c) (call z w c)

-- both machines go the same way
pub step_by : (choose : Choice) (z : Sizes) (m : Machine) (w : World) (c : Call) (m' : Machine) (w' : World) (a : Answer) (lab : ℕ → ℕ) → calls_by choose z m c ≡ (m', a) →
    call z w c ≡ (w', a) → Sim z lab m' w' → SlotsTrue m' → Step choose z m w c
step_by choose z m w c m' w' a lab e f sim slots = carried e f (record { lab = lab; sim = sim; slots = slots; same = refl })

-- a call that is refused leaves both as they were
pub refused : (choose : Choice) (z : Sizes) (m : Machine) (w : World) (c : Call) (a : Answer) (lab : ℕ → ℕ) → Sim z lab m w → SlotsTrue m → calls_by choose z m c ≡ (m, a) →
    call z w c ≡ (w, a) → Step choose z m w c
refused choose z m w c a lab sim slots e f = step_by choose z m w c m w a lab e f sim slots

-- A call that begins with a test, which both machines answer alike, is refused by both or goes on.
pub by_test : (choose : Choice) (z : Sizes) (m : Machine) (w : World) (c : Call) (lab : ℕ → ℕ) → Sim z lab m w → SlotsTrue m → (b b' : Bool) (r : Machine × Answer) (x : World × Answer) →
    calls_by choose z m c ≡ cond b r (m, fault) → call z w c ≡ cond b' x (w, fault) → b' ≡ b → (b ≡ true → calls_by choose z m c ≡ r → call z w c ≡ x → Step choose z m w c) →
    Step choose z m w c
by_test choose z m w c lab sim slots b b' r x e f same goes =
    elim (cases_Bool b) [
      | inl t ↦ goes t (e ∙ cond-true b _ _ t) (f ∙ cond-true b' _ _ (same ∙ t))
      | inr n ↦ refused choose z m w c fault lab sim slots (e ∙ cond-false b _ _ n) (f ∙ cond-false b' _ _ (same ∙ n))
    ]

-- after a purge every slot is true, whatever has changed
pub changed_true : (m : Machine) (s : State) → SlotsTrue (changed m s)
changed_true m s = purged_is_true s.rows s.segments s.counts m.frames m.whole.slots

-- Two machines with the same tables and two worlds with the same pages. Who is there may differ, if both say the same: a process without pages may come or go.
-- Hand, reads, writes and slots are not looked at.
pub record Alike (z : Sizes) (m m' : Machine) (w w' : World) : Type 0 where
  pub frames : m.frames ≡ m'.frames
  pub tables : state m ≡ state m'
  pub processes_there : length m'.alive ≡ length m.alive
  pub alive : (p : ℕ) → (process w' p).alive ≡ living m' p
  pub processes : length w'.processes ≡ length w.processes
  pub wide : (p : ℕ) → p < z.processes → length (process w' p).pages ≡ z.pages
  pub pages : (p v : ℕ) → page w' p v ≡ page w p v
  pub segments : w'.segments ≡ w.segments
  pub next : w'.next ≡ w.next

pub alike_sim : (z : Sizes) (lab : ℕ → ℕ) (m m' : Machine) (w w' : World) → Alike z m m' w w' → Sim z lab m w → Sim z lab m' w'
alike_sim z lab m m' w w' a sim =
    let with : ℕ → State → Machine = λ n t.
    record { frames = n; alive = m'.alive; whole = record { state = t; hand = m'.whole.hand; reads = m'.whole.reads; writes = m'.whole.writes; slots = m'.whole.slots } } in
    subst (λ n. Sim z lab (with n (state m')) w') a.frames (subst (λ t. Sim z lab (with m.frames t) w') a.tables now)
  where
    now : Sim z lab (record { frames = m.frames; alive = m'.alive; whole = record { state = state m; hand = m'.whole.hand; reads = m'.whole.reads; writes = m'.whole.writes; slots = m'.whole.slots } }) w'
    now =
        let s = sim.shape in
        record {
          shape =
              record {
                words = s.words;
                some = s.some;
                within = s.within;
                few_processes = s.few_processes;
                few_pages = s.few_pages;
                few_segments = s.few_segments;
                processes = a.processes ∙ s.processes;
                wide = a.wide;
                segments = ap length a.segments ∙ s.segments;
                alive = a.processes_there ∙ s.alive;
                rows = s.rows;
                columns = s.columns;
                table = s.table;
                lookers = s.lookers;
                counts = s.counts;
                pages = s.pages;
                used = s.used;
              };
          fresh = omega (arith, sim.fresh, a.next);
          alive = a.alive;
          pages = λ p v. a.pages p v ∙ sim.pages p v;
          labels = λ p v x e. let l = sim.labels p v x e in (l.0, l.1, omega (arith, l.2, a.next));
          apart = sim.apart;
          looks = sim.looks;
          counts = sim.counts;
          lookers = sim.lookers;
          lying = λ n h k.
              let l = sim.lying n h k in
              record { where_it_is = l.where_it_is; at_it = l.at_it; within = l.within; alone = l.alone; bytes = l.bytes ∙ ap (λ (ss : List (List ℕ)). get_or ss n []) (sym a.segments) };
          idle = sim.idle;
        }
