-- What is promised: each a statement, a type whose proof is in proofs/ and is asked for by a function of src/.
-- Assumes nothing.
use Rattle.std.specs.Prelude.{◌≡◌, ℕ, suc, ◌+◌, ◌-◌, ◌<◌, ◌≤◌, false, ◌≢◌, ◌⊎◌, List, [], ◌∷◌}
use Rattle.fold.specs.Fold.{Sizes, World, Call, Answer, process, page, held, call, answers, after, begin, own, fork, load, store, done, fault, full, Bytes}

-- what a manager of any kind answers to a row of calls, by what it does at one call
unfoldable pub manager_answers : {Manager : Type 0} → (Sizes → Manager → Call → Manager × Answer) → Sizes → Manager → List Call → List Answer
manager_answers calls z m [] = []
manager_answers calls z m (c ∷ cs) = (calls z m c).1 ∷ manager_answers calls z (calls z m c).0 cs

-- THE MAIN PROMISE: a manager with frames, tables, copies made at a store, look-aside entries and a disk answers every row of
-- calls as the machine of private memories does, refusals included, however its hold is split into frames and places.
abbrev pub SameAnswers : (Manager : Type 0) → (Sizes → ℕ → ℕ → Manager) → (Sizes → Manager → Call → Manager × Answer) → Type 0
SameAnswers Manager first calls =
    (z : Sizes) (n frames places : ℕ) (cs : List Call) → z.processes ≡ suc n → n < 16 → z.words ≡ 256 → 1 ≤ z.pages → z.pages ≤ 64 → z.segments ≤ 16 →
    1 ≤ frames → frames ≤ 512 → places ≤ 512 → z.hold ≡ frames + places →
    Bytes cs → manager_answers calls z (first z frames places) cs ≡ answers z (begin z n) cs

-- the same for a manager that is opened by its hold alone
abbrev pub SameAnswersByHold : (Manager : Type 0) → (Sizes → ℕ → Manager) → (Sizes → Manager → Call → Manager × Answer) → Type 0
SameAnswersByHold Manager first calls =
    (z : Sizes) (n : ℕ) (cs : List Call) → z.processes ≡ suc n → n < 16 → z.words ≡ 256 → 1 ≤ z.pages → z.pages ≤ 64 → z.segments ≤ 16 →
    1 ≤ z.hold → z.hold ≤ 1024 →
    Bytes cs → manager_answers calls z (first z n) cs ≡ answers z (begin z n) cs

-- a rule that says how many frames a hold has, the rest being places, and is within the sizes
abbrev pub Splits : (ℕ → ℕ) → Type 0
Splits frames = (hold : ℕ) → 1 ≤ hold → hold ≤ 1024 → (1 ≤ frames hold) × (frames hold ≤ 512) × (frames hold ≤ hold) × (hold - frames hold ≤ 512)

-- the main promise gives the form by hold, for every such rule
abbrev pub ByHold : Type 0 → Type 0
ByHold Manager =
    (first : Sizes → ℕ → ℕ → Manager) (calls : Sizes → Manager → Call → Manager × Answer) (frames : ℕ → ℕ) → Splits frames →
    SameAnswers Manager first calls → SameAnswersByHold Manager (λ z n. first z (frames z.hold) (z.hold - frames z.hold)) calls

-- What is stored to one own page is not seen in any other page, of another process or the same: a load of page v of p is
-- answered alike before and after a store to page u of q.
abbrev pub Apart : Type 0
Apart =
    (z : Sizes) (n : ℕ) (cs : List Call) (p v o q u i x l : ℕ) (ws : List ℕ) → z.processes ≡ suc n → (p ≡ q → v ≢ u) →
    page (after z (begin z n) cs) q u ≡ own l ws →
    (call z (call z (after z (begin z n) cs) (store q u i x)).0 (load p v o)).1 ≡ (call z (after z (begin z n) cs) (load p v o)).1

-- right after a fork, a child's load is its parent's
abbrev pub Child : Type 0
Child =
    (z : Sizes) (n : ℕ) (cs : List Call) (p c v o : ℕ) → z.processes ≡ suc n → (call z (after z (begin z n) cs) (fork p)).1 ≡ done c →
    (call z (call z (after z (begin z n) cs) (fork p)).0 (load c v o)).1 ≡ (call z (after z (begin z n) cs) (load p v o)).1

-- pages of one label hold the same bytes
abbrev pub OneLabel : Type 0
OneLabel =
    (z : Sizes) (n : ℕ) (cs : List Call) (p v q u l : ℕ) (ws xs : List ℕ) → z.processes ≡ suc n →
    page (after z (begin z n) cs) p v ≡ own l ws → page (after z (begin z n) cs) q u ≡ own l xs → ws ≡ xs

-- no more is ever held than there is
abbrev pub WithinHold : Type 0
WithinHold = (z : Sizes) (n : ℕ) (cs : List Call) → z.processes ≡ suc n → held (after z (begin z n) cs) ≤ z.hold

-- when all have left, nothing is held
abbrev pub NothingLeft : Type 0
NothingLeft =
    (z : Sizes) (n : ℕ) (cs : List Call) → z.processes ≡ suc n →
    ((p : ℕ) → (process (after z (begin z n) cs) p).alive ≡ false) → held (after z (begin z n) cs) ≡ 0

-- a store that is answered done makes the next load of that byte answer what was stored
abbrev pub LoadAfterStore : Type 0
LoadAfterStore =
    (z : Sizes) (n : ℕ) (cs : List Call) (p v o x k : ℕ) → z.processes ≡ suc n → (call z (after z (begin z n) cs) (store p v o x)).1 ≡ done k →
    (call z (call z (after z (begin z n) cs) (store p v o x)).0 (load p v o)).1 ≡ done x

-- a call that is refused leaves the world as it was, whatever world it is
abbrev pub RefusedUnchanged : Type 0
RefusedUnchanged =
    (z : Sizes) (w : World) (c : Call) → ((call z w c).1 ≡ fault) ⊎ ((call z w c).1 ≡ full) → (call z w c).0 ≡ w
