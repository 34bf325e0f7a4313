-- How a call ends, on any machine, reachable or not: it is done, or nothing has changed; and the frames are as many as before.
use Rattle.std.proofs.Common.{◌≡◌, ℕ, Bool, cond, ◌⊎◌, Some, None, Option, sym, refl, ap, ◌∙◌, inl, inr, arith}
use Rattle.std.proofs.lemmas.Bool.{cases_Bool, cond_both, cond-false}
use Rattle.fold.specs.Fold.{Sizes, Call, Answer, fork, leave, map, drop, make, look, load, store, done, fault, full}
use Rattle.tables.specs.Cells.{Held, nothing, zeros, at, segment}
use Rattle.tables.specs.State.{Spot, nowhere, blank, lies, walk}
use Rattle.lookaside.specs.declared.slots.Slot.{Slot}
use Rattle.disk.specs.declared.registers.Taken.{Taken}
use Rattle.disk.specs.Whole.{Choice, Whole}
use Rattle.copies.specs.declared.anew.Written.{Written}
use Rattle.copies.specs.Laws.{copies_first}
use Rattle.copies.specs.Own.{alone_by, own_holds, stored_own}
use Rattle.copies.proofs.Laws.{full_when_used_up}
use Rattle.segments.specs.declared.make.Made.{Made}
use Rattle.segments.specs.Reach.{put_by, reach_page, reached_by, stored_to_segment}
use Rattle.segments.proofs.Full.{make_full_exactly}
use Rattle.calls.specs.Machine.{Machine, lowest_absent, with_whole}
use Rattle.calls.specs.Calls.{calls_by, fork_to, holds, load_by, load_walked, look_at, made, own_stored, segment_stored, slot_found, store_by, store_walked}

-- the same machine, or an answer done; and no frame more or less
abbrev pub Outcome : Machine → Machine × Answer → Type 0
Outcome m r = ((r.0 ≡ m) ⊎ ((n : ℕ) × (r.1 ≡ done n))) × (r.0.frames ≡ m.frames)

module _ (choose : Choice) (z : Sizes) (m : Machine) where
  refuses : (a : Answer) → Outcome m (m, a)
  refuses a = (inl refl, refl)

  -- a call that begins with a test
  by : (b : Bool) (r : Machine × Answer) → Outcome m r → Outcome m (cond b r (m, fault))
  by b r o = cond_both b _ _ (Outcome m) (λ _. o) (λ _. refuses fault)

  forks : (p : ℕ) (r : Option ℕ) → Outcome m (fork_to z m p r)
  forks p None = refuses full
  forks p (Some c) = (inr (c, refl), refl)

  looks : (p v : ℕ) (h : Held) → Outcome m (look_at m p v h)
  looks p v nothing = refuses fault
  looks p v zeros = refuses fault
  looks p v (at x) = refuses fault
  looks p v (segment s) = (inr (s, refl), refl)

  makes : (w : Whole) (r : Option Made) → (r ≡ None → w ≡ m.whole) → Outcome m (made m w r)
  makes w None same = (inl (ap (with_whole m) (same refl)), refl)
  makes w (Some s) same = (inr (s.segment, refl), refl)

  loads_by : (p v o : ℕ) (free : Bool) (s : Spot) → Outcome m (load_walked choose m p v o free s)
  loads_by p v o free nowhere = refuses fault
  loads_by p v o free blank = refuses (done 0)
  loads_by p v o free (lies x) = (inr (_, refl), refl)

  loads : (p v o : ℕ) (s : Option Slot) → Outcome m (load_by choose m p v o s)
  loads p v o None = loads_by p v o _ (walk m.whole.state p v).spot
  loads p v o (Some s) = (inr (_, refl), refl)

  -- a store that is full, or a fault, has changed nothing
  owned : (p v : ℕ) (w : Whole) (r : Option Written) → (r ≡ None → w ≡ m.whole) → Outcome m (own_stored m p v w r)
  owned p v w None same = (inl (ap (with_whole m) (same refl)), refl)
  owned p v w (Some t) same = (inr (0, refl), refl)

  in_segment : (p v : ℕ) (w : Whole) (r : Option Taken) → (r ≡ None → w ≡ m.whole) → Outcome m (segment_stored m p v w r)
  in_segment p v w None same = (inl (ap (with_whole m) (same refl)), refl)
  in_segment p v w (Some t) same = (inr (0, refl), refl)

  alone_none : (p v o b : ℕ) (h : Held) → (alone_by choose m.frames m.whole p v o b h).1 ≡ None → (alone_by choose m.frames m.whole p v o b h).0 ≡ m.whole
  alone_none p v o b nothing e = refl
  alone_none p v o b zeros e = refl
  alone_none p v o b (at x) e = absurd (let no : ◌≡◌ {A = ℕ} 0 1 = cc in omega arith)
  alone_none p v o b (segment s) e = refl

  own_none : (p v o b : ℕ) → (stored_own choose m.frames m.whole p v o b).1 ≡ None → (stored_own choose m.frames m.whole p v o b).0 ≡ m.whole
  unfolding stored_own
  own_none p v o b e =
      elim (cases_Bool (copies_first m.whole p v)) [
        | inl must ↦ ((full_when_used_up choose m.frames m.whole p v o b must).only e).1
        | inr alone ↦
            let is = cond-false {A = Whole × Option Written} (copies_first m.whole p v) _ (alone_by choose m.frames m.whole p v o b (own_holds m.whole p v)) alone in
            ap (λ (r : Whole × Option Written). r.0) is ∙ alone_none p v o b (own_holds m.whole p v) (sym (ap (λ (r : Whole × Option Written). r.1) is) ∙ e)
      ]

  reach_none : (o b : ℕ) (s : Spot) → let r = reached_by choose m.frames m.whole s in (put_by o b r.0 r.1).1 ≡ None → (put_by o b r.0 r.1).0 ≡ m.whole
  reach_none o b nowhere e = refl
  reach_none o b blank e = refl
  reach_none o b (lies x) e = absurd (let no : ◌≡◌ {A = ℕ} 0 1 = cc in omega arith)

  segment_none : (p v o b : ℕ) → (stored_to_segment choose m.frames m.whole p v o b).1 ≡ None → (stored_to_segment choose m.frames m.whole p v o b).0 ≡ m.whole
  unfolding stored_to_segment reach_page
  segment_none p v o b e = reach_none o b (walk m.whole.state p v).spot e

  stores_by : (p v o b : ℕ) (h : Held) → Outcome m (store_walked choose m p v o b h)
  stores_by p v o b nothing = refuses fault
  stores_by p v o b zeros = owned p v _ _ (own_none p v o b)
  stores_by p v o b (at x) = owned p v _ _ (own_none p v o b)
  stores_by p v o b (segment s) = in_segment p v _ _ (segment_none p v o b)

  stores : (p v o b : ℕ) (s : Option Slot) → Outcome m (store_by choose m p v o b s)
  stores p v o b None = stores_by p v o b (holds m p v)
  stores p v o b (Some s) = cond_both s.free _ _ (Outcome m) (λ _. (inr (0, refl), refl)) (λ _. stores_by p v o b (holds m p v))

  pub outcome : (c : Call) → Outcome m (calls_by choose z m c)
  unfolding calls_by
  outcome (fork p) = by _ _ (forks p (lowest_absent 0 m.alive))
  outcome (leave p) = by _ _ (inr (0, refl), refl)
  outcome (map p v) = by _ _ (inr (0, refl), refl)
  outcome (drop p v) = by _ _ (inr (0, refl), refl)
  outcome (make p v) = by _ _ (makes _ _ (λ e. ((make_full_exactly choose m.frames m.whole p v).only e).1))
  outcome (look p v q u) = by _ _ (looks p v (holds m q u))
  outcome (load p v o) = by _ _ (loads p v o (slot_found m p v))
  outcome (store p v o x) = by _ _ (stores p v o x (slot_found m p v))

  -- a call that is refused leaves the machine as it was
  pub refused_same : (c : Call) → ((calls_by choose z m c).1 ≡ fault) ⊎ ((calls_by choose z m c).1 ≡ full) → (calls_by choose z m c).0 ≡ m
  refused_same c said = elim (outcome c).0 [ inl s ↦ s | inr d ↦ absurd (not_done _ d.0 d.1 said) ]
    where
      not_done : (a : Answer) (n : ℕ) → a ≡ done n → (a ≡ fault) ⊎ (a ≡ full) → ⊥
      not_done a n d (inl e) = let no : ◌≡◌ {A = ℕ} 0 1 = cc in omega arith
      not_done a n d (inr e) = let no : ◌≡◌ {A = ℕ} 0 1 = cc in omega arith
