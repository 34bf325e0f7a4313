-- The memory of the code and the world that it stands for, at one process or segment.
use Rattle.std.proofs.Common.{◌≡◌, ℕ, zero, suc, ◌+◌, ◌<◌, ◌≤◌, ◌-◌, ◌^◌, min, Bool, true, false, cond, eqb, leb, List, [], ◌∷◌, ◌++◌, sum_by, count_by, map, length, get_or, set, vec_items, vec_len, Vec, Option, Some, None, MatchOption, sym, refl, ap, ◌∙◌, inl, inr, add-one, arith}
use Rattle.std.proofs.lemmas.List.{map-set, set_past, length-map, get_or-map, get_or_past}
use Rattle.std.specs.List.{fold as fold_list, range_with_len}
use Rattle.std.proofs.lemmas.List.{map-id}
use Rattle.std.proofs.lemmas.List.FromFn.{map-range_with_len_more}
use Rattle.std.proofs.lemmas.List.Sums.{sum_by-cons, sum_by-append}
use Rattle.private.proofs.Pages.{page_is, page_past}
use Rattle.std.specs.Slice.{IsItemAt}
use Rattle.std.specs.Bool.{then_some}
use denote.Ref.{Bor}
use Rattle.std.proofs.lemmas.Bool.{false≢true, cond-true, cond-false, le-leb, lt-leb, eq-eqb, ne_eqb, cases_lt}
use Rattle.std.specs.Vec.{with_item}
use Rattle.std.specs.declared.alloc.Global.{Global}
use Rattle.fold.specs.Fold as fold
use Rattle.fold.specs.Fold.{process, with_process, with_page, over_all, first_free, first_segment, segments_from, over_pages, lookers, page, there}
use Rattle.private.specs.See.{see, with_segment, segment_at, with_byte}
use Rattle.private.specs.SeePage.{see_page, see_process, put_in, rewritten, matching}
use Rattle.private.specs.declared.memory.Memory.{Memory}
use Rattle.private.specs.declared.process.Process.{Process}
use Rattle.private.specs.declared.page.Page.{Page}
use Rattle.private.specs.declared.page.Sought.{Sought}

pub process_at : (m : Memory) (p : ℕ) (q : Process) → p < vec_len m.processes → q ≡ get_or (vec_items m.processes) p q → process (see m) p ≡ see_process q
unfolding process
process_at m p q h e =
    let within : p < length (vec_items m.processes) = omega (arith, m.processes.ok.0) in
    get_or-map see_process (vec_items m.processes) p q fold.nobody within ∙ sym (ap see_process e)

pub process_past : (m : Memory) (p : ℕ) → vec_len m.processes ≤ p → process (see m) p ≡ fold.nobody
unfolding process
process_past m p h =
    let past : length (map see_process (vec_items m.processes)) ≤ p = rw length-map (omega (arith, m.processes.ok.0)) in
    get_or_past (map see_process (vec_items m.processes)) p fold.nobody past

pub segment_is : (m : Memory) (s : ℕ) (v : Vec ℕ Global) → s < vec_len m.segments → v ≡ get_or (vec_items m.segments) s v → segment_at (see m) s ≡ vec_items v
segment_is m s v h e =
    let within : s < length (vec_items m.segments) = omega (arith, m.segments.ok.0) in
    get_or-map vec_items (vec_items m.segments) s v [] within ∙ sym (ap vec_items e)

-- process p in the place of which stands another
abbrev pub with_p : Memory → ℕ → Process → Memory
with_p m p q = record { heap = m.heap; processes = with_item m.processes p q; segments = m.segments; next = m.next }

abbrev pub with_s : Memory → ℕ → Vec ℕ Global → Memory
with_s m s v = record { heap = m.heap; processes = m.processes; segments = with_item m.segments s v; next = m.next }

pub put_process_here : (m : Memory) (p : ℕ) (q : Process) → see (with_p m p q) ≡ with_process (see m) p (see_process q)
unfolding with_process
put_process_here m p q =
    ap (λ (ps : List fold.Process). record { processes = ps; segments = (see m).segments; next = m.next })
    (map-set see_process (vec_items m.processes) p q)

pub put_process_past : (m : Memory) (p : ℕ) (q : fold.Process) → vec_len m.processes ≤ p → see m ≡ with_process (see m) p q
unfolding with_process
put_process_past m p q h =
    let past : length (map see_process (vec_items m.processes)) ≤ p = rw length-map (omega (arith, m.processes.ok.0)) in
    ap (λ (ps : List fold.Process). record { processes = ps; segments = (see m).segments; next = m.next }) (sym (set_past _ p q past))

-- process p put into processes v, and segment s into segments v
pub put_process_is : (m : Memory) (v : Vec Process Global) (p : ℕ) (q : Process) → vec_items v ≡ set (vec_items m.processes) p q → see (record { heap = m.heap; processes = v; segments = m.segments; next = m.next }) ≡ with_process (see m) p (see_process q)
unfolding with_process
put_process_is m v p q e =
    ap (λ (ps : List fold.Process). record { processes = ps; segments = (see m).segments; next = m.next })
    (ap (map see_process) e ∙ map-set see_process (vec_items m.processes) p q)

pub put_segment_is : (m : Memory) (v : Vec (Vec ℕ Global) Global) (s : ℕ) (x : Vec ℕ Global) → vec_items v ≡ set (vec_items m.segments) s x → see (record { heap = m.heap; processes = m.processes; segments = v; next = m.next }) ≡ with_segment (see m) s (vec_items x)
put_segment_is m v s x e =
    ap (λ (ss : List (List ℕ)). record { processes = (see m).processes; segments = ss; next = m.next })
    (ap (map vec_items) e ∙ map-set vec_items (vec_items m.segments) s x)

pub put_segment_here : (m : Memory) (s : ℕ) (v : Vec ℕ Global) → see (with_s m s v) ≡ with_segment (see m) s (vec_items v)
put_segment_here m s v =
    ap (λ (ss : List (List ℕ)). record { processes = (see m).processes; segments = ss; next = m.next })
    (map-set vec_items (vec_items m.segments) s v)

-- a write to a page is a write to its process
pub page_is_process : (w : fold.World) (p v : ℕ) (x : fold.Page) → with_page w p v x ≡ with_process w p (put_in (process w p) v x)
unfolding with_page with_process
page_is_process w p v x = refl

-- a process that an edit of its own has changed
pub edited : (m : Memory) (p : ℕ) (q q' : Process) (f : fold.Process → fold.Process) → p < vec_len m.processes → q ≡ get_or (vec_items m.processes) p q → see_process q' ≡ f (see_process q) → see (with_p m p q') ≡ with_process (see m) p (f (process (see m) p))
edited m p q q' f h e same = put_process_here m p q' ∙ ap (with_process (see m) p) (same ∙ ap f (sym (process_at m p q h e)))

pub page_of : (w : fold.World) (p v : ℕ) (q : fold.Process) → process w p ≡ q → page w p v ≡ cond q.alive (get_or q.pages v fold.absent) fold.absent
unfolding page
page_of w p v q e = ap (λ (r : fold.Process). cond r.alive (get_or r.pages v fold.absent) fold.absent) e

pub same_test : (w a b most : ℕ) → w ≤ most → min a most ≡ min b most → leb w a ≡ leb w b
same_test w a b most h e =
    elim (cases_lt a w) [
      | inl less ↦ lt-leb w a less ∙ sym (lt-leb w b (omega arith))
      | inr most' ↦ le-leb w a most' ∙ sym (le-leb w b (omega arith))
    ]

own_there : (b : Bool) (x : fold.Page) (l : ℕ) (ws : List ℕ) → cond b x fold.absent ≡ fold.own l ws → x ≡ fold.own l ws
own_there true x l ws e = e
own_there false x l ws e = let z : ◌≡◌ {A = ℕ} 0 1 = cc in absurd (omega arith)

-- a store to a page that is known to be its process's own
pub with_byte_is : (w : fold.World) (p v l m o x : ℕ) (ws : List ℕ) → page w p v ≡ fold.own l ws → with_byte w p v m o x ≡ with_page w p v (fold.own m (set ws o x))
unfolding page
with_byte_is w p v l m o x ws e =
    ap (λ (y : fold.Page). with_process w p (put_in (process w p) v (rewritten m o x y))) (own_there (process w p).alive (get_or (process w p).pages v fold.absent) l ws e)
    ∙ sym (page_is_process w p v (fold.own m (set ws o x)))

looked : (n : ℕ) → ◌≡◌ {A = ℕ} (cond (leb 1 n) 1 0) (cond (eqb n 0) 0 1)
looked n =
    elim (cases_lt n 1) [
      | inl less ↦ ap (λ b. cond b 1 0) (lt-leb 1 n less) ∙ sym (ap (λ b. cond b 0 1) (eq-eqb n 0 (omega arith)))
      | inr most ↦ ap (λ b. cond b 1 0) (le-leb 1 n most) ∙ sym (ap (λ b. cond b 0 1) (ne_eqb n 0 (λ z. omega arith)))
    ]

-- the numbers of segments that somebody looks at are as many as the machine counts
pub segments_counted : (w : fold.World) (n : ℕ) → count_by (λ s. leb 1 (lookers w s)) (range_with_len 0 n) ≡ segments_from w n
unfolding segments_from
segments_counted w zero = refl
segments_counted w (suc n) =
    let all = range_with_len 0 n in
    let f : ℕ → ℕ = λ s. cond (leb 1 (lookers w s)) 1 0 in
    let more : range_with_len 0 (suc n) ≡ all ++ n ∷ [] =
    ap (range_with_len 0) (sym (add-one n)) ∙ sym (map-id (range_with_len 0 (n + 1))) ∙ map-range_with_len_more (λ x. x) 0 n n (omega arith) ∙ ap (λ xs. xs ++ n ∷ []) (map-id all) in
    let counted = ap (sum_by f) more ∙ sum_by-append f all (n ∷ []) in
    let one = sum_by-cons f n [] in
    let here = looked (lookers w n) in
    let rest = segments_counted w n in
    omega arith

-- what a test for a place before the end says where there is none
pub past_end : (i n : ℕ) → (i < n → false ≡ true) → n ≤ i
past_end i n h =
    elim (cases_lt i n) [
      | inl less ↦ absurd (false≢true (h less))
      | inr most ↦ most
    ]

living_case : (q : fold.Process) (x : Bor Process) → q ≡ see_process x.now → (b : Bool) → x.now.alive ≡ b → MatchOption (then_some b x) (q.alive ≡ false) (λ y. (see_process y.now ≡ q) × (q.alive ≡ true))
living_case q x e true h = (sym e, ap (λ (y : fold.Process). y.alive) e ∙ h)
living_case q x e false h = ap (λ (y : fold.Process). y.alive) e ∙ h

-- a process that is looked up, if it is there
pub living_found : (m : Memory) (p : ℕ) (xs : List Process) → xs ≡ vec_items m.processes → (g : Option (Bor Process)) → IsItemAt xs p g → (r : Option (Bor Process)) → MatchOption g (r ≡ None) (λ x. r ≡ then_some x.now.alive x) → MatchOption r ((process (see m) p).alive ≡ false) (λ q. (see_process q.now ≡ process (see m) p) × ((process (see m) p).alive ≡ true))
living_found m p xs e None h r k = rw k (ap (λ (q : fold.Process). q.alive) (process_past m p (omega (arith, h.3, ap length e, m.processes.ok.0))))
living_found m p xs e (Some x) h r k =
    rw k (living_case (process (see m) p) x (process_at m p x.now (omega (arith, h.3.0, ap length e, m.processes.ok.0)) (h.1 ∙ ap (λ ys. get_or ys p x.now) e)) x.now.alive refl)

pub match_weaker : {A : Type 0} (o : Option A) (P : Type 0) (Q R : A → Type 0) → ((x : A) → Q x → R x) → MatchOption o P Q → MatchOption o P R
match_weaker None P Q R f h = h
match_weaker (Some x) P Q R f h = f x h

pub page_gone : (w : fold.World) (p v : ℕ) → (process w p).alive ≡ false → page w p v ≡ fold.absent
unfolding page
page_gone w p v e = cond-false (process w p).alive _ _ e

pub page_got : (w : fold.World) (p v : ℕ) (q : Process) → see_process q ≡ process w p → (process w p).alive ≡ true → (xs : List Page) → xs ≡ vec_items q.pages → (r : Option (Bor Page)) → IsItemAt xs v r → MatchOption r (page w p v ≡ fold.absent) (λ x. page w p v ≡ see_page x.now)
page_got w p v q e a xs s None h =
    page_of w p v (see_process q) (sym e) ∙ cond-true q.alive _ _ (ap (λ (y : fold.Process). y.alive) e ∙ a)
    ∙ page_past q v (omega (arith, h.3, ap length s, q.pages.ok.0))
page_got w p v q e a xs s (Some x) h =
    page_of w p v (see_process q) (sym e) ∙ cond-true q.alive _ _ (ap (λ (y : fold.Process). y.alive) e ∙ a)
    ∙ page_is q v x.now (omega (arith, h.3.0, ap length s, q.pages.ok.0)) (h.1 ∙ ap (λ ys. get_or ys v x.now) s)

-- whether a page that may not be found is there
pub there_or_not : (y : fold.Page) (o : Option (Bor Page)) (b : Bool) → MatchOption o (y ≡ fold.absent) (λ x. y ≡ see_page x.now) → MatchOption o (b ≡ false) (λ x. b ≡ there (see_page x.now)) → b ≡ there y
unfolding there
there_or_not y None b e h = h ∙ sym (ap there e)
there_or_not y (Some x) b e h = h ∙ sym (ap there e)

-- a count that stops at its largest
abbrev pub saturated : Sought → ℕ → Process → ℕ
saturated k n q = min (n + cond q.alive (over_pages (matching k) (see_process q).pages) 0) (2 ^ 64 - 1)

pub saturates : (k : Sought) (n : ℕ) (qs : List Process) → n < 2 ^ 64 → fold_list (saturated k) n qs ≡ min (n + over_all (matching k) (map see_process qs)) (2 ^ 64 - 1)
unfolding over_all
saturates k n [] h = omega arith
saturates k n (q ∷ qs) h =
    let rest = saturates k (saturated k n q) qs (omega arith) in
    omega arith
