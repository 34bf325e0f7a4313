-- Which page stands where after one process or one page of a world was changed.
use Rattle.std.proofs.Common.{◌≡◌, ℕ, ◌<◌, Bool, true, false, cond, ◌≢◌, ◌⊎◌, List, length, get_or, set, sym, refl, ap, ◌∙◌, inl, inr}
use Rattle.std.proofs.lemmas.List.{get_or-set_same, get_or-set_other, get_or_past, set_past, length-set}
use Rattle.std.proofs.lemmas.Bool.{cases_lt, cases_eq, both_ways, cond-true}
use Rattle.fold.specs.Fold.{Page, Process, World, absent, nobody, process, page, with_page, with_process}

-- the page v of a process
abbrev pub page_of : Process → ℕ → Page
page_of q v = cond q.alive (get_or q.pages v absent) absent

pub page_is : (w : World) (p v : ℕ) → page w p v ≡ page_of (process w p) v
unfolding page
page_is w p v = refl

-- pages are read off the processes alone
pub same_pages : (w x : World) → w.processes ≡ x.processes → (p v : ℕ) → page w p v ≡ page x p v
unfolding page process
same_pages w x e p v = ap (λ (qs : List Process). page_of (get_or qs p nobody) v) e

pub same_process : (w x : World) → w.processes ≡ x.processes → (p : ℕ) → process w p ≡ process x p
unfolding process
same_process w x e p = ap (λ (qs : List Process). get_or qs p nobody) e

pub alive_below : (w : World) (p : ℕ) → (process w p).alive ≡ true → p < length w.processes
unfolding process
alive_below w p a =
    elim (cases_lt p (length w.processes))
    [ inl h ↦ h | inr h ↦ absurd (both_ways _ (ap (λ (q : Process). q.alive) (get_or_past w.processes p nobody h)) a) ]

-- a process that was put at p
pub process_put : (w : World) (p : ℕ) (q : Process) → p < length w.processes → process (with_process w p q) p ≡ q
unfolding process with_process
process_put w p q h = get_or-set_same w.processes p q nobody h

pub process_other : (w : World) (p r : ℕ) (q : Process) → r ≢ p → process (with_process w p q) r ≡ process w r
unfolding process with_process
process_other w p r q h = get_or-set_other w.processes p r q nobody h

-- every process afterwards is the one that was put, or the one that was there
pub process_either : (w : World) (p r : ℕ) (q : Process) →
    ((r ≡ p) × (process (with_process w p q) r ≡ q)) ⊎ (process (with_process w p q) r ≡ process w r)
unfolding process with_process
process_either w p r q =
    elim (cases_eq r p) [
      | inl e ↦
          elim (cases_lt p (length w.processes)) [
            | inl h ↦ inl (e, ap (process (with_process w p q)) e ∙ process_put w p q h)
            | inr h ↦ inr (ap (λ (qs : List Process). get_or qs r nobody) (set_past w.processes p q h))
          ]
      | inr n ↦ inr (process_other w p r q n)
    ]

-- process p with its page v changed
abbrev pub repaged : World → ℕ → ℕ → Page → Process
repaged w p v x = record { alive = (process w p).alive; pages = set (process w p).pages v x }

pub with_page_is : (w : World) (p v : ℕ) (x : Page) → with_page w p v x ≡ with_process w p (repaged w p v x)
unfolding with_page with_process
with_page_is w p v x = refl

-- who is there does not change with a page
pub alive_with_page : (w : World) (p v r : ℕ) (x : Page) → (process (with_page w p v x) r).alive ≡ (process w r).alive
unfolding with_page with_process
alive_with_page w p v r x =
    elim (process_either w p r (repaged w p v x)) [
      | inl e ↦ ap (λ (q : Process). q.alive) e.1 ∙ ap (λ n. (process w n).alive) (sym e.0)
      | inr e ↦ ap (λ (q : Process). q.alive) e
    ]

pub width_with_page : (w : World) (p v r : ℕ) (x : Page) → length (process (with_page w p v x) r).pages ≡ length (process w r).pages
unfolding with_page with_process
width_with_page w p v r x =
    elim (process_either w p r (repaged w p v x)) [
      | inl e ↦ ap (λ (q : Process). length q.pages) e.1 ∙ length-set (process w p).pages v x ∙ ap (λ n. length (process w n).pages) (sym e.0)
      | inr e ↦ ap (λ (q : Process). length q.pages) e
    ]

repage : (b : Bool) (xs : List Page) (v u : ℕ) (x : Page) →
    ((u ≡ v) × (cond b (get_or (set xs v x) u absent) absent ≡ x)) ⊎ (cond b (get_or (set xs v x) u absent) absent ≡ cond b (get_or xs u absent) absent)
repage false xs v u x = inr refl
repage true xs v u x =
    elim (cases_eq u v) [
      | inl e ↦
          elim (cases_lt v (length xs)) [
            | inl h ↦ inl (e, ap (λ n. get_or (set xs v x) n absent) e ∙ get_or-set_same xs v x absent h)
            | inr h ↦ inr (ap (λ (ys : List Page). get_or ys u absent) (set_past xs v x h))
          ]
      | inr n ↦ inr (get_or-set_other xs v u x absent n)
    ]

pub page_with_process : (w : World) (p r u : ℕ) (q : Process) →
    ((r ≡ p) × (page (with_process w p q) r u ≡ page_of q u)) ⊎ (page (with_process w p q) r u ≡ page w r u)
unfolding page
page_with_process w p r u q =
    elim (process_either w p r q)
    [ inl e ↦ inl (e.0, ap (λ (o : Process). page_of o u) e.1) | inr e ↦ inr (ap (λ (o : Process). page_of o u) e) ]

-- every page afterwards is the one that was put, or the one that was there
pub page_with_page : (w : World) (p v r u : ℕ) (x : Page) →
    ((r ≡ p) × (u ≡ v) × (page (with_page w p v x) r u ≡ x)) ⊎ (page (with_page w p v x) r u ≡ page w r u)
unfolding with_page with_process page
page_with_page w p v r u x =
    elim (page_with_process w p r u (repaged w p v x)) [
      | inl e ↦
          elim (repage (process w p).alive (process w p).pages v u x)
          [ inl k ↦ inl (e.0, k.0, e.1 ∙ k.1) | inr k ↦ inr (e.1 ∙ k ∙ ap (λ n. page w n u) (sym e.0)) ]
      | inr e ↦ inr e
    ]

-- the page that was put, where there is room for it
pub page_put : (w : World) (p v : ℕ) (x : Page) → (process w p).alive ≡ true → v < length (process w p).pages → page (with_page w p v x) p v ≡ x
unfolding with_page with_process page
page_put w p v x a h =
    ap (λ (o : Process). page_of o v) (process_put w p (repaged w p v x) (alive_below w p a)) ∙ cond-true (process w p).alive _ absent a
    ∙ get_or-set_same (process w p).pages v x absent h

-- any other page is as it was
pub page_other : (w : World) (p v r u : ℕ) (x : Page) → (r ≡ p → u ≡ v → ⊥) → page (with_page w p v x) r u ≡ page w r u
page_other w p v r u x n = elim (page_with_page w p v r u x) [ inl e ↦ absurd (n e.0 e.1) | inr e ↦ e ]
