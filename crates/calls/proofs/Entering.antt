-- The entry lends the core a part of each list: what the core leaves there is the part afterwards, and the rest is as it was.
use Rattle.std.proofs.Common.{◌≡◌, ℕ, ◌-◌, ◌≤◌, min, List, length, take, drop, Some, None, Ok, Err, Option, sym, refl, ap, ◌∙◌, arith}
use borrow.Rule.Slice.PartMut.{put_mid}
use Rattle.std.proofs.lemmas.List.{length-take, length-drop}
use Rattle.std.proofs.lemmas.Slice.{take-put_mid, drop-put_mid}
use Rattle.requests.specs.Meaning.{Asked}
use Rattle.requests.specs.Refusals.{unless_refused}
use Rattle.requests.specs.declared.answer.Answer.{Answer}
use Rattle.requests.specs.declared.answer.Refusal.{Refusal}
use Rattle.tables.specs.State.{Lent}
use Rattle.calls.specs.declared.manager.Manager.{Manager}
use Rattle.calls.specs.Entry.{Called, cut_lent, rest_lent}
use Rattle.calls.specs.Memory.{Served}

-- the first n of a list, as they are lent
pub part : {X : Type 0} (n : ℕ) (xs : List X) → take (n - 0) (drop 0 xs) ≡ take n xs
part n xs = ap (λ k. take k xs) (let e : n - 0 ≡ n = omega arith in e)

-- and after they were lent
module _ {X : Type 0} (n : ℕ) (xs ys : List X) (within : n ≤ length xs) (kept : length ys ≡ length (take (n - 0) (drop 0 xs))) where
  long : length ys ≡ n
  long = kept ∙ simp (length-take, length-drop) (let e : min (n - 0) (length xs - 0) ≡ n = omega arith in e)

  pub part_after : take n (put_mid 0 (n - 0) xs ys) ≡ ys
  part_after = take-put_mid 0 (n - 0) xs ys n (omega (arith, long)) (omega arith)

  pub part_rest : drop n (put_mid 0 (n - 0) xs ys) ≡ drop n xs
  part_rest = drop-put_mid 0 (n - 0) xs ys n (omega arith) (omega arith) (omega (arith, long))

-- a call that was refused, and one that was answered
pub called_refused : (o : Option Refusal) (g : Manager) (m : Lent) (a : Asked) (e : Refusal) → unless_refused {T = Unit {0}} o tt ≡ Err e → Called o g m a (Err e) g m
called_refused None g m a e q = let z : ◌≡◌ {A = ℕ} 0 1 = cc in absurd (omega arith)
called_refused (Some f) g m a e q = let s : f ≡ e = cc in (ap (λ (x : Refusal). Err x) (sym s), refl, refl)

pub called_answered : (o : Option Refusal) (g : Manager) (m : Lent) (a : Asked) (answer : Answer) (h : Manager) (after : Lent) → unless_refused {T = Unit {0}} o tt ≡ Ok tt →
    Served g (cut_lent g.sizes m) a (h, answer) (cut_lent g.sizes after) → rest_lent g.sizes after ≡ rest_lent g.sizes m → Called o g m a (Ok answer) h after
called_answered None g m a answer h after q s r = (answer, refl, s, r)
called_answered (Some f) g m a answer h after q s r = let z : ◌≡◌ {A = ℕ} 0 1 = cc in absurd (omega arith)
