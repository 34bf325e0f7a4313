-- What is there and what is not there are told apart.
use Rattle.std.proofs.Common.{◌≡◌, ℕ, Some, None, arith}

pub none≢some : {X : Type 0} (x : X) → None ≡ Some x → ⊥
none≢some x e = let z : ◌≡◌ {A = ℕ} 0 1 = cc in omega arith

pub some_same : {X : Type 0} {x y : X} → Some x ≡ Some y → x ≡ y
some_same e = cc
