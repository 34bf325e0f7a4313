use Rattle.std.proofs.Common.{◌≡◌, ℕ, zero, suc, ◌-◌, ◌≤◌, true, false, ◌∷◌, take, replicate, ap, ◌∙◌, arith}
use Rattle.std.proofs.lemmas.List.{take-replicate}
use Rattle.calls.proofs.open.start.Goals as goal

-- process 0 is there, and as many others are not as the machine has
first_alone : (n : ℕ) → 1 ≤ n → n ≤ 16 → take n (true ∷ replicate 15 false) ≡ true ∷ replicate (n - 1) false
first_alone zero h k = absurd (omega arith)
first_alone (suc n) h k =
    ap (λ bs. true ∷ bs) (take-replicate n 15 false (omega arith) ∙ ap (λ j. replicate j false) (let e : n ≡ suc n - 1 = omega arith in e))

pub returns-clause-alive : goal.returns-clause-alive
returns-clause-alive c = first_alone c.args.sizes.processes (omega (arith, c.requires)) (omega (arith, c.requires))
