use Rattle.std.proofs.Common.{◌≡◌, ℕ, ◌+◌, ◌-◌, List, length, set, sym, ap, ◌∙◌, arith}
use Rattle.frames.specs.Turn.{turn_from, taken, next_frame}
use Rattle.frames.proofs.Turn.{turn_takes, turn_passes, turn_ends}
use Rattle.frames.proofs.hand.Hand.turn.Goals as goal

-- what `take` answers is what the hand takes
took : (n f k : ℕ) (used : List ℕ) (g r l : ℕ) → g ≡ f → r ≡ next_frame n f → l ≡ k + 1 → taken n f k used ≡ record { frame = g; rest = r; looks = l; used = used }
took n f k used g r l e h m = λ i. record { frame = sym e i; rest = sym h i; looks = sym m i; used = used }

pub returns-then-used-frame-eq0-clause-value : goal.returns-then-used-frame-eq0-clause-value
returns-then-used-frame-eq0-clause-value c =
    let n = length c.args.used.now in
    ap (λ f. turn_from n n f 0 c.args.used.now) (sym c.first_look-frame.ensures.value) ∙ sym c.loop-passed.invariant.1
    ∙ turn_takes n c.loop-passed.frame c.loop-passed.passed c.loop-passed.used (n - c.loop-passed.passed) c.if-used-frame-eq0.true
    ∙ took n c.loop-passed.frame c.loop-passed.passed c.loop-passed.used _ _ _ c.take.ensures.taken c.take.ensures.rests c.take.ensures.looked

pub loop-passed-preserved : goal.loop-passed-preserved
loop-passed-preserved c =
    let n = length c.args.used.now in
    let left : n - c.loop-passed.passed - 1 ≡ n - (c.loop-passed.passed + 1) = omega arith in (
      c.next_frame-frame.ensures.bound,
      ap (λ f. turn_from n (n - (c.loop-passed.passed + 1)) f (c.loop-passed.passed + 1) (set c.loop-passed.used c.loop-passed.frame 0)) c.next_frame-frame.ensures.value
          ∙ ap (λ m. turn_from n m (next_frame n c.loop-passed.frame) (c.loop-passed.passed + 1) (set c.loop-passed.used c.loop-passed.frame 0)) (sym left)
          ∙ sym (turn_passes n c.loop-passed.frame c.loop-passed.passed c.loop-passed.used (n - c.loop-passed.passed) (omega arith) c.if-used-frame-eq0.false)
          ∙ c.loop-passed.invariant.1,
    )

pub returns-clause-value : goal.returns-clause-value
returns-clause-value c =
    let n = length c.args.used.now in
    ap (λ f. turn_from n n f 0 c.args.used.now) (sym c.first_look-frame.ensures.value) ∙ sym c.loop-passed.invariant.1
    ∙ turn_ends n c.loop-passed.frame c.loop-passed.passed c.loop-passed.used (n - c.loop-passed.passed) (omega arith)
    ∙ took n c.loop-passed.frame c.loop-passed.passed c.loop-passed.used _ _ _ c.take-2.ensures.taken c.take-2.ensures.rests (omega (arith, c.take-2.ensures.looked))
