use Rattle.std.proofs.Common.{◌≡◌, get_or, sym, ap, ◌∙◌}
use Rattle.std.proofs.lemmas.Bool.{cond-true, cond-false, eq-eqb, ne_eqb}
use Rattle.frames.specs.Counts.{counted_down}
use Rattle.tables.specs.State.{view}
use Rattle.disk.specs.Moves.{lent}
use Rattle.segments.specs.Release.{given_back, with_lookers}
use Rattle.segments.proofs.release.leave.Goals as goal

pub returns-then-unseen : goal.returns-then-unseen
unfolding view
returns-then-unseen c pages processes table used frames disk =
    let z = c.args.limits in
    let s = c.args.segment in
    let m = view z pages processes (lent table c.args.segments.now c.args.lookers.now c.args.frame_counts.now used c.args.place_counts.now frames disk) in
    let zero : get_or (counted_down c.args.lookers.now s) s 0 ≡ 0 = ap (λ ls. get_or ls s 0) (sym c.count_down.ensures) ∙ c.if-unseen.true in
    c.give_back.ensures pages processes table c.count_down.new.counts used frames disk ∙ ap (λ ls. given_back (with_lookers m ls) s) c.count_down.ensures
    ∙ sym (cond-true _ _ _ (eq-eqb _ 0 zero))

pub returns-else-unseen : goal.returns-else-unseen
unfolding view
returns-else-unseen c pages processes table used frames disk =
    let z = c.args.limits in
    let s = c.args.segment in
    let m = view z pages processes (lent table c.args.segments.now c.args.lookers.now c.args.frame_counts.now used c.args.place_counts.now frames disk) in
    let some : get_or (counted_down c.args.lookers.now s) s 0 ≡ 0 → ⊥ = λ e. c.if-unseen.false (ap (λ ls. get_or ls s 0) c.count_down.ensures ∙ e) in
    ap (with_lookers m) c.count_down.ensures ∙ sym (cond-false _ _ _ (ne_eqb _ 0 some))
