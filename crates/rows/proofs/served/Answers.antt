use Rattle.std.proofs.Common.{◌≡◌, suc, ◌+◌, ◌-◌, ◌++◌, string_bytes, sym, ap, ◌∙◌, arith}
use Rattle.std.proofs.lemmas.List.{append_assoc, append-nil}
use Rattle.requests.specs.Meaning.{seen_sizes, asked, answered}
use Rattle.requests.specs.declared.sizes.Sizes.{Sizes}
use Rattle.calls.specs.Memory.{serve}
use Rattle.machine.specs.declared.machine.Machine.{Machine}
use Rattle.machine.specs.Owned.{model}
use Rattle.rows.specs.Played.{lines_from, line}
use Rattle.rows.proofs.Told.{one_line, no_line}
use Rattle.rows.proofs.served.Goals as goal
use Rattle.rows.proofs.served.Goals.{in-Some+in_ok-add_line, in_default}

pub loop-i-preserved : goal.loop-i-preserved
loop-i-preserved c =
    let z = seen_sizes c.args.machine.manager.sizes in
    let row = c.args.calls.now in
    let i = c.loop-i.i in
    let m = c.loop-i.machine in
    let left = c.args.count - (i + 1) in
    let text = string_bytes c.loop-i.text in
    let old = c.loop-i.invariant in
    let one_less : suc left ≡ c.args.count - i = omega arith in
    elim c.match-call_at.branch [
      | in-Some+in_ok-add_line w ↦
          let served = w.call-answer.ensures in
          let a = w.call-answer.result in
          let m' = w.call-answer.new.self in
          let rest = lines_from (serve z) row (model m') left (i + 1) in
          let here : lines_from (serve z) row (model m) (suc left) i ≡ line i (answered a) ++ rest =
          one_line (serve z) row (model m) left i (model m') w.in-Some.call (answered a) (sym w.in-Some.ensures)
          (served.served ∙ ap (λ (y : Sizes). serve (seen_sizes y) (model m) (asked w.in-Some.call)) old.1) in (
            ap (λ s. string_bytes s ++ lines_from (serve z) row (model c.match-call_at.machine) left (i + 1)) w.text-is
                ∙ ap (λ (u : Machine). string_bytes w.add_line.new.text ++ lines_from (serve z) row (model u) left (i + 1)) w.machine-is
                ∙ ap (λ bs. bs ++ rest) w.in_ok-add_line.ensures
                ∙ append_assoc text (line i (answered a)) rest
                ∙ ap (λ bs. text ++ bs) (sym here)
                ∙ ap (λ k. text ++ lines_from (serve z) row (model m) k i) one_less
                ∙ old.0,
            ap (λ (u : Machine). u.manager.sizes) w.machine-is ∙ served.same ∙ old.1,
          )
      | in_default w ↦
          let here = no_line (serve z) row (model m) left i (sym w.in_default.ensures) in (
            ap (λ s. string_bytes s ++ lines_from (serve z) row (model c.match-call_at.machine) left (i + 1)) w.text-is
                ∙ ap (λ (u : Machine). text ++ lines_from (serve z) row (model u) left (i + 1)) w.machine-is
                ∙ ap (λ bs. text ++ bs) (sym here)
                ∙ ap (λ k. text ++ lines_from (serve z) row (model m) k i) one_less
                ∙ old.0,
            ap (λ (u : Machine). u.manager.sizes) w.machine-is ∙ old.1,
          )
    ]

pub returns : goal.returns
unfolding lines_from
returns c =
    let z = seen_sizes c.args.machine.manager.sizes in
    let text = string_bytes c.loop-i.text in
    let none : c.args.count - c.loop-i.i ≡ 0 = omega arith in
    sym (append-nil text) ∙ ap (λ k. text ++ lines_from (serve z) c.args.calls.now (model c.loop-i.machine) k c.loop-i.i) (sym none) ∙ c.loop-i.invariant.0
