use Rattle.std.proofs.Common.{◌+◌, ◌≤◌, ◌++◌, map, length, get_or, drop, set, sym, ap, ◌∙◌, arith}
use Rattle.std.proofs.lemmas.List.Edits.{map_over_more}
use Rattle.std.proofs.lemmas.List.{map-set, get_or-map, length-map, take_all, drop_all, append-nil}
use Rattle.tables.specs.Cells.{decoded, renamed}
use Rattle.tables.specs.Rows.{cells}
use Rattle.tables.proofs.table.rename.Goals as goal

pub loop-code-preserved : goal.loop-code-preserved
loop-code-preserved c =
    let z = c.args.limits in
    let f = renamed c.args.frame (z.frames + c.args.place) in
    let i = c.loop-code.code-index in
    let table = c.loop-code.table in
    let x = decoded z (get_or table i 0) in
    map-set (decoded z) table i c.rename_code.result ∙ ap (set (cells z table) i) c.rename_code.ensures
    ∙ map_over_more f (cells z c.args.table.now) (cells z table) i x (omega (arith, length-map c.args.table.now (decoded z))) c.loop-code.invariant
    (sym (get_or-map (decoded z) table i 0 x (omega arith)))

pub returns : goal.returns
returns c =
    let z = c.args.limits in
    let f = renamed c.args.frame (z.frames + c.args.place) in
    let xs = cells z c.args.table.now in
    let i = c.loop-code.code-index in
    let end : length xs ≤ i = omega (arith, length-map c.args.table.now (decoded z)) in
    c.loop-code.invariant ∙ ap (λ ys. map f ys ++ drop i xs) (take_all i xs end) ∙ ap (λ ys. map f xs ++ ys) (drop_all i xs end) ∙ append-nil (map f xs)
