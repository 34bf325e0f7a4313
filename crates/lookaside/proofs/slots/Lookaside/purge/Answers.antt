use Rattle.std.proofs.Common.{◌≤◌, ◌++◌, map, length, drop, set, None, ap, ◌∙◌, arith}
use Rattle.std.proofs.lemmas.List.Edits.{map_over_more}
use Rattle.std.proofs.lemmas.List.{get_or_default, length-set, take_all, drop_all, append-nil}
use Rattle.tables.specs.Lent.{counts_of, rows_of, segments_of}
use Rattle.lookaside.specs.Purge.{kept_slot}
use Rattle.lookaside.proofs.slots.Lookaside.purge.Goals as goal

pub loop-i-preserved : goal.loop-i-preserved
loop-i-preserved c =
    let t = c.args.tables.now in
    let f = kept_slot (rows_of t) (segments_of t) (counts_of t) t.limits.frames in
    let xs = c.args.self.slots in
    let i = c.loop-i.i in (
      c.loop-i.invariant.0,
      length-set c.loop-i.slots i c.keep.result ∙ c.loop-i.invariant.1,
      ap (set c.loop-i.slots i) c.keep.ensures ∙ map_over_more f xs c.loop-i.slots i _ (omega arith) c.loop-i.invariant.2 (get_or_default c.loop-i.slots i None _ (omega arith)),
    )

pub returns : goal.returns
returns c =
    let t = c.args.tables.now in
    let f = kept_slot (rows_of t) (segments_of t) (counts_of t) t.limits.frames in
    let xs = c.args.self.slots in
    let i = c.loop-i.i in
    let end : length xs ≤ i = omega arith in
    c.loop-i.invariant.2 ∙ ap (λ ys. map f ys ++ drop i xs) (take_all i xs end) ∙ ap (λ ys. map f xs ++ ys) (drop_all i xs end) ∙ append-nil (map f xs)
