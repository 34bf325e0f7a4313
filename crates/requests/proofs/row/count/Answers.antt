-- The refusal of the row is that of its calls.
use Rattle.std.proofs.Common.{◌∙◌, position, None, Some, sym, ap, arith}
use Rattle.std.proofs.lemmas.Bool.Decides.{nat_tests}
use Rattle.requests.specs.Kinds.{unknown}
use Rattle.requests.proofs.Decoding.{refused_by_place}
use Rattle.requests.proofs.row.count.Goals as goal

pub returns-in-Some : goal.returns-in-Some
returns-in-Some c =
    let found = sym c.in-Some.is ∙ c.first_unknown.ensures ∙ ap (position unknown) c.as_chunks.ensures.front in
    rw (refused_by_place c.args.row.now (Some c.in-Some.i) (grind (arith, nat_tests)) found)

pub returns-in-None : goal.returns-in-None
returns-in-None c =
    let found = sym c.in-None.is ∙ c.first_unknown.ensures ∙ ap (position unknown) c.as_chunks.ensures.front in
    rw (refused_by_place c.args.row.now None (grind (arith, nat_tests)) found, c.as_chunks.ensures.front_len)
