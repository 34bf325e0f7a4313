-- The bytes of the call are those of the row.
use Rattle.std.proofs.Common.{◌<◌, ◌/◌, ◌∙◌, List, ℕ, length, get_or, ap, arith}
use Rattle.requests.proofs.Decoding.{said}
use Rattle.requests.proofs.row.call_at.Goals as goal

pub returns : goal.returns
returns c =
    let row = c.args.row.now in
    let call = c.in_ok-kind.field-0.now in
    let found = c.in_ok-kind.ensures.lookup in
    let inside : c.args.i < length row / 8 = omega (arith, found.3.0, c.as_chunks.ensures.front_len) in
    c.from_bytes.ensures ∙ said row c.args.i call call inside (found.1 ∙ ap (λ (xs : List (List ℕ)). get_or xs c.args.i call) c.as_chunks.ensures.front)
