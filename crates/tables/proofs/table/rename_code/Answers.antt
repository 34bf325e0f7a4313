use Rattle.std.proofs.Common.{◌+◌, ap, ◌∙◌}
use Rattle.tables.specs.Cells.{decoded, renamed}
use Rattle.tables.proofs.Codes.{decode_encode, small}
use Rattle.tables.proofs.table.rename_code.Goals as goal

pub encode-requires : goal.encode-requires
encode-requires c = small c.args.limits c.exchanged-target.result c.requires.few c.exchanged-target.ensures.within

pub returns : goal.returns
returns c =
    let z = c.args.limits in
    ap (decoded z) c.encode.ensures ∙ decode_encode z _ c.exchanged-target.ensures.within
    ∙ (λ i. record { holds = c.exchanged-target.ensures.value i; copy = c.decode-target.result.copy })
    ∙ ap (renamed c.args.frame (z.frames + c.args.place)) c.decode-target.ensures.value
