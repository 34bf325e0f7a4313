use Rattle.std.proofs.Common.{set, ap, ◌∙◌}
use Rattle.std.proofs.lemmas.List.{map-set}
use Rattle.tables.specs.Cells.{decoded}
use Rattle.tables.specs.Rows.{cells}
use Rattle.tables.proofs.Codes.{decode_encode}
use Rattle.segments.proofs.release.put_segment.Goals as goal

pub returns : goal.returns
returns c z h =
    map-set (decoded z) c.args.segments.now c.args.segment c.encode.result
    ∙ ap (set (cells z c.args.segments.now) c.args.segment) (ap (decoded z) c.encode.ensures ∙ decode_encode z c.args.entry h)
