use Rattle.std.proofs.Common.{sym, ap, ◌∙◌, arith}
use Rattle.std.proofs.lemmas.List.{get_or-map}
use Rattle.tables.specs.Cells.{Cell, none, decoded}
use Rattle.tables.specs.State.{walked_segment}
use Rattle.tables.proofs.lent.Tables.segment_found.Goals as goal

pub returns-clause-value : goal.returns-clause-value
returns-clause-value c =
    let t = c.args.self.now in
    c.at_location.ensures.value
    ∙ ap (λ (e : Cell). walked_segment e.holds) (c.decode-entry.ensures.value ∙ sym (get_or-map (decoded t.limits) t.segments.now c.args.segment 0 none (omega (arith, t.segments_length))))
