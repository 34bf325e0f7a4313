use Rattle.std.proofs.Common.{◌≡◌, get_or, set, sym, ap, ◌∙◌, subst, arith}
use Rattle.std.proofs.lemmas.List.{get_or-map}
use Rattle.tables.specs.declared.entry.Entry.{Entry}
use Rattle.tables.specs.Cells.{Cell, cell, decoded, held_of, none, Within}
use Rattle.tables.specs.Rows.{cells}
use Rattle.tables.specs.State.{State, view}
use Rattle.disk.specs.Moves.{lent}
use Rattle.segments.specs.Release.{lowered, with_segments}
use Rattle.segments.proofs.release.give_back.Goals as goal

pub returns : goal.returns
unfolding view
returns c pages processes table lookers used frames disk =
    let z = c.args.limits in
    let s = c.args.segment in
    let segs = c.args.segments.now in
    let m = view z pages processes (lent table segs lookers c.args.frame_counts.now used c.args.place_counts.now frames disk) in
    let after = view z pages processes (lent table segs lookers c.lower.new.frame_counts used c.lower.new.place_counts frames disk) in
    let gone : cells z c.put_segment.new.segments ≡ set (cells z segs) s none =
    c.put_segment.ensures z (subst (λ (e : Entry). Within z e.target) (sym c.absent.ensures) tt) ∙ ap (λ (e : Entry). set (cells z segs) s (cell z.frames e)) c.absent.ensures in
    let held : held_of z.frames c.decode-entry.result.target ≡ (get_or (cells z segs) s none).holds =
    ap (λ (k : Cell). k.holds) (c.decode-entry.ensures.value ∙ sym (get_or-map (decoded z) segs s 0 none (omega arith))) in
    ap (with_segments after) gone ∙ ap (λ (n : State). with_segments n (set (cells z segs) s none)) (c.lower.ensures pages processes table segs lookers used frames disk ∙ ap (lowered m) held)
