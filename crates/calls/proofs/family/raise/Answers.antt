use Rattle.std.proofs.Common.{◌≡◌, ℕ, ◌+◌, min, List, ◌++◌, length, get_or, set, sym, ap, ◌∙◌, subst}
use Rattle.frames.specs.Counts.{counted_up}
use Rattle.tables.specs.declared.entry.Target.{Target}
use Rattle.tables.specs.Cells.{held_of, Within}
use Rattle.tables.specs.Lent.{lists}
use Rattle.tables.specs.State.{view, with_counts}
use Rattle.tables.proofs.Locations.{at_place, put_place}
use Rattle.copies.proofs.Parts.{up_frame}
use Rattle.segments.specs.Release.{with_lookers}
use Rattle.calls.specs.Pages.{raised}
use Rattle.calls.proofs.family.raise.Goals as goal

up_place : (frames places : List ℕ) (n : ℕ) → length frames ≡ n → (d : ℕ) → frames ++ counted_up places d ≡ counted_up (frames ++ places) (n + d)
up_place frames places n e d =
    put_place frames places n e d (min 65535 (get_or places d 0 + 1)) ∙ ap (λ c. set (frames ++ places) (n + d) (min 65535 (c + 1))) (sym (at_place frames places n e d 0))

pub returns-in-Frame-clause-raised : goal.returns-in-Frame-clause-raised
unfolding view
returns-in-Frame-clause-raised c pages processes =
    let z = c.args.limits in
    let n = c.args.lent.now in
    let fs = n.frame_counts.now in
    let ps = n.place_counts.now in
    let m = view z pages processes (lists n) in
    ap (λ cs. with_counts m (cs ++ ps)) c.count_up.ensures
    ∙ ap (with_counts m) (up_frame fs ps z.frames c.requires.named.frame_counts c.in-Frame.frame (subst (Within z) c.in-Frame.is c.requires.target_within))
    ∙ ap (λ (t : Target). raised m (held_of z.frames t)) (sym c.in-Frame.is)

pub returns-in-Place-clause-raised : goal.returns-in-Place-clause-raised
unfolding view
returns-in-Place-clause-raised c pages processes =
    let z = c.args.limits in
    let n = c.args.lent.now in
    let fs = n.frame_counts.now in
    let ps = n.place_counts.now in
    let m = view z pages processes (lists n) in
    ap (λ cs. with_counts m (fs ++ cs)) c.count_up-in-Place.ensures ∙ ap (with_counts m) (up_place fs ps z.frames c.requires.named.frame_counts c.in-Place.place)
    ∙ ap (λ (t : Target). raised m (held_of z.frames t)) (sym c.in-Place.is)

pub returns-in-Segment-clause-raised : goal.returns-in-Segment-clause-raised
unfolding view
returns-in-Segment-clause-raised c pages processes =
    let z = c.args.limits in
    let m = view z pages processes (lists c.args.lent.now) in
    ap (with_lookers m) c.count_up-in-Segment.ensures ∙ ap (λ (t : Target). raised m (held_of z.frames t)) (sym c.in-Segment.is)
