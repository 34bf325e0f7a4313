use Rattle.std.proofs.Common.{◌≡◌, ◌+◌, ◌-◌, sym, ap, ◌∙◌, subst, arith}
use Rattle.std.proofs.lemmas.Bool.{cond-true, cond-false, lt-ltb, le-ltb}
use Rattle.fold.specs.Fold as fold
use Rattle.frames.specs.Turn.{turn}
use Rattle.tables.specs.declared.walk.Lies.{Lies}
use Rattle.tables.specs.Found.{LiesWithin}
use Rattle.tables.specs.State.{Walked, spot_of}
use Rattle.disk.specs.Whole.{bring_in}
use Rattle.calls.specs.Calls.{load_reached, load_walked}
use Rattle.calls.specs.Machine.{Machine}
use Rattle.calls.specs.Memory.{machine_of}
use Rattle.calls.proofs.load.load_walked.Goals as goal

pub returns-in-Frame-clause-value : goal.returns-in-Frame-clause-value
returns-in-Frame-clause-value c =
    let m = machine_of c.args.manager c.args.memory.now in
    let z = c.args.memory.now.limits in
    let p = c.args.process in
    let v = c.args.page in
    let o = c.args.offset in
    let free = c.walk-lies.result.free in
    let f = c.in-Frame.frame in
    let within = subst (LiesWithin z) c.in-Frame.is c.walk-lies.ensures.within in
    let by : Walked → Machine × fold.Answer = λ k. load_walked turn m p v o k.free k.spot in
    let lying : Lies → Machine × fold.Answer = λ l. load_walked turn m p v o free (spot_of z.frames l) in
    let w = m.whole in
    c.load_here.ensures.value 0
    ∙ ap (load_reached m p v o free) (sym (cond-true _ (w, record { frame = f; looks = 0 }) (bring_in turn z.frames (f - z.frames) w) (lt-ltb f z.frames within)))
    ∙ ap lying (sym c.in-Frame.is) ∙ ap by c.walk-lies.ensures.value

pub returns-in-Place-clause-value : goal.returns-in-Place-clause-value
returns-in-Place-clause-value c =
    let m = machine_of c.args.manager c.args.memory.now in
    let z = c.args.memory.now.limits in
    let p = c.args.process in
    let v = c.args.page in
    let o = c.args.offset in
    let free = c.walk-lies.result.free in
    let d = c.in-Place.place in
    let taken = c.bring_in.result.1 in
    let by : Walked → Machine × fold.Answer = λ k. load_walked turn m p v o k.free k.spot in
    let lying : Lies → Machine × fold.Answer = λ l. load_walked turn m p v o free (spot_of z.frames l) in
    let w = m.whole in
    let same : d ≡ z.frames + d - z.frames = omega arith in
    let reached = c.bring_in.ensures.value ∙ ap (λ k. bring_in turn z.frames k w) same
    ∙ sym (cond-false _ (w, record { frame = z.frames + d; looks = 0 }) (bring_in turn z.frames (z.frames + d - z.frames) w) (le-ltb (z.frames + d) z.frames (omega arith))) in
    c.load_here-in-Place.ensures.value taken.looks
    ∙ (λ i. load_reached (record { frames = (c.bring_in.ensures.fixed i).limits.frames; alive = m.alive; whole = w }) p v o free (reached i))
    ∙ ap lying (sym c.in-Place.is) ∙ ap by c.walk-lies.ensures.value
