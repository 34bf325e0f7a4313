use Rattle.std.proofs.Common.{◌≡◌, ◌+◌, ◌-◌, Some, sym, ap, ◌∙◌, subst, inl, inr, arith}
use Rattle.std.proofs.lemmas.Bool.{cond-true, cond-false, lt-ltb, le-ltb}
use Rattle.frames.specs.Turn.{turn}
use Rattle.tables.specs.Found.{LiesWithin}
use Rattle.tables.specs.State.{Walked, spot_of}
use Rattle.disk.specs.declared.registers.Taken.{Taken}
use Rattle.disk.specs.Memory.{whole_of}
use Rattle.disk.specs.Whole.{Whole, bring_in}
use Rattle.segments.specs.Reach.{reach_page, reached_by}
use Rattle.segments.proofs.reach.reach.Goals as goal

pub returns-in-Frame-clause-value : goal.returns-in-Frame-clause-value
unfolding reach_page
returns-in-Frame-clause-value c =
    let z = c.args.memory.now.limits in
    let w = whole_of c.args.registers c.args.memory.now in
    let f = c.in-Frame.frame in
    let within = subst (LiesWithin z) c.in-Frame.is c.walk.ensures.within in
    ap (λ (q : Whole × Taken). (q.0, Some q.1)) (sym (cond-true _ (w, record { frame = f; looks = 0 }) (bring_in turn z.frames (f - z.frames) w) (lt-ltb f z.frames within)))
    ∙ ap (reached_by turn z.frames w) (ap (spot_of z.frames) (sym c.in-Frame.is) ∙ ap (λ (k : Walked). k.spot) c.walk.ensures.value)

pub returns-in-Place-clause-value : goal.returns-in-Place-clause-value
unfolding reach_page
returns-in-Place-clause-value c =
    let z = c.args.memory.now.limits in
    let w = whole_of c.args.registers c.args.memory.now in
    let d = c.in-Place.place in
    let same : d ≡ z.frames + d - z.frames = omega arith in
    ap (λ (q : Whole × Taken). (q.0, Some q.1))
    (c.bring_in.ensures.value ∙ ap (λ k. bring_in turn z.frames k w) same
    ∙ sym (cond-false _ (w, record { frame = z.frames + d; looks = 0 }) (bring_in turn z.frames (z.frames + d - z.frames) w) (le-ltb (z.frames + d) z.frames (omega arith))))
    ∙ ap (reached_by turn z.frames w) (ap (spot_of z.frames) (sym c.in-Place.is) ∙ ap (λ (k : Walked). k.spot) c.walk.ensures.value)

pub returns-in-Nowhere-clause-value : goal.returns-in-Nowhere-clause-value
unfolding reach_page
returns-in-Nowhere-clause-value c =
    let z = c.args.memory.now.limits in
    let w = whole_of c.args.registers c.args.memory.now in
    let lying : (k : _) → c.walk.result.lies ≡ k → reached_by turn z.frames w (spot_of z.frames k) ≡ reach_page turn z.frames w c.args.process c.args.page =
    λ k e. ap (reached_by turn z.frames w) (ap (spot_of z.frames) (sym e) ∙ ap (λ (x : Walked). x.spot) c.walk.ensures.value) in
    elim c.in-Nowhere.is [ inl e ↦ lying _ e | inr e ↦ lying _ e ]
