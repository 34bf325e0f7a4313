use Rattle.std.proofs.Common.{◌≡◌, sym, subst}
use Rattle.tables.specs.State.{Lent}
use Rattle.disk.specs.Moves.{lent}
use Rattle.calls.specs.Entry.{ExactLent, cut_lent}
use Rattle.machine.specs.Owned.{lent_of}
use Rattle.sound.proofs.Rooms.{exact, roomy}
use Rattle.sound.proofs.snapshot.Snapshot.of.Goals as goal

pub invariant_of-result : goal.invariant_of-result
invariant_of-result c =
    let m = c.args.machine.now in
    let z = m.manager.sizes in
    let r = roomy z (lent_of m) m.roomy in
    let own : lent_of m ≡ lent c.deref.result.now c.deref-2.result.now c.deref-3.result.now c.deref-4.result.now c.deref-5.result.now c.deref-6.result.now c.deref-7.result.now c.deref-8.result.now =
    λ i. lent (sym c.deref.ensures.value i) (sym c.deref-2.ensures.value i) (sym c.deref-3.ensures.value i) (sym c.deref-4.ensures.value i) (sym c.deref-5.ensures.value i) (sym c.deref-6.ensures.value i) (sym c.deref-7.ensures.value i) (sym c.deref-8.ensures.value i) in
    record { range = r.range; exact = subst (λ (x : Lent). ExactLent z (cut_lent z x)) own (exact z (lent_of m) r) }
