use Rattle.std.proofs.Common.{true, Some, Option, sym, ap, ◌∙◌}
use Rattle.std.proofs.lemmas.Bool.{cond-true, cond-false}
use Rattle.tables.specs.Cells.{Cell}
use Rattle.tables.specs.State.{view}
use Rattle.disk.specs.declared.registers.Taken.{Taken}
use Rattle.disk.specs.Memory.{state_of, whole_of}
use Rattle.disk.specs.Whole.{Whole}
use Rattle.copies.specs.declared.anew.Written.{Written}
use Rattle.copies.specs.Anew.{filled_anew, stored_anew, written_by}
use Rattle.copies.specs.Own.{must_copy, stored_own}
use Rattle.copies.proofs.own.store.Goals as goal

pub returns-then-not-must_copy-clause-value : goal.returns-then-not-must_copy-clause-value
unfolding view stored_own
returns-then-not-must_copy-clause-value c =
    let s = state_of c.args.memory.now in
    let test = ap (λ (e : Cell). must_copy s.counts e.holds) (sym c.entry-seen.ensures.value) ∙ sym c.must_copy.ensures ∙ c.if-not-must_copy.true in
    c.store_alone.ensures.value ∙ sym (cond-false _ _ _ test)

pub returns-in_default-clause-value : goal.returns-in_default-clause-value
unfolding view stored_own stored_anew
returns-in_default-clause-value c =
    let m = c.args.memory.now in
    let s = c.args.store in
    let test = ap (λ (e : Cell). must_copy (state_of m).counts e.holds) (sym c.entry-seen.ensures.value) ∙ sym c.must_copy.ensures ∙ c.if-not-must_copy.false in
    let by : Whole × Option Taken → Whole × Option Written = λ q. written_by m.limits.frames q.0 s.process s.page s.offset s.byte q.1 in
    let w = whole_of c.take_frame-taken.result.0 c.take_frame-taken.new.self in
    ap (λ (o : Option Taken). by (w, o)) (sym c.in_default.is) ∙ ap by c.take_frame-taken.ensures.value ∙ sym (cond-true _ _ _ test)

pub returns-clause-value : goal.returns-clause-value
unfolding view stored_own stored_anew
returns-clause-value c =
    let m = c.args.memory.now in
    let s = c.args.store in
    let test = ap (λ (e : Cell). must_copy (state_of m).counts e.holds) (sym c.entry-seen.ensures.value) ∙ sym c.must_copy.ensures ∙ c.if-not-must_copy.false in
    let by : Whole × Option Taken → Whole × Option Written = λ q. written_by m.limits.frames q.0 s.process s.page s.offset s.byte q.1 in
    let w = whole_of c.take_frame-taken.result.0 c.take_frame-taken.new.self in
    let t = c.in-Some.taken in
    let written : Written = record { frame = t.frame; copied = true; looks = t.looks } in
    let filled = c.store_anew-registers.ensures.value ∙ (λ i. filled_anew (c.take_frame-taken.ensures.fixed i).limits.frames w s.process s.page t.frame s.offset s.byte) in
    (λ i. (filled i, Some written)) ∙ ap (λ (o : Option Taken). by (w, o)) (sym c.in-Some.is) ∙ ap by c.take_frame-taken.ensures.value ∙ sym (cond-true _ _ _ test)
