use Rattle.std.proofs.Common.{◌≡◌, ◌+◌, Some, None, sym, refl, ap, ◌∙◌}
use Rattle.frames.specs.Turn.{Turned, turn}
use Rattle.tables.specs.State.{view}
use Rattle.disk.specs.declared.registers.Registers.{Registers}
use Rattle.disk.specs.declared.registers.Taken.{Taken}
use Rattle.disk.specs.declared.registers.Transfers.{Transfers}
use Rattle.disk.specs.Counted.{counted}
use Rattle.disk.specs.Moves.{gone_out, lent, relocated}
use Rattle.disk.specs.Whole.{turned_to, Whole, whole, with_used}
use Rattle.disk.proofs.Settle.{takes, turned_whole}
use Rattle.disk.proofs.find.take_frame.Goals as goal

pub returns-in-Some-clause-value : goal.returns-in-Some-clause-value
returns-in-Some-clause-value c lookers =
    let m = lent c.args.table.now c.args.segments.now lookers c.args.frame_counts.now c.args.used.now c.args.place_counts.now c.args.frames.now c.args.disk.now in
    takes c.args.limits c.args.pages c.args.processes c.args.registers m c.requires.exact.frame_counts turn (Some c.in-Some.frame) _ c.in-Some.ensures.value refl

pub returns-in_default-lowest_free-clause-value : goal.returns-in_default-lowest_free-clause-value
returns-in_default-lowest_free-clause-value c lookers =
    let m = lent c.args.table.now c.args.segments.now lookers c.args.frame_counts.now c.args.used.now c.args.place_counts.now c.args.frames.now c.args.disk.now in
    takes c.args.limits c.args.pages c.args.processes c.args.registers m c.requires.exact.frame_counts turn None None c.in_default.ensures.value c.in_default-lowest_free.ensures.value

pub returns-clause-value : goal.returns-clause-value
unfolding view relocated
returns-clause-value c lookers =
    let z = c.args.limits in
    let pages = c.args.pages in
    let processes = c.args.processes in
    let r = c.args.registers in
    let us = c.args.used.now in
    let place = c.in-Some-lowest_free.place in
    let hand = c.turn-frame in
    let t : Turned = record { frame = hand.result.frame; rest = hand.result.hand.at; looks = hand.result.looks; used = hand.new.used } in
    let turned : turn z.frames r.hand.at us ≡ t = ap (λ n. turn n r.hand.at us) (sym c.requires.exact.used) ∙ hand.ensures.value in
    let before = lent c.args.table.now c.args.segments.now lookers c.args.frame_counts.now us c.args.place_counts.now c.args.frames.now c.args.disk.now in
    let after = lent c.move_out.new.table c.move_out.new.segments lookers c.move_out.new.frame_counts t.used c.move_out.new.place_counts c.args.frames.now c.move_out.new.disk in
    let left : Registers = record { hand = hand.result.hand; transfers = c.wrote.result; lookaside = c.purge.result } in
    let transfers : Transfers = record { reads = r.transfers.reads; writes = counted r.transfers.writes } in
    let w = whole z pages processes r before in
    let meant : view z pages processes after ≡ with_used (gone_out t.frame (z.frames + place) w.state) t.used = c.move_out.ensures pages processes lookers t.used in
    let all = turned_whole z pages processes w after left t (gone_out t.frame (z.frames + place) w.state) transfers meant refl c.wrote.ensures c.purge.ensures in
    ap (λ (p : Whole × Taken). (p.0, Some p.1))
    ((λ i. (all i, record { frame = t.frame; looks = t.looks }))
    ∙ ap (λ (k : Turned). turned_to z.frames w k (gone_out k.frame (z.frames + place) w.state) transfers.reads transfers.writes) (sym turned))
    ∙ takes z pages processes r before c.requires.exact.frame_counts turn None (Some place) c.in_default.ensures.value c.in-Some-lowest_free.ensures.value
