use Rattle.std.proofs.Common.{◌≡◌, ◌+◌, sym, ap, ◌∙◌}
use Rattle.frames.specs.Turn.{Turned, turn}
use Rattle.tables.specs.Lent.{lists}
use Rattle.tables.specs.State.{Lent, view}
use Rattle.disk.specs.declared.registers.Transfers.{Transfers}
use Rattle.disk.specs.Counted.{counted}
use Rattle.disk.specs.Memory.{state_of, whole_of}
use Rattle.disk.specs.Moves.{gone_out, relocated}
use Rattle.disk.specs.Whole.{turned_to, with_used}
use Rattle.disk.proofs.Settle.{turned_whole}
use Rattle.disk.proofs.memory.Memory.send_out.Goals as goal

pub returns-clause-value : goal.returns-clause-value
unfolding view relocated
returns-clause-value c =
    let m = c.args.self.now in
    let z = m.limits in
    let r = c.args.registers in
    let us = m.lent.used.now in
    let left = c.move_out_lent.new.lent in
    let hand = c.turn_hand-turn in
    let t : Turned = record { frame = hand.result.frame; rest = hand.result.hand.at; looks = hand.result.looks; used = hand.new.lent.used.now } in
    let turned : turn z.frames r.hand.at us ≡ t = ap (λ n. turn n r.hand.at us) (sym m.used_length) ∙ hand.ensures.value in
    let moved = gone_out t.frame (z.frames + c.args.place) in
    let transfers : Transfers = record { reads = r.transfers.reads; writes = counted r.transfers.writes } in
    let meant : view z m.pages m.processes (lists left) ≡ with_used (moved (state_of m)) t.used =
    c.move_out_lent.ensures.moved m.pages m.processes ∙ ap (λ (x : Lent). moved (view z m.pages m.processes x)) hand.ensures.marks in
    let w = whole_of r m in
    let all = turned_whole z m.pages m.processes w (lists left) c.turned.result.0 t (moved w.state) transfers meant (λ i. (c.turned.ensures.hand i).at) (c.turned.ensures.transfers ∙ c.wrote.ensures) c.turned.ensures.slots in
    (λ i. (all i, c.turned.ensures.taken i))
    ∙ ap (λ (k : Turned). turned_to z.frames w k (gone_out k.frame (z.frames + c.args.place) w.state) transfers.reads transfers.writes) (sym turned)
