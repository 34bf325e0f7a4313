use Rattle.std.proofs.Common.{set, sym, refl, ap, ◌∙◌}
use Rattle.private.specs.See.{see, with_segment}
use Rattle.private.proofs.Worlds.{put_segment_here, segment_is}
use Rattle.private.proofs.memory.Memory.put_segment_byte.Goals as goal

pub returns-in-Some : goal.returns-in-Some
returns-in-Some c =
    let m = c.args.self.now in
    let s = c.args.segment in
    put_segment_here m s c.put_at.new.items
    ∙ ap (with_segment (see m) s) (c.put_at.ensures
    ∙ ap (λ bs. set bs c.args.offset c.args.byte) (sym (segment_is m s c.in-Some.bytes.now (c.in-Some.ensures.variant.0 refl) c.in-Some.ensures.value)))
