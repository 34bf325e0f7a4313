use Rattle.disk.proofs.Taking.{taken_is_free, none_only_if_full}
use Rattle.disk.proofs.Keeps.{take_keeps_bytes, take_keeps_counts, bring_keeps_bytes, bring_keeps_counts}
use Rattle.disk.proofs.find.taken_frames.Goals as goal

pub returns : goal.returns
returns c =
    record {
      free = taken_is_free;
      none = none_only_if_full;
      take_bytes = take_keeps_bytes;
      take_counts = take_keeps_counts;
      bring_bytes = bring_keeps_bytes;
      bring_counts = bring_keeps_counts;
    }
