use Rattle.disk.proofs.Follows.{walk_follows, segment_follows, out_keeps_bytes, in_keeps_bytes, exchange_keeps_bytes, counts_follow}
use Rattle.disk.proofs.Keeps.{free_is_nobodys}
use Rattle.disk.proofs.moves.moves_keep.Goals as goal

pub returns : goal.returns
returns c =
    record { walk = walk_follows; segment = segment_follows; out = out_keeps_bytes; inward = in_keeps_bytes; exchange = exchange_keeps_bytes; counts = counts_follow; free = free_is_nobodys }
