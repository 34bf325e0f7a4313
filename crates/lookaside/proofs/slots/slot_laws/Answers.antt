use Rattle.lookaside.proofs.Laws.{purged_is_true, true_is_kept, put_is_found, others_stay}
use Rattle.lookaside.proofs.slots.slot_laws.Goals as goal

pub returns : goal.returns
returns c = record { purged = purged_is_true; kept = true_is_kept; found = put_is_found; others = others_stay }
