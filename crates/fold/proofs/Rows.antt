-- The table of rows, by running the machine on it.
use Rattle.std.proofs.Common.{refl}
use Rattle.fold.specs.Fold.{process, page, is_own, is_seen, over_pages, over_all, users, lookers, labels_from, segments_from, held, with_page, with_process, first_free, first_segment, inside, there, stored, loaded, looked, call, answers, others, begin}
use Rattle.fold.specs.Rows.{RowsStand}

pub rows_stand : RowsStand
unfolding process page is_own is_seen over_pages over_all users lookers labels_from segments_from held with_page with_process first_free first_segment inside there stored loaded looked call answers others begin
rows_stand = refl
