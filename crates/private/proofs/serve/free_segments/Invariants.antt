use Rattle.std.proofs.Common.{◌≡◌, [], map, replicate, vec_items}
use Rattle.private.proofs.serve.free_segments.Given as goal

abbrev pub invariant-loop : goal.invariant-loop
invariant-loop l = map vec_items (vec_items l.segments) ≡ replicate l.counter []
