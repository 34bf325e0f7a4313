-- What each call that changes the memory comes to, and that what holds of a machine holds after it.
use Rattle.std.proofs.Common.{◌≡◌, ℕ, zero, suc, ◌+◌, ◌<◌, true, false, leb, List, [], ◌∷◌, length, get_or, set, replicate, Ok, Result, refl, ap, ◌∙◌, inl, inr, add-one, arith}
use Rattle.std.proofs.lemmas.Bool.{le-leb, lt-leb, cases_lt, false≢true}
use Rattle.requests.specs.Meaning.{seen_sizes}
use Rattle.requests.specs.declared.answer.Answer.{Answer}
use Rattle.requests.specs.declared.answer.Answer.TheVariants.{Done, Full}
use Rattle.requests.specs.declared.sizes.Sizes.{Sizes}
use Rattle.fold.specs.Fold as fold
use Rattle.fold.specs.Fold.{World, process, page, with_process, with_page, first_free, first_segment, nobody}
use Rattle.private.specs.Called.{world}
use Rattle.private.specs.See.{Rows, Room, Makes, emptied, free_at, used_at, reached_at, inside_at, shared_at, full_at, with_segment, segment_at, with_byte}
use Rattle.private.specs.SeePage.{blank}
use Rattle.private.specs.declared.machine.Machine.{Machine}
use Rattle.private.specs.declared.want.Want.{Want}
use Rattle.private.proofs.Calls as way
use Rattle.private.proofs.Keeps.{Kept, makes_keep}
use Rattle.private.proofs.Worlds.{with_byte_is}

pub stands : (m : Machine) (k : fold.Call) (r : Result Answer Want) (w' : World) → Makes m.sizes k (world m) r w' → Kept m.sizes w'
stands m k r w' h = makes_keep m.sizes k (world m) r w' h (m.rows, m.labels, m.room)

-- where there is one process, and it is there, none is free
one_alive : (qs : List fold.Process) (p : ℕ) → length qs ≡ 1 → (get_or qs p nobody).alive ≡ true → first_free qs ≡ 1
unfolding first_free
one_alive [] p h a = absurd (omega (arith, h))
one_alive (q ∷ []) zero h a = rw a refl
one_alive (q ∷ []) (suc p) h a = absurd (false≢true a)
one_alive (q ∷ r ∷ qs) p h a = absurd (omega (arith, h))

free_below : (z : Sizes) (w : World) (p : ℕ) → (process w p).alive ≡ true → Room z w → first_free w.processes < length w.processes → first_free w.processes < z.processes
unfolding process
free_below z w p a room h =
    elim (cases_lt 0 z.processes) [
      | inl some ↦ omega (arith, room.0, h)
      | inr none ↦
          let one = one_alive w.processes p (omega (arith, room.0)) a in
          absurd (omega (arith, room.0, h))
    ]

module _ (z : Sizes) (w : World) (p : ℕ) where
  pub fork_full : (process w p).alive ≡ true → Room z w → first_free w.processes ≡ length w.processes → Makes z (fold.fork p) w (Ok Full) w
  fork_full a room none = way.both (way.fork_full (seen_sizes z) w p a (le-leb z.processes (first_free w.processes) (omega (arith, room.0, none))))

  pub fork_made : (child : ℕ) (q : fold.Process) (w' : World) → (process w p).alive ≡ true → Room z w → (child ≡ first_free w.processes) × (child < length w.processes) → q ≡ process w p → w' ≡ with_process w child q → Makes z (fold.fork p) w (Ok (Done child)) w'
  fork_made child q w' a room found same put =
      let below = free_below z w p a room (omega (arith, found.0, found.1)) in
      let done = way.both (way.fork_done (seen_sizes z) w p a (lt-leb z.processes (first_free w.processes) below)) in (
        put ∙ ap (λ k. with_process w k q) found.0 ∙ ap (with_process w (first_free w.processes)) same ∙ done.0,
        ap fold.done found.0 ∙ done.1,
      )

  pub leave_made : (w' : World) → (process w p).alive ≡ true → Rows z w → w' ≡ with_process w p (emptied w p) → Makes z (fold.leave p) w (Ok (Done 0)) w'
  leave_made w' a rows put =
      let done = way.both (way.leave_done (seen_sizes z) w p a) in
      (put ∙ ap (λ n. with_process w p (blank false n)) (rows p a) ∙ done.0, done.1)

module _ (z : Sizes) (w : World) (p v : ℕ) where
  pub map_made : (bytes : List ℕ) (w' : World) → free_at z w p v ≡ true → bytes ≡ replicate 256 0 → w' ≡ with_page w p v (fold.own 0 bytes) → Makes z (fold.map p v) w (Ok (Done 0)) w'
  map_made bytes w' free zeros put =
      let done = way.both (way.map_done (seen_sizes z) w p v free) in
      (put ∙ ap (λ bs. with_page w p v (fold.own 0 bs)) zeros ∙ done.0, done.1)

  pub drop_made : (w' : World) → used_at z w p v ≡ true → w' ≡ with_page w p v fold.absent → Makes z (fold.drop p v) w (Ok (Done 0)) w'
  drop_made w' used put =
      let done = way.both (way.drop_done (seen_sizes z) w p v used) in
      (put ∙ done.0, done.1)

  pub make_none : free_at z w p v ≡ true → Room z w → first_segment w 0 w.segments ≡ length w.segments → Makes z (fold.make p v) w (Ok Full) w
  make_none free room none =
      way.both (way.make_no_segment (seen_sizes z) w p v free (le-leb z.segments (first_segment w 0 w.segments) (omega (arith, room.1, none))))

  below : (s : ℕ) → Room z w → (s ≡ first_segment w 0 w.segments) × (s < length w.segments) → leb z.segments (first_segment w 0 w.segments) ≡ false
  below s room found = lt-leb z.segments (first_segment w 0 w.segments) (omega (arith, room.1, found.0, found.1))

  pub make_full : (s : ℕ) → free_at z w p v ≡ true → Room z w → (s ≡ first_segment w 0 w.segments) × (s < length w.segments) → full_at z w ≡ true → Makes z (fold.make p v) w (Ok Full) w
  make_full s free room found full = way.both (way.make_full (seen_sizes z) w p v free (below s room found) full)

  pub make_made : (s : ℕ) (bytes : List ℕ) (u w' : World) → free_at z w p v ≡ true → Room z w → (s ≡ first_segment w 0 w.segments) × (s < length w.segments) → full_at z w ≡ false → bytes ≡ replicate 256 0 → u ≡ with_segment w s bytes → w' ≡ with_page u p v (fold.seen s) → Makes z (fold.make p v) w (Ok (Done s)) w'
  make_made s bytes u w' free room found full zeros segment put =
      let done = way.both (way.make_done (seen_sizes z) w p v free (below s room found) full s found.0) in
      (put ∙ ap (λ (y : World). with_page y p v (fold.seen s)) (segment ∙ ap (with_segment w s) zeros) ∙ done.0, done.1)

  pub look_made : (q u s : ℕ) (w' : World) → free_at z w p v ≡ true → inside_at z w q u ≡ true → page w q u ≡ fold.seen s → w' ≡ with_page w p v (fold.seen s) → Makes z (fold.look p v q u) w (Ok (Done s)) w'
  unfolding fold.looked
  look_made q u s w' free inside shown put =
      let done = way.both (way.look_inside (seen_sizes z) w p v q u (fold.seen s) free inside shown) in
      (put ∙ done.0, done.1)

module _ (z : Sizes) (w : World) (p v o x : ℕ) (within : reached_at z w p v o ≡ true) where
  pub segment_made : (s : ℕ) (w' : World) → page w p v ≡ fold.seen s → w' ≡ with_segment w s (set (segment_at w s) o x) → Makes z (fold.store p v o x) w (Ok (Done 0)) w'
  unfolding fold.stored
  segment_made s w' e put =
      let done = way.both (way.store_inside (seen_sizes z) w p v o x (fold.seen s) within e) in
      (put ∙ done.0, done.1)

  pub alone_made : (l : ℕ) (ws : List ℕ) (w' : World) → page w p v ≡ fold.own l ws → shared_at w l ≡ false → w' ≡ with_byte w p v l o x → Makes z (fold.store p v o x) w (Ok (Done 0)) w'
  alone_made l ws w' e alone put =
      let inside = way.both (way.store_inside (seen_sizes z) w p v o x (fold.own l ws) within e) in
      let done = way.both (way.stored_alone (seen_sizes z) w p v o x l ws alone) in
      (put ∙ with_byte_is w p v l l o x ws e ∙ done.0 ∙ inside.0, done.1 ∙ inside.1)

  pub store_full : (l : ℕ) (ws : List ℕ) → page w p v ≡ fold.own l ws → shared_at w l ≡ true → full_at z w ≡ true → Makes z (fold.store p v o x) w (Ok Full) w
  store_full l ws e shared full =
      let inside = way.both (way.store_inside (seen_sizes z) w p v o x (fold.own l ws) within e) in
      let done = way.both (way.stored_full (seen_sizes z) w p v o x l ws shared full) in
      (done.0 ∙ inside.0, done.1 ∙ inside.1)

  pub fresh_made : (l : ℕ) (ws : List ℕ) (u : World) → page w p v ≡ fold.own l ws → shared_at w l ≡ true → full_at z w ≡ false → u ≡ with_byte w p v w.next o x → Makes z (fold.store p v o x) w (Ok (Done 0)) (record { processes = u.processes; segments = u.segments; next = w.next + 1 })
  unfolding with_page
  fresh_made l ws u e shared room put =
      let inside = way.both (way.store_inside (seen_sizes z) w p v o x (fold.own l ws) within e) in
      let done = way.both (way.stored_fresh (seen_sizes z) w p v o x l ws shared room) in
      let after = with_page w p v (fold.own w.next (set ws o x)) in (
        ap (λ (y : World). record { processes = y.processes; segments = y.segments; next = w.next + 1 }) (put ∙ with_byte_is w p v l w.next o x ws e)
            ∙ ap (λ k. record { processes = after.processes; segments = w.segments; next = k }) (add-one w.next)
            ∙ done.0
            ∙ inside.0,
        done.1 ∙ inside.1,
      )
