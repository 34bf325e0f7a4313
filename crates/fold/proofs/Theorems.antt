-- The statements of the machine of private memories, proved by the ways of a call and by what every reachable world has.
use Rattle.std.proofs.Common.{◌≡◌, ℕ, ◌<◌, true, ◌⊎◌, List, [], length, get_or, set, sym, refl, ap, ◌∙◌, inl, inr, arith}
use Rattle.std.proofs.lemmas.List.{get_or-set_same}
use Rattle.std.proofs.lemmas.Bool.{cond-false}
use Rattle.fold.specs.Fold.{Page, Process, Sizes, World, absent, own, seen, process, page, with_page, with_process, call, after, begin, load, done, fault, full}
use Rattle.fold.specs.Promise.{Apart, Child, OneLabel, WithinHold, NothingLeft, LoadAfterStore, RefusedUnchanged}
use Rattle.fold.proofs.Pages.{page_of, page_is, process_put, alive_with_page, page_put, page_other, same_pages, same_process}
use Rattle.fold.proofs.Ways.{Inside, by_fork, by_store, by_ways, load_own, load_seen, load_same, segment, with_segment, free_process}
use Rattle.fold.proofs.Reach.{Sound, sound, nothing_held, good_at}

-- a load of another page than the one that was put
load_other : (z : Sizes) (w x : World) (q u : ℕ) (g : Page) → x.processes ≡ (with_page w q u g).processes → x.segments ≡ w.segments →
    (p v o : ℕ) → (p ≡ q → v ≡ u → ⊥) → (call z x (load p v o)).1 ≡ (call z w (load p v o)).1
load_other z w x q u g e s p v o n =
    load_same z x w p p v o
    (ap (λ (r : Process). r.alive) (same_process x (with_page w q u g) e p) ∙ alive_with_page w q u p g)
    (same_pages x (with_page w q u g) e p v ∙ page_other w q u p v g n) s

pub apart : Apart
unfolding with_page
apart z n cs p v o q u i x l ws e other here =
    let w : World = after z (begin z n) cs in
    by_store z w q u i x (λ y a. (call z y (load p v o)).1 ≡ (call z w (load p v o)).1)
    (record {
      not_there = refl;
      no_room = λ m bs k h g s f. refl;
      anew = λ m bs k h g s f. load_other z w _ q u _ refl refl p v o other;
      alone = λ m bs k h g s f. load_other z w _ q u _ refl refl p v o other;
      in_segment = λ s k h g. (let k : seen s ≡ own l ws = sym g ∙ here in cc);
    })

pub child : Child
unfolding with_process
child z n cs p c v o e =
    let w : World = after z (begin z n) cs in
    by_fork z w p (λ y a. a ≡ done c → (call z y (load c v o)).1 ≡ (call z w (load p v o)).1)
    (record {
      nobody_there = λ k. cc;
      all_there = λ a f k. cc;
      forked = λ a f k.
          let is : c ≡ free_process w = cc in
          let put : process (with_process w (free_process w) (process w p)) c ≡ process w p =
          ap (process (with_process w (free_process w) (process w p))) is ∙ process_put w (free_process w) (process w p) (omega (arith, (sound z n cs e).many)) in
          load_same z (with_process w (free_process w) (process w p)) w c p v o (ap (λ (q : Process). q.alive) put)
          (page_is _ c v ∙ ap (λ (q : Process). page_of q v) put ∙ sym (page_is w p v)) refl;
    })

pub one_label : OneLabel
one_label z n cs p v q u l ws xs e = (sound z n cs e).same p v q u l ws xs

pub within_hold : WithinHold
within_hold z n cs e = (sound z n cs e).within

pub nothing_left : NothingLeft
nothing_left z n cs e none = nothing_held (after z (begin z n) cs) (λ p v. page_is _ p v ∙ cond-false _ _ absent (none p))

pub refused_unchanged : RefusedUnchanged
refused_unchanged z w =
    by_ways z w (λ c x a. (a ≡ fault) ⊎ (a ≡ full) → x ≡ w)
    (record {
      faulted = λ c h. refl;
      forking = λ p. record { nobody_there = λ h. refl; all_there = λ a f h. refl; forked = λ a f. done_not };
      left = λ p a. done_not;
      mapped = λ p v i a. done_not;
      dropped = λ p v i a. done_not;
      make_full = λ p v i a f h. refl;
      made = λ p v i a f k. done_not;
      looked_at = λ p v q u s i a k e. done_not;
      loaded_own = λ p v o l ws i k e h. refl;
      loaded_seen = λ p v o s i k e h. refl;
      storing_to = λ p v o x.
          record {
            not_there = λ h. refl;
            no_room = λ l ws i k e s f h. refl;
            anew = λ l ws i k e s f. done_not;
            alone = λ l ws i k e s f. done_not;
            in_segment = λ s i k e. done_not;
          };
    })
  where
    done_not : {n : ℕ} {x : World} → (done n ≡ fault) ⊎ (done n ≡ full) → x ≡ w
    done_not {n} (inl e) = cc
    done_not {n} (inr e) = cc

module _ (z : Sizes) (w : World) (whole : Sound z w) (p v o x : ℕ) (inside : Inside z w p v) (below : o < z.words) where
  -- a load of the byte that was just stored to an own page
  load_put : (y : World) (l m : ℕ) (ws : List ℕ) → page w p v ≡ own l ws → y.processes ≡ (with_page w p v (own m (set ws o x))).processes → (call z y (load p v o)).1 ≡ done x
  load_put y l m ws here put =
      let g : Page = own m (set ws o x) in
      let room : v < length (process w p).pages = omega (arith, inside.range, whole.wide p inside.alive) in
      let alive : (process y p).alive ≡ true = ap (λ (q : Process). q.alive) (same_process y (with_page w p v g) put p) ∙ alive_with_page w p v p g ∙ inside.alive in
      let is : page y p v ≡ g = same_pages y (with_page w p v g) put p v ∙ page_put w p v g inside.alive room in
      load_own z y p v o m (set ws o x) (record { alive = alive; range = inside.range }) below is
      ∙ ap done (get_or-set_same ws o x 0 (omega (arith, (good_at z w whole p v (own l ws) here).1)))

  -- and to a segment
  load_segment : (s : ℕ) → page w p v ≡ seen s → (call z (with_segment w s (set (segment w s) o x)) (load p v o)).1 ≡ done x
  load_segment s here =
      let y : World = with_segment w s (set (segment w s) o x) in
      let good = good_at z w whole p v (seen s) here in
      load_seen z y p v o s (record { alive = ap (λ (q : Process). q.alive) (same_process y w refl p) ∙ inside.alive; range = inside.range }) below (same_pages y w refl p v ∙ here)
      ∙ ap (λ (bs : List ℕ). done (get_or bs o 0)) (get_or-set_same w.segments s (set (segment w s) o x) [] good.0)
      ∙ ap done (get_or-set_same (segment w s) o x 0 (omega (arith, good.1)))

pub load_after_store : LoadAfterStore
unfolding with_page
load_after_store z n cs p v o x k e =
    let w : World = after z (begin z n) cs in
    let s : Sound z w = sound z n cs e in
    by_store z w p v o x (λ y a. a ≡ done k → (call z y (load p v o)).1 ≡ done x)
    (record {
      not_there = λ a. cc;
      no_room = λ l ws i h g sh f a. cc;
      anew = λ l ws i h g sh f a. load_put z w s p v o x i h _ l w.next ws g refl;
      alone = λ l ws i h g sh f a. load_put z w s p v o x i h _ l l ws g refl;
      in_segment = λ t i h g a. load_segment z w s p v o x i h t g;
    })
