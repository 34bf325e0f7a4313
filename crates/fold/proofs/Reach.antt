-- What holds of every world that a row of calls reaches: an invariant that the start has and every call keeps.
use Rattle.std.proofs.Common.{◌≡◌, ℕ, zero, suc, ◌<◌, ◌≤◌, Bool, true, false, ◌≢◌, ◌⊎◌, List, [], ◌∷◌, length, get_or, set, replicate, sym, refl, ap, ◌∙◌, subst, inl, inr, ⊎_elim, arith}
use Rattle.std.proofs.lemmas.List.{length-set, length-replicate, get_or-set_same, get_or-set_other, get_or_past, get_or-replicate, set_past}
use Rattle.std.proofs.lemmas.Bool.{cases_lt, cases_eq, cond-false, both_ways}
use Rattle.fold.specs.Fold.{Page, Process, Sizes, World, Call, absent, own, seen, nobody, process, page, held, users, with_page, with_process, call, after, begin, others}
use Rattle.fold.proofs.Count.{one, count, count_one_more, count_none}
use Rattle.fold.proofs.Pages.{page_of, page_is, same_pages, same_process, alive_with_page, width_with_page, page_with_process, process_either, page_put, page_other}
use Rattle.fold.proofs.Held.{Uses, Looks, uses_twice, label_held, segment_held, held_is, held_le, labels_le, segments_le, label_held_of, segment_held_of, segment_held_from}
use Rattle.fold.proofs.Ways.{Inside, Ways, by_ways, gone, zeros, segment, with_segment, with_label, with_made, free_process, free_segment}

-- a page as it can be: its label was given out, it has all its bytes, label 0 is zeros; a segment is one of the machine's
abbrev pub Good : Sizes → World → Page → Type 0
Good z w absent = Unit {0}
Good z w (own l ws) = (l < w.next) × (length ws ≡ z.words) × (l ≡ 0 → ws ≡ zeros z)
Good z w (seen s) = (s < length w.segments) × (length (segment w s) ≡ z.words)

pub record Sound (z : Sizes) (w : World) : Type 0 where
  pub many : length w.processes ≡ z.processes
  pub wide : (p : ℕ) → (process w p).alive ≡ true → length (process w p).pages ≡ z.pages
  pub segments : length w.segments ≡ z.segments
  pub fresh : 0 < w.next
  pub good : (p v : ℕ) → Good z w (page w p v)
  pub same : (p v q u l : ℕ) (ws xs : List ℕ) → page w p v ≡ own l ws → page w q u ≡ own l xs → ws ≡ xs
  pub within : held w ≤ z.hold

-- x has segments as many and as long as w, and labels below next are below next
pub record Grown (z : Sizes) (w x : World) : Type 0 where
  pub next : w.next ≤ x.next
  pub segments : length x.segments ≡ length w.segments
  pub words : (s : ℕ) → length (segment w s) ≡ z.words → length (segment x s) ≡ z.words

good_still : (z : Sizes) (w x : World) → Grown z w x → (g : Page) → Good z w g → Good z x g
good_still z w x h absent k = tt
good_still z w x h (own l ws) k = (omega (arith, h.next, k.0), k.1, k.2)
good_still z w x h (seen s) k = (omega (arith, h.segments, k.0), h.words s k.1)

-- every page of x is absent or was a page of w
abbrev pub Moved : World → World → Type 0
Moved w x = (r u : ℕ) → (page x r u ≡ absent) ⊎ ((q : ℕ) × (v : ℕ) × (page x r u ≡ page w q v))

module _ (z : Sizes) (w x : World) (sound : Sound z w) (grown : Grown z w x) (moved : Moved w x) where
  moved_own : (r u l : ℕ) (ws : List ℕ) → page x r u ≡ own l ws → (q : ℕ) × (v : ℕ) × (page w q v ≡ own l ws)
  moved_own r u l ws e =
      elim (moved r u) [ inl a ↦ cc | inr m ↦ (m.0, m.1, sym m.2 ∙ e) ]

  moved_seen : (r u s : ℕ) → page x r u ≡ seen s → (q : ℕ) × (v : ℕ) × (page w q v ≡ seen s)
  moved_seen r u s e = elim (moved r u) [ inl a ↦ cc | inr m ↦ (m.0, m.1, sym m.2 ∙ e) ]

  moved_good : (r u : ℕ) → Good z x (page x r u)
  moved_good r u =
      elim (moved r u) [
        | inl a ↦ subst (Good z x) (sym a) tt
        | inr m ↦ subst (Good z x) (sym m.2) (good_still z w x grown _ (sound.good m.0 m.1))
      ]

  moved_sound : length x.processes ≡ z.processes → ((p : ℕ) → (process x p).alive ≡ true → length (process x p).pages ≡ z.pages) → x.next ≡ w.next → Sound z x
  moved_sound many wide next =
      record {
        many = many;
        wide = wide;
        segments = grown.segments ∙ sound.segments;
        fresh = omega (arith, sound.fresh);
        good = moved_good;
        same = λ p v q u l ws xs e f. let a = moved_own p v l ws e in let b = moved_own q u l xs f in sound.same a.0 a.1 b.0 b.1 l ws xs a.2 b.2;
        within =
            let less : held x ≤ held w =
            held_le w x next grown.segments (λ l _ u. let m = moved_own u.0 u.1 l u.2 u.3 in (m.0, m.1, u.2, m.2)) (λ s u. moved_seen u.0 u.1 s u.2) in
            omega (arith, sound.within);
      }

-- page v of p has become g, and all else stays but for what may grow
module _ (z : Sizes) (w x : World) (p v : ℕ) (g : Page) (sound : Sound z w) (inside : Inside z w p v) (grown : Grown z w x) (put : x.processes ≡ (with_page w p v g).processes) where
  put_page : (r u : ℕ) → ((r ≡ p) × (u ≡ v) × (page x r u ≡ g)) ⊎ ((r ≡ p → u ≡ v → ⊥) × (page x r u ≡ page w r u))
  put_page r u =
      elim (cases_eq r p) [
        | inl a ↦ elim (cases_eq u v) [ inl b ↦ inl (a, b, here r u ∙ ap (λ q. page (with_page w p v g) q u) a ∙ ap (page (with_page w p v g) p) b ∙ new) | inr n ↦ other (λ _ b. n b) ]
        | inr n ↦ other (λ a _. n a)
      ]
    where
      here : (r u : ℕ) → page x r u ≡ page (with_page w p v g) r u
      here = same_pages x (with_page w p v g) put

      new : page (with_page w p v g) p v ≡ g
      new = page_put w p v g inside.alive (omega (arith, inside.range, sound.wide p inside.alive))

      other : (r ≡ p → u ≡ v → ⊥) → ((r ≡ p) × (u ≡ v) × (page x r u ≡ g)) ⊎ ((r ≡ p → u ≡ v → ⊥) × (page x r u ≡ page w r u))
      other n = inr (n, here r u ∙ page_other w p v r u g n)

  put_uses : (l : ℕ) → Uses x l → ((ws : List ℕ) × (g ≡ own l ws)) ⊎ Uses w l
  put_uses l u = elim (put_page u.0 u.1) [ inl e ↦ inl (u.2, sym e.2 ∙ u.3) | inr e ↦ inr (u.0, u.1, u.2, sym e.1 ∙ u.3) ]

  put_looks : (s : ℕ) → Looks x s → (g ≡ seen s) ⊎ Looks w s
  put_looks s u = elim (put_page u.0 u.1) [ inl e ↦ inl (sym e.2 ∙ u.2) | inr e ↦ inr (u.0, u.1, sym e.1 ∙ u.2) ]

  -- the bytes of the new page are those of every other page with its label
  abbrev Agrees : Type 0
  Agrees = (r u l : ℕ) (ws xs : List ℕ) → (r ≡ p → u ≡ v → ⊥) → g ≡ own l ws → page w r u ≡ own l xs → ws ≡ xs

  put_same : Agrees → (a b c d l : ℕ) (ws xs : List ℕ) → page x a b ≡ own l ws → page x c d ≡ own l xs → ws ≡ xs
  put_same agrees a b c d l ws xs e f =
      elim (put_page a b) [
        | inl i ↦
            elim (put_page c d) [ inl j ↦ (let k : own l ws ≡ own l xs = sym e ∙ i.2 ∙ sym j.2 ∙ f in cc) | inr j ↦ agrees c d l ws xs j.0 (sym i.2 ∙ e) (sym j.1 ∙ f) ]
        | inr i ↦
            elim (put_page c d)
            [ inl j ↦ sym (agrees a b l xs ws i.0 (sym j.2 ∙ f) (sym i.1 ∙ e)) | inr j ↦ sound.same a b c d l ws xs (sym i.1 ∙ e) (sym j.1 ∙ f) ]
      ]

  put_wide : (r : ℕ) → (process x r).alive ≡ true → length (process x r).pages ≡ z.pages
  put_wide r a =
      let here : process x r ≡ process (with_page w p v g) r = same_process x (with_page w p v g) put r in
      ap (λ (q : Process). length q.pages) here ∙ width_with_page w p v r g
      ∙ sound.wide r (sym (alive_with_page w p v r g) ∙ ap (λ (q : Process). q.alive) (sym here) ∙ a)

  put_sound : Good z x g → Agrees → held x ≤ z.hold → Sound z x
  unfolding with_page
  put_sound good agrees within =
      record {
        many = ap length put ∙ length-set w.processes p _ ∙ sound.many;
        wide = put_wide;
        segments = grown.segments ∙ sound.segments;
        fresh = omega (arith, sound.fresh, grown.next);
        good = λ r u. elim (put_page r u) [ inl e ↦ subst (Good z x) (sym e.2) good | inr e ↦ subst (Good z x) (sym e.1) (good_still z w x grown _ (sound.good r u)) ];
        same = put_same agrees;
        within = within;
      }

  -- a page with a label or segment that was there already, or label 0, needs no room
  put_held : x.next ≡ w.next → ((l : ℕ) (ws : List ℕ) → l ≢ 0 → g ≡ own l ws → Uses w l) → ((s : ℕ) → g ≡ seen s → Looks w s) → held x ≤ z.hold
  put_held next old seen-old =
      let less : held x ≤ held w =
      held_le w x next grown.segments (λ l n u. ⊎_elim (λ e. old l e.0 n e.1) (λ e. e) (put_uses l u)) (λ s u. ⊎_elim (seen-old s) (λ e. e) (put_looks s u)) in
      omega (arith, sound.within)

-- one segment with other bytes, as many as before
grown_segment : (z : Sizes) (w x : World) (s : ℕ) (ws : List ℕ) → x.next ≡ w.next → x.segments ≡ set w.segments s ws → (length (segment w s) ≡ z.words → length ws ≡ z.words) → Grown z w x
grown_segment z w x s ws next e long =
    record {
      next = omega arith;
      segments = ap length e ∙ length-set w.segments s ws;
      words = λ t k. ap (λ (ss : List (List ℕ)). length (get_or ss t [])) e ∙ at t k;
    }
  where
    at : (t : ℕ) → length (segment w t) ≡ z.words → length (get_or (set w.segments s ws) t []) ≡ z.words
    at t k =
        elim (cases_eq t s) [
          | inl i ↦
              elim (cases_lt t (length w.segments)) [
                | inl l ↦
                    ap (λ n. length (get_or (set w.segments n ws) t [])) (sym i) ∙ ap length (get_or-set_same w.segments t ws [] l) ∙ long (ap (λ n. length (segment w n)) (sym i) ∙ k)
                | inr l ↦ ap (λ n. length (get_or (set w.segments n ws) t [])) (sym i) ∙ ap (λ (ss : List (List ℕ)). length (get_or ss t [])) (set_past w.segments t ws l) ∙ k
              ]
          | inr n ↦ ap length (get_or-set_other w.segments s t ws [] n) ∙ k
        ]

grown_same : (z : Sizes) (w x : World) → w.next ≤ x.next → x.segments ≡ w.segments → Grown z w x
grown_same z w x n e = record { next = n; segments = ap length e; words = λ s k. ap (λ (ss : List (List ℕ)). length (get_or ss s [])) e ∙ k }

module _ (z : Sizes) (w : World) (sound : Sound z w) where
  pub good_at : (p v : ℕ) (g : Page) → page w p v ≡ g → Good z w g
  good_at p v g e = subst (Good z w) e (sound.good p v)

  sound_mapped : (p v : ℕ) → Inside z w p v → Sound z (with_page w p v (own 0 (zeros z)))
  unfolding with_page
  sound_mapped p v i =
      let g : Page = own 0 (zeros z) in
      let x : World = with_page w p v g in
      let grown : Grown z w x = grown_same z w x (omega arith) refl in
      put_sound z w x p v g sound i grown refl (sound.fresh, length-replicate z.words 0, λ _. refl)
      (λ r u l ws xs n e f. let k : l ≡ 0 = cc in let ws-is : ws ≡ zeros z = cc in ws-is ∙ sym ((good_at r u (own l xs) f).2 k))
      (put_held z w x p v g sound i grown refl refl (λ l ws n e. absurd (n (cc))) (λ s e. cc))

  sound_dropped : (p v : ℕ) → Inside z w p v → Sound z (with_page w p v absent)
  unfolding with_page
  sound_dropped p v i =
      let x : World = with_page w p v absent in
      let grown : Grown z w x = grown_same z w x (omega arith) refl in
      put_sound z w x p v absent sound i grown refl tt (λ r u l ws xs n e f. cc)
      (put_held z w x p v absent sound i grown refl refl (λ l ws n e. cc) (λ s e. cc))

  sound_looked : (p v q u s : ℕ) → Inside z w p v → page w q u ≡ seen s → Sound z (with_page w p v (seen s))
  unfolding with_page
  sound_looked p v q u s i e =
      let x : World = with_page w p v (seen s) in
      let grown : Grown z w x = grown_same z w x (omega arith) refl in
      put_sound z w x p v (seen s) sound i grown refl (good_at q u (seen s) e)
      (λ r t l ws xs n k f. cc)
      (put_held z w x p v (seen s) sound i grown refl refl (λ l ws n k. cc) (λ t k. (q, u, e ∙ k)))

  sound_alone : (p v o y l : ℕ) (ws : List ℕ) → Inside z w p v → page w p v ≡ own l ws → l ≢ 0 → users w l ≤ 1 → Sound z (with_page w p v (own l (set ws o y)))
  unfolding with_page
  sound_alone p v o y l ws i e n one-user =
      let g : Page = own l (set ws o y) in
      let x : World = with_page w p v g in
      let grown : Grown z w x = grown_same z w x (omega arith) refl in
      let k = good_at p v (own l ws) e in
      put_sound z w x p v g sound i grown refl (k.0, length-set ws o y ∙ k.1, λ h. absurd (n h))
      (λ r u m bs xs other a f. absurd (let same : m ≡ l = cc in omega (arith, uses_twice w l p v r u ws xs e (subst (λ t. page w r u ≡ own t xs) same f) other)))
      (put_held z w x p v g sound i grown refl refl (λ m bs h a. (p, v, ws, let same : own l ws ≡ own m ws = ap (λ t. own t ws) (let t : l ≡ m = cc in t) in e ∙ same)) (λ s a. cc))

  sound_anew : (p v o y l : ℕ) (ws : List ℕ) → Inside z w p v → page w p v ≡ own l ws → held w < z.hold → Sound z (with_label w p v (set ws o y))
  unfolding with_page count
  sound_anew p v o y l ws i e room =
      let g : Page = own w.next (set ws o y) in
      let x : World = with_label w p v (set ws o y) in
      let grown : Grown z w x = grown_same z w x (omega arith) refl in
      let k = good_at p v (own l ws) e in
      let unused : (m : ℕ) → m < w.next → m ≢ 0 → Uses x m → Uses w m =
      λ m h _ u. ⊎_elim (λ (a : (bs : List ℕ) × (g ≡ own m bs)). absurd (let same : w.next ≡ m = let b = a.1 in cc in omega arith)) (λ a. a) (put_uses z w x p v g sound i grown refl m u) in
      let labels : count (label_held x) w.next ≤ count (label_held w) w.next = labels_le w x w.next unused in
      let segs : count (segment_held x) (length w.segments) ≤ count (segment_held w) (length w.segments) =
      segments_le w x (length w.segments) (λ s u. ⊎_elim (λ (a : g ≡ seen s). cc) (λ a. a) (put_looks z w x p v g sound i grown refl s u)) in
      let here : one (label_held x w.next) ≤ 1 = one_le (label_held x w.next) in
      put_sound z w x p v g sound i grown refl (omega arith, length-set ws o y ∙ k.1, λ h. absurd (omega (arith, sound.fresh)))
      (λ r u m bs xs other a f. absurd (let same : w.next ≡ m = cc in omega (arith, (good_at r u (own m xs) f).0)))
      (omega (arith, held_is x, held_is w))
    where
      one_le : (b : Bool) → one b ≤ 1
      one_le true = omega arith
      one_le false = omega arith

  sound_made : (p v : ℕ) → Inside z w p v → free_segment w < z.segments → held w < z.hold → Sound z (with_made z w p v)
  unfolding with_page
  sound_made p v i free room =
      let g : Page = seen (free_segment w) in
      let x : World = with_made z w p v in
      let grown : Grown z w x = grown_segment z w x (free_segment w) (zeros z) refl refl (λ _. length-replicate z.words 0) in
      let below : free_segment w < length w.segments = omega (arith, sound.segments) in
      let labels : count (label_held x) w.next ≤ count (label_held w) w.next =
      labels_le w x w.next (λ l h n u. ⊎_elim (λ (a : (bs : List ℕ) × (g ≡ own l bs)). let c = a.1 in cc) (λ a. a) (put_uses z w x p v g sound i grown refl l u)) in
      let segs : count (segment_held x) (length w.segments) ≤ suc (count (segment_held w) (length w.segments)) =
      count_one_more _ _ (length w.segments) (free_segment w)
      (λ s h e. ⊎_elim (λ (a : g ≡ seen s). inr (let b : free_segment w ≡ s = cc in sym b)) (λ a. inl (segment_held_from w s a)) (put_looks z w x p v g sound i grown refl s (segment_held_of x s e))) in
      put_sound z w x p v g sound i grown refl (omega (arith, grown.segments), ap length (get_or-set_same w.segments (free_segment w) (zeros z) [] below) ∙ length-replicate z.words 0)
      (λ r u l ws xs n e f. cc)
      (omega (arith, held_is x, held_is w, ap (count (segment_held x)) grown.segments))

  -- a process put in place of another: its pages are absent, or those of a process that was there
  sound_put : (p : ℕ) (q : Process) → ((u : ℕ) → (page_of q u ≡ absent) ⊎ ((r : ℕ) × (page_of q u ≡ page w r u))) → (q.alive ≡ true → length q.pages ≡ z.pages) → Sound z (with_process w p q)
  unfolding with_process
  sound_put p q from wide =
      let x : World = with_process w p q in
      let moved : Moved w x =
      λ r u. elim (page_with_process w p r u q)
      [ inl e ↦ ⊎_elim (λ a. inl (e.1 ∙ a)) (λ a. inr (a.0, u, e.1 ∙ a.1)) (from u) | inr e ↦ inr (r, u, e) ] in
      moved_sound z w x sound (grown_same z w x (omega arith) refl) moved (length-set w.processes p q ∙ sound.many)
      (λ r a. elim (process_either w p r q) [
        | inl e ↦ ap (λ (o : Process). length o.pages) e.1 ∙ wide (ap (λ (o : Process). o.alive) (sym e.1) ∙ a)
        | inr e ↦ ap (λ (o : Process). length o.pages) e ∙ sound.wide r (ap (λ (o : Process). o.alive) (sym e) ∙ a)
      ])
      refl

  sound_segment : (s : ℕ) (o y : ℕ) → Sound z (with_segment w s (set (segment w s) o y))
  sound_segment s o y =
      let x : World = with_segment w s (set (segment w s) o y) in
      moved_sound z w x sound (grown_segment z w x s (set (segment w s) o y) refl refl (λ k. length-set (segment w s) o y ∙ k)) (λ r u. inr (r, u, same_pages x w refl r u)) sound.many
      (λ r a. ap (λ (o : Process). length o.pages) (same_process x w refl r) ∙ sound.wide r (ap (λ (o : Process). o.alive) (sym (same_process x w refl r)) ∙ a))
      refl

  sound_ways : Ways z w (λ c x a. Sound z x)
  sound_ways =
      record {
        faulted = λ c. sound;
        forking = λ p.
            record {
              nobody_there = sound;
              all_there = λ a f. sound;
              forked = λ a f. sound_put (free_process w) (process w p) (λ u. inr (p, sym (page_is w p u))) (sound.wide p);
            };
        left = λ p a. sound_put p (gone z) (λ u. inl refl) (λ d. absurd (both_ways false refl d));
        mapped = λ p v i a. sound_mapped p v i;
        dropped = λ p v i t. sound_dropped p v i;
        make_full = λ p v i a f. sound;
        made = λ p v i a f h. sound_made p v i f h;
        looked_at = λ p v q u s i a k e. sound_looked p v q u s i e;
        loaded_own = λ p v o l ws i h e. sound;
        loaded_seen = λ p v o s i h e. sound;
        storing_to = λ p v o x.
            record {
              not_there = sound;
              no_room = λ l ws i h e s f. sound;
              anew = λ l ws i h e s f. sound_anew p v o x l ws i e f;
              alone = λ l ws i h e n u. sound_alone p v o x l ws i e n u;
              in_segment = λ s i h e. sound_segment s o x;
            };
      }

  pub sound_call : (c : Call) → Sound z (call z w c).0
  sound_call = by_ways z w (λ c x a. Sound z x) sound_ways

-- where no page is there, nothing is held
pub nothing_held : (w : World) → ((p v : ℕ) → page w p v ≡ absent) → held w ≡ 0
nothing_held w none =
    let labels : count (label_held w) w.next ≡ 0 =
    count_none _ w.next (λ l _ e. let u = (label_held_of w l e).1 in cc (none u.0 u.1, u.3)) in
    let segs : count (segment_held w) (length w.segments) ≡ 0 =
    count_none _ (length w.segments) (λ s _ e. let u = segment_held_of w s e in cc (none u.0 u.1, u.2)) in
    omega (arith, held_is w)

-- the start: nothing is there but process 0, and it has no page
pub others_gone : (pages n q : ℕ) → (get_or (others pages n) q nobody).alive ≡ false
unfolding others
others_gone pages zero q = refl
others_gone pages (suc n) zero = refl
others_gone pages (suc n) (suc q) = others_gone pages n q

pub others_length : (pages n : ℕ) → length (others pages n) ≡ n
unfolding others
others_length pages zero = refl
others_length pages (suc n) = ap suc (others_length pages n)

pub all_same : {X : Type 0} (n i : ℕ) (x : X) → get_or (replicate n x) i x ≡ x
all_same n i x =
    elim (cases_lt i n) [ inl h ↦ get_or-replicate n i x x h | inr h ↦ get_or_past (replicate n x) i x (omega (arith, length-replicate n x)) ]

pub begin_absent : (z : Sizes) (n p v : ℕ) → page (begin z n) p v ≡ absent
unfolding begin page process
begin_absent z n zero v = all_same z.pages v absent
begin_absent z n (suc q) v = cond-false _ _ absent (others_gone z.pages n q)

begin_wide : (z : Sizes) (n p : ℕ) → (process (begin z n) p).alive ≡ true → length (process (begin z n) p).pages ≡ z.pages
unfolding begin process
begin_wide z n zero a = length-replicate z.pages absent
begin_wide z n (suc q) a = absurd (both_ways _ (others_gone z.pages n q) a)

pub sound_begin : (z : Sizes) (n : ℕ) → z.processes ≡ suc n → Sound z (begin z n)
unfolding begin
sound_begin z n e =
    record {
      many = ap suc (others_length z.pages n) ∙ sym e;
      wide = begin_wide z n;
      segments = length-replicate z.segments [];
      fresh = omega arith;
      good = λ p v. subst (Good z (begin z n)) (sym (begin_absent z n p v)) tt;
      same = λ p v q u l ws xs a b. cc (begin_absent z n p v);
      within = omega (arith, nothing_held (begin z n) (begin_absent z n));
    }

pub sound_after : (z : Sizes) (w : World) (cs : List Call) → Sound z w → Sound z (after z w cs)
unfolding after
sound_after z w [] s = s
sound_after z w (c ∷ cs) s = sound_after z (call z w c).0 cs (sound_call z w s c)

-- what every reachable world has
pub sound : (z : Sizes) (n : ℕ) (cs : List Call) → z.processes ≡ suc n → Sound z (after z (begin z n) cs)
sound z n cs e = sound_after z (begin z n) cs (sound_begin z n e)
