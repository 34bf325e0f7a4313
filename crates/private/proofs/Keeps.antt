-- Every call keeps what holds of a machine's world at all times.
use Rattle.std.proofs.Common.{◌≡◌, ℕ, zero, suc, ◌+◌, ◌-◌, ◌<◌, Bool, true, false, cond, not, ◌&&◌, ◌||◌, eqb, ltb, leb, ◌⊎◌, List, [], ◌∷◌, ◌++◌, length, get_or, set, replicate, Ok, Err, Result, sym, refl, ap, ◌∙◌, subst, inl, inr, add-one, arith}
use Rattle.std.proofs.lemmas.List.{get_or-set_same, get_or-set_other, set_past, length-set, length-replicate, get_or-replicate, get_or_past}
use Rattle.std.proofs.lemmas.Bool.{cases_eq, cases_lt, cases_Bool, false≢true}
use Rattle.requests.specs.Meaning.{seen_sizes}
use Rattle.requests.specs.declared.answer.Answer.{Answer}
use Rattle.requests.specs.declared.sizes.Sizes.{Sizes}
use Rattle.fold.specs.Fold as fold
use Rattle.fold.specs.Fold.{World, Process, Page, process, page, call, with_page, with_process, stored, looked, others, nobody}
use Rattle.private.specs.See.{Rows, Labels, Room, Makes, label_of}
use Rattle.private.specs.SeePage.{put_in, blank}
use Rattle.private.specs.declared.want.Want.{Want}
use Rattle.private.proofs.Calls as way
use Rattle.private.proofs.Worlds.{page_is_process}

-- labels below n, whatever the next one is
abbrev Below : ℕ → World → Type 0
Below n w = (p v : ℕ) → label_of (page w p v) < n

abbrev pub Kept : Sizes → World → Type 0
Kept z w = Rows z w × Labels w × Room z w

-- with what is kept of processes and labels, and as much room as before
kept : (z : Sizes) (w w' : World) → Rows z w' × Labels w' → length w'.processes ≡ length w.processes → length w'.segments ≡ length w.segments → Room z w → Kept z w'
kept z w w' k p s room = (k.0, k.1, (p ∙ room.0, s ∙ room.1))

-- what is asked of a process that is put in
abbrev Good : Sizes → ℕ → Process → Type 0
Good z n q = (q.alive ≡ true → length q.pages ≡ z.pages) × ((v : ℕ) → label_of (cond q.alive (get_or q.pages v fold.absent) fold.absent) < n)

process_cases : (w : World) (i p : ℕ) (q : Process) → (process (with_process w i q) p ≡ q) ⊎ (process (with_process w i q) p ≡ process w p)
unfolding process with_process
process_cases w i p q =
    elim (cases_eq p i) [
      | inr other ↦ inr (get_or-set_other w.processes i p q nobody other)
      | inl same ↦
          elim (cases_lt i (length w.processes)) [
            | inl less ↦ inl (ap (λ k. get_or (set w.processes i q) k nobody) same ∙ get_or-set_same w.processes i q nobody less)
            | inr most ↦ inr (ap (λ qs. get_or qs p nobody) (set_past w.processes i q most))
          ]
    ]

put_good : (z : Sizes) (n : ℕ) (w : World) (i : ℕ) (q : Process) → Good z n q → Rows z w → Below n w → (p : ℕ) → Good z n (process (with_process w i q) p)
unfolding page
put_good z n w i q g rows below p =
    elim (process_cases w i p q) [
      | inl new ↦ subst (Good z n) (sym new) g
      | inr old ↦ subst (Good z n) (sym old) (rows p, below p)
    ]

keep_process : (z : Sizes) (n : ℕ) (w : World) (i : ℕ) (q : Process) → Good z n q → Rows z w → Below n w → Rows z (with_process w i q) × Below n (with_process w i q)
unfolding page
keep_process z n w i q g rows below =
    (λ p. (put_good z n w i q g rows below p).0, λ p. (put_good z n w i q g rows below p).1)

label_set : (n : ℕ) (ps : List Page) (v u : ℕ) (x : Page) → label_of x < n → label_of (get_or ps u fold.absent) < n → label_of (get_or (set ps v x) u fold.absent) < n
label_set n ps v u x h old =
    elim (cases_eq u v) [
      | inr other ↦ subst (λ y. label_of y < n) (sym (get_or-set_other ps v u x fold.absent other)) old
      | inl same ↦
          elim (cases_lt v (length ps)) [
            | inl less ↦ subst (λ y. label_of y < n) (sym (ap (λ k. get_or (set ps v x) k fold.absent) same ∙ get_or-set_same ps v x fold.absent less)) h
            | inr most ↦ subst (λ qs. label_of (get_or qs u fold.absent) < n) (sym (set_past ps v x most)) old
          ]
    ]

put_in_good : (z : Sizes) (n : ℕ) (b : Bool) (ps : List Page) (v : ℕ) (x : Page) → label_of x < n → Good z n (record { alive = b; pages = ps }) → Good z n (record { alive = b; pages = set ps v x })
put_in_good z n true ps v x h g = (λ e. length-set ps v x ∙ g.0 e, λ u. label_set n ps v u x h (g.1 u))
put_in_good z n false ps v x h g = (λ e. absurd (false≢true e), g.1)

keep_page : (z : Sizes) (n : ℕ) (w : World) (p v : ℕ) (x : Page) → label_of x < n → Rows z w → Below n w → Rows z (with_page w p v x) × Below n (with_page w p v x)
unfolding page
keep_page z n w p v x h rows below =
    subst (λ u. Rows z u × Below n u) (sym (page_is_process w p v x))
    (keep_process z n w p (put_in (process w p) v x)
    (put_in_good z n (process w p).alive (process w p).pages v x h (rows p, below p)) rows below)

some_next : (w : World) → Labels w → 0 < w.next
some_next w labels = omega (arith, labels 0 0)

gone_good : (z : Sizes) (n k : ℕ) → 0 < n → Good z n (blank false k)
gone_good z n k h = (λ e. absurd (false≢true e), λ v. h)

looked_keeps : (z : Sizes) (w : World) (p v : ℕ) (x : Page) → Kept z w → Kept z (looked w p v x).0
unfolding looked with_page
looked_keeps z w p v fold.absent k = k
looked_keeps z w p v (fold.own l ws) k = k
looked_keeps z w p v (fold.seen s) k =
    kept z w _ (keep_page z w.next w p v (fold.seen s) (some_next w k.1) k.0 k.1) (length-set _ _ _) refl k.2

stored_keeps : (z : Sizes) (w : World) (p v o x : ℕ) (y : Page) → page w p v ≡ y → Kept z w → Kept z (stored (seen_sizes z) w p v o x y).0
unfolding stored with_page process page
stored_keeps z w p v o x fold.absent e k = k
stored_keeps z w p v o x (fold.seen s) e k = kept z w _ (k.0, k.1) refl (length-set _ _ _) k.2
stored_keeps z w p v o x (fold.own l ws) e k =
    let P : World × fold.Answer → Type 0 = λ r. Kept z r.0 in
    let y = seen_sizes z in
    elim (cases_Bool (eqb l 0 || fold.more_than_one (fold.users w l))) [
      | inr alone ↦
          subst P (sym (way.stored_alone y w p v o x l ws alone))
          (kept z w _ (keep_page z w.next w p v (fold.own l (set ws o x)) (rw e at (k.1 p v)) k.0 k.1) (length-set _ _ _) refl k.2)
      | inl shared ↦
          elim (cases_Bool (leb (z.frames + z.places) (fold.held w))) [
            | inl full ↦ subst P (sym (way.stored_full y w p v o x l ws shared full)) k
            | inr room ↦
                subst P (sym (way.stored_fresh y w p v o x l ws shared room))
                (kept z w _ (keep_page z (suc w.next) w p v (fold.own w.next (set ws o x)) (omega arith) k.0 (λ q u. omega (arith, k.1 q u))) (length-set _ _ _) refl k.2)
          ]
    ]

module _ (z : Sizes) (w : World) (k : Kept z w) where
  abbrev P : World × fold.Answer → Type 0
  P r = Kept z r.0

  fork_keeps : (p : ℕ) → P (call (seen_sizes z) w (fold.fork p))
  unfolding page with_process
  fork_keeps p =
      elim (cases_Bool (process w p).alive) [
        | inr gone ↦ subst P (sym (way.fork_fault (seen_sizes z) w p gone)) k
        | inl there ↦
            elim (cases_Bool (leb z.processes (fold.first_free w.processes))) [
              | inl full ↦ subst P (sym (way.fork_full (seen_sizes z) w p there full)) k
              | inr room ↦
                  subst P (sym (way.fork_done (seen_sizes z) w p there room))
                  (kept z w _ (keep_process z w.next w (fold.first_free w.processes) (process w p) (k.0 p, k.1 p) k.0 k.1) (length-set _ _ _) refl k.2)
            ]
      ]

  leave_keeps : (p : ℕ) → P (call (seen_sizes z) w (fold.leave p))
  unfolding with_process
  leave_keeps p =
      elim (cases_Bool (process w p).alive) [
        | inr gone ↦ subst P (sym (way.leave_fault (seen_sizes z) w p gone)) k
        | inl there ↦
            subst P (sym (way.leave_done (seen_sizes z) w p there))
            (kept z w _ (keep_process z w.next w p (blank false z.pages) (gone_good z w.next z.pages (some_next w k.1)) k.0 k.1) (length-set _ _ _) refl k.2)
      ]

  page_keeps : (p v : ℕ) (x : Page) → label_of x ≡ 0 → Kept z (with_page w p v x)
  unfolding with_page
  page_keeps p v x e = kept z w _ (keep_page z w.next w p v x (omega (arith, e, some_next w k.1)) k.0 k.1) (length-set _ _ _) refl k.2

  map_keeps : (p v : ℕ) → P (call (seen_sizes z) w (fold.map p v))
  map_keeps p v =
      elim (cases_Bool (fold.inside (seen_sizes z) w p v && not (fold.there (page w p v)))) [
        | inr taken ↦ subst P (sym (way.map_fault (seen_sizes z) w p v taken)) k
        | inl it ↦ subst P (sym (way.map_done (seen_sizes z) w p v it)) (page_keeps p v (fold.own 0 (replicate 256 0)) refl)
      ]

  drop_keeps : (p v : ℕ) → P (call (seen_sizes z) w (fold.drop p v))
  drop_keeps p v =
      elim (cases_Bool (fold.inside (seen_sizes z) w p v && fold.there (page w p v))) [
        | inr none ↦ subst P (sym (way.drop_fault (seen_sizes z) w p v none)) k
        | inl it ↦ subst P (sym (way.drop_done (seen_sizes z) w p v it)) (page_keeps p v fold.absent refl)
      ]

  make_keeps : (p v : ℕ) → P (call (seen_sizes z) w (fold.make p v))
  unfolding with_page process page
  make_keeps p v =
      elim (cases_Bool (fold.inside (seen_sizes z) w p v && not (fold.there (page w p v)))) [
        | inr taken ↦ subst P (sym (way.make_fault (seen_sizes z) w p v taken)) k
        | inl it ↦
            elim (cases_Bool (leb z.segments (fold.first_segment w 0 w.segments))) [
              | inl none ↦ subst P (sym (way.make_no_segment (seen_sizes z) w p v it none)) k
              | inr some ↦
                  elim (cases_Bool (leb (z.frames + z.places) (fold.held w))) [
                    | inl full ↦ subst P (sym (way.make_full (seen_sizes z) w p v it some full)) k
                    | inr room ↦
                        subst P (sym (way.make_done (seen_sizes z) w p v it some room (fold.first_segment w 0 w.segments) refl))
                        (let q = page_keeps p v (fold.seen (fold.first_segment w 0 w.segments)) refl in (q.0, q.1, (q.2.0, length-set _ _ _ ∙ k.2.1)))
                  ]
            ]
      ]

  look_keeps : (p v q u : ℕ) → P (call (seen_sizes z) w (fold.look p v q u))
  look_keeps p v q u =
      elim (cases_Bool (fold.inside (seen_sizes z) w p v && not (fold.there (page w p v)))) [
        | inr taken ↦ subst P (sym (way.look_not_free (seen_sizes z) w p v q u taken)) k
        | inl it ↦
            elim (cases_Bool (fold.inside (seen_sizes z) w q u)) [
              | inr outside ↦ subst P (sym (way.look_outside (seen_sizes z) w p v q u it outside)) k
              | inl within ↦ subst P (sym (way.look_inside (seen_sizes z) w p v q u (page w q u) it within refl)) (looked_keeps z w p v (page w q u) k)
            ]
      ]

  store_keeps : (p v o x : ℕ) → P (call (seen_sizes z) w (fold.store p v o x))
  store_keeps p v o x =
      elim (cases_Bool (fold.inside (seen_sizes z) w p v && ltb o 256)) [
        | inr outside ↦ subst P (sym (way.store_outside (seen_sizes z) w p v o x outside)) k
        | inl within ↦ subst P (sym (way.store_inside (seen_sizes z) w p v o x (page w p v) within refl)) (stored_keeps z w p v o x (page w p v) refl k)
      ]

pub keeps : (z : Sizes) (w : World) (c : fold.Call) → Kept z w → Kept z (call (seen_sizes z) w c).0
unfolding call
keeps z w (fold.fork p) k = fork_keeps z w k p
keeps z w (fold.leave p) k = leave_keeps z w k p
keeps z w (fold.map p v) k = map_keeps z w k p v
keeps z w (fold.drop p v) k = drop_keeps z w k p v
keeps z w (fold.make p v) k = make_keeps z w k p v
keeps z w (fold.look p v q u) k = look_keeps z w k p v q u
keeps z w (fold.load p v o) k = k
keeps z w (fold.store p v o x) k = store_keeps z w k p v o x

pub makes_keep : (z : Sizes) (c : fold.Call) (w : World) (r : Result Answer Want) (w' : World) → Makes z c w r w' → Kept z w → Kept z w'
makes_keep z c w (Ok a) w' e k = subst (Kept z) (sym e.0) (keeps z w c k)
makes_keep z c w (Err x) w' e k = subst (Kept z) (sym e) k

-- as a machine begins
blank_good : (z : Sizes) (b : Bool) → Good z 1 (blank b z.pages)
blank_good z true = (
  λ e. length-replicate z.pages fold.absent,
  λ v.
      elim (cases_lt v z.pages) [
        | inl less ↦ subst (λ y. label_of y < 1) (sym (get_or-replicate z.pages v fold.absent fold.absent less)) (omega arith)
        | inr most ↦ subst (λ y. label_of y < 1) (sym (get_or_past (replicate z.pages fold.absent) v fold.absent (rw length-replicate most))) (omega arith)
      ],
)
blank_good z false = (λ e. absurd (false≢true e), λ v. omega arith)

others_good : (z : Sizes) (n p : ℕ) → Good z 1 (get_or (others z.pages n) p nobody)
unfolding others
others_good z zero p = (λ e. absurd (false≢true e), λ v. omega arith)
others_good z (suc n) zero = blank_good z false
others_good z (suc n) (suc p) = others_good z n p

first_good : (z : Sizes) (n p : ℕ) → Good z 1 (get_or (blank true z.pages ∷ others z.pages n) p nobody)
first_good z n zero = blank_good z true
first_good z n (suc p) = others_good z n p

length-others : (k n : ℕ) → length (others k n) ≡ n
unfolding others
length-others k zero = refl
length-others k (suc n) = ap suc (length-others k n)

pub begins_kept : (z : Sizes) (w : World) → w.processes ≡ blank true z.pages ∷ others z.pages (z.processes - 1) → w.segments ≡ replicate z.segments [] → w.next ≡ 1 → Kept z w
unfolding process page
begins_kept z w e s f =
    let good : (p : ℕ) → Good z 1 (process w p) = λ p. subst (λ qs. Good z 1 (get_or qs p nobody)) (sym e) (first_good z (z.processes - 1) p) in (
      λ p. (good p).0,
      λ p v. rw f ((good p).1 v),
      (ap length e ∙ ap suc (length-others z.pages (z.processes - 1)), ap length s ∙ length-replicate z.segments []),
    )

pub others_more : (k n : ℕ) → others k n ++ blank false k ∷ [] ≡ others k (n + 1)
unfolding others
others_more k n = rw add-one (more k n)
  where
    more : (k n : ℕ) → others k n ++ blank false k ∷ [] ≡ others k (suc n)
    more k zero = refl
    more k (suc n) = ap (λ qs. blank false k ∷ qs) (more k n)
