-- How a process's pages look after a write, and how a count over them goes on.
use Rattle.std.proofs.Common.{◌≡◌, ℕ, zero, suc, Bool, true, false, cond, eqb, filter, [], ◌∷◌, replicate, refl, ◌+◌, ◌<◌, ◌≤◌, List, map, length, get_or, set, vec_items, vec_len, Vec, sym, ap, ◌∙◌, arith}
use Rattle.std.proofs.lemmas.List.{map-set, length-map, get_or-map, get_or_past}
use Rattle.std.specs.Vec.{with_item}
use Rattle.std.specs.declared.alloc.Global.{Global}
use Rattle.fold.specs.Fold as fold
use Rattle.fold.specs.Fold.{over_pages, is_own, is_seen}
use Rattle.private.specs.SeePage.{see_page, see_process, put_in, matching}
use Rattle.private.specs.contracts.page.PageClone.TheImpl.{by_variants}
use Rattle.private.specs.declared.page.Page.TheVariants.{Absent, Own, Segment}
use Rattle.private.specs.declared.page.Sought.{Sought}
use Rattle.private.specs.declared.page.Sought.TheVariants.{Labelled, Looking}
use Rattle.std.specs.List.{AllZip}
use Rattle.std.proofs.lemmas.List.Elements.{same_from_all_zip}
use Rattle.private.specs.declared.page.Page.{Page}
use Rattle.private.specs.declared.process.Process.{Process}

pub put_here : (q : Process) (i : ℕ) (x : Page) → see_process (record { alive = q.alive; pages = with_item q.pages i x }) ≡ put_in (see_process q) i (see_page x)
put_here q i x =
    ap (λ (ps : List fold.Page). record { alive = q.alive; pages = ps }) (map-set see_page (vec_items q.pages) i x)

pub put_is : (q : Process) (v : Vec Page Global) (i : ℕ) (x : Page) → vec_items v ≡ set (vec_items q.pages) i x → see_process (record { alive = q.alive; pages = v }) ≡ put_in (see_process q) i (see_page x)
put_is q v i x e =
    ap (λ (ps : List fold.Page). record { alive = q.alive; pages = ps }) (ap (map see_page) e ∙ map-set see_page (vec_items q.pages) i x)

pub page_is : (q : Process) (i : ℕ) (x : Page) → i < vec_len q.pages → x ≡ get_or (vec_items q.pages) i x → get_or (see_process q).pages i fold.absent ≡ see_page x
page_is q i x h e =
    let within : i < length (vec_items q.pages) = omega (arith, q.pages.ok.0) in
    get_or-map see_page (vec_items q.pages) i x fold.absent within ∙ sym (ap see_page e)

pub page_past : (q : Process) (i : ℕ) → vec_len q.pages ≤ i → get_or (see_process q).pages i fold.absent ≡ fold.absent
page_past q i h =
    let past : length (map see_page (vec_items q.pages)) ≤ i = rw (length-map, ← q.pages.ok.0) h in
    get_or_past _ i fold.absent past

-- a process with the clones of another's pages is seen as that one
page_clone : (p p' : Page) → by_variants p p' → see_page p' ≡ see_page p
page_clone Absent Absent h = refl
page_clone Absent (Own m d) h = elim h [ ]
page_clone Absent (Segment t) h = elim h [ ]
page_clone (Own l b) Absent h = elim h [ ]
page_clone (Own l b) (Segment t) h = elim h [ ]
page_clone (Segment s) Absent h = elim h [ ]
page_clone (Segment s) (Own m d) h = elim h [ ]
page_clone (Own l b) (Own m d) h =
    ap (λ k. fold.own k (vec_items d)) h.0 ∙ ap (fold.own l) (same_from_all_zip _ (vec_items b) (vec_items d) h.1.0 (λ x y e. e))
page_clone (Segment s) (Segment t) h = cc

pages_clone : (ps qs : List Page) → AllZip by_variants ps qs → map see_page qs ≡ map see_page ps
pages_clone [] [] h = refl
pages_clone [] (q ∷ qs) h = absurd h
pages_clone (p ∷ ps) [] h = absurd h
pages_clone (p ∷ ps) (q ∷ qs) h = ap (λ x. x ∷ map see_page qs) (page_clone p q h.0) ∙ ap (λ xs. see_page p ∷ xs) (pages_clone ps qs h.1)

pub clone_seen : (q r : Process) → r.alive ≡ q.alive → AllZip by_variants (vec_items q.pages) (vec_items r.pages) → see_process r ≡ see_process q
clone_seen q r e h =
    ap (λ b. record { alive = b; pages = map see_page (vec_items r.pages) }) e
    ∙ ap (λ (ps : List fold.Page). record { alive = q.alive; pages = ps }) (pages_clone (vec_items q.pages) (vec_items r.pages) h)

pub clone_absent : (p : Page) → by_variants Absent p → p ≡ Absent
clone_absent Absent h = refl
clone_absent (Own _ _) h = elim h [ ]
clone_absent (Segment _) h = elim h [ ]

pub absent_pages : (n : ℕ) → map see_page (replicate n Absent) ≡ replicate n fold.absent
absent_pages zero = refl
absent_pages (suc n) = ap (λ ps. fold.absent ∷ ps) (absent_pages n)

-- whether a page is sought
abbrev pub is_match : Sought → Page → Bool
is_match k x = eqb (matching k (see_page x)) 1

pub bit_test : (b : Bool) (n : ℕ) → n ≡ cond b 1 0 → b ≡ eqb n 1
bit_test true n e = rw e refl
bit_test false n e = rw e refl

bit_again : (b : Bool) → ◌≡◌ {A = ℕ} (cond (eqb (cond b 1 0) 1) 1 0) (cond b 1 0)
bit_again true = refl
bit_again false = refl

match_bit : (k : Sought) (x : fold.Page) → matching k x ≡ cond (eqb (matching k x) 1) 1 0
unfolding is_own is_seen
match_bit (Labelled l) fold.absent = refl
match_bit (Labelled l) (fold.own m ws) = sym (bit_again (eqb l m))
match_bit (Labelled l) (fold.seen s) = refl
match_bit (Looking s) fold.absent = refl
match_bit (Looking s) (fold.own m ws) = refl
match_bit (Looking s) (fold.seen t) = sym (bit_again (eqb s t))

length_cons : (b : Bool) (x : Page) (xs : List Page) → length (cond b (x ∷ xs) xs) ≡ cond b 1 0 + length xs
length_cons true x xs = omega arith
length_cons false x xs = omega arith

pub matches_counted : (k : Sought) (xs : List Page) → over_pages (matching k) (map see_page xs) ≡ length (filter (is_match k) xs)
unfolding over_pages
matches_counted k [] = refl
matches_counted k (x ∷ xs) =
    ap (λ n. n + over_pages (matching k) (map see_page xs)) (match_bit k (see_page x))
    ∙ ap (λ n. cond (is_match k x) 1 0 + n) (matches_counted k xs)
    ∙ sym (length_cons (is_match k x) x (filter (is_match k) xs))
