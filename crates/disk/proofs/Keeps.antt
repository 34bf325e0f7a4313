-- What is free is nobody's, so that taking a frame and bringing a page in change no byte, and counts stay right.
use Rattle.std.proofs.Common.{◌≡◌, ℕ, ◌+◌, ◌<◌, eqb, ◌≢◌, List, [], length, get_or, Some, None, sum_by, Option, sym, refl, ap, ◌∙◌, inl, inr, arith}
use Rattle.std.proofs.lemmas.List.Sums.{get_or-le-sum_by}
use Rattle.std.proofs.lemmas.List.{get_or_past, length-set}
use Rattle.std.proofs.lemmas.Bool.{cases_lt, cond-true, eq-eqb}
use Rattle.frames.specs.Cut.{row}
use Rattle.tables.specs.Cells.{Held, Cell, none, nothing, zeros, at, segment}
use Rattle.tables.specs.Rows.{entry_of}
use Rattle.tables.specs.State.{State, Spot, nowhere, blank, lies, walked, walked_segment}
use Rattle.disk.specs.Moves.{relocated, gone_out, come_in, exchanged}
use Rattle.disk.specs.Follows.{segment_spot, bytes_at, SameBytes, There, names, namers, named, CountsRight, FreeIsNobodys}
use Rattle.disk.specs.Whole.{Choice, Whole, with_used, free_frame, free_place, taken_by, take_frame, brought_by, bring_in}
use Rattle.disk.specs.Frames.{Ready, TakeKeepsBytes, TakeKeepsCounts, BringKeepsBytes, BringKeepsCounts}
use Rattle.disk.proofs.Follows.{out_keeps_bytes, in_keeps_bytes, exchange_keeps_bytes, counts_follow, swap_first}
use Rattle.disk.proofs.Taking.{frame_free, place_free}

-- where a sum is 0, each element adds nothing
sum_at : {X : Type 0} (f : X → ℕ) (xs : List X) (i : ℕ) (d : X) → f d ≡ 0 → sum_by f xs ≡ 0 → f (get_or xs i d) ≡ 0
sum_at f xs i d z e = elim (cases_lt i (length xs)) [ inl h ↦ omega (arith, get_or-le-sum_by f xs i d h) | inr h ↦ ap f (get_or_past xs i d h) ∙ z ]

-- what does not name l does not lie there
not_nowhere : (l : ℕ) → nowhere ≢ lies l
not_nowhere l e = let z : ◌≡◌ {A = ℕ} 0 1 = cc in omega arith

not_blank : (l : ℕ) → blank ≢ lies l
not_blank l e = let z : ◌≡◌ {A = ℕ} 0 1 = cc in omega arith

segment_away : (l : ℕ) (h : Held) → names l h ≡ 0 → (walked_segment h).spot ≢ lies l
segment_away l nothing e = not_nowhere l
segment_away l zeros e = not_nowhere l
segment_away l (segment s) e = not_nowhere l
segment_away l (at x) e = λ q. let is : l ≡ x = cc in omega (arith, cond-true {A = ℕ} (eqb l x) 1 0 (eq-eqb l x is))

page_away : (segments : List Cell) (counts : List ℕ) (l : ℕ) (h : Held) → names l h ≡ 0 → ((s : ℕ) → (walked_segment (get_or segments s none).holds).spot ≢ lies l) →
    (walked segments counts h).spot ≢ lies l
page_away segments counts l nothing e away = not_nowhere l
page_away segments counts l zeros e away = not_blank l
page_away segments counts l (at x) e away = segment_away l (at x) e
page_away segments counts l (segment s) e away = away s

pub free_is_nobodys : FreeIsNobodys
free_is_nobodys m l h right e =
    let zero : named m l ≡ 0 = sym (right l h) ∙ e in
    let away : (s : ℕ) → segment_spot m s ≢ lies l = λ s. segment_away l _ (sum_at (λ (c : Cell). names l c.holds) m.segments s none refl (omega arith)) in
    record {
      page = λ p v.
          page_away m.segments m.counts l (entry_of m.rows p v).holds
          (sum_at (λ (c : Cell). names l c.holds) (row m.rows p) v none refl (sum_at (namers l) m.rows p [] refl (omega arith))) away;
      segment = away;
    }

-- the used marks play no part in the bytes
bytes_used : (m : State) (us : List ℕ) (s : Spot) → bytes_at (with_used m us) s ≡ bytes_at m s
bytes_used m us nowhere = refl
bytes_used m us blank = refl
bytes_used m us (lies l) = refl

-- n shows what m shows, and its counts are right
record Kept (m n : State) : Type 0 where
  bytes : SameBytes m n
  right : CountsRight n

kept_used : (m n : State) (us : List ℕ) → Kept m n → Kept m (with_used n us)
kept_used m n us k =
    record {
      bytes = record { page = λ p v. bytes_used n us _ ∙ k.bytes.page p v; segment = λ s. bytes_used n us _ ∙ k.bytes.segment s };
      right = k.right;
    }

kept_then : (m n o : State) → Kept m n → Kept n o → Kept m o
kept_then m n o a b =
    record {
      bytes = record { page = λ p v. b.bytes.page p v ∙ a.bytes.page p v; segment = λ s. b.bytes.segment s ∙ a.bytes.segment s };
      right = b.right;
    }

-- each move between two locations, the one that is written to free
module _ (m : State) (f d : ℕ) (right : CountsRight m) (long : length m.pages ≡ length m.counts) (a : f < length m.counts) (b : d < length m.counts) where
  there : There m f d
  there = record { counts_f = a; counts_d = b; pages_f = omega arith; pages_d = omega arith }

  out_kept : get_or m.counts d 0 ≡ 0 → Kept m (gone_out f d m)
  out_kept e = record { bytes = out_keeps_bytes f d m there (free_is_nobodys m d b right e); right = counts_follow f d _ m a b right }

  in_kept : get_or m.counts f 0 ≡ 0 → Kept m (come_in f d m)
  in_kept e = record { bytes = in_keeps_bytes f d m there (free_is_nobodys m f a right e); right = counts_follow f d _ m a b right }

  exchange_kept : Kept m (exchanged f d m)
  exchange_kept = record { bytes = exchange_keeps_bytes f d m there; right = counts_follow f d _ m a b right }

module _ (choose : Choice) (frames : ℕ) (w : Whole) (r : Ready choose frames w) where
  same : Kept w.state w.state
  same = record { bytes = record { page = λ p v. refl; segment = λ s. refl }; right = r.right }

  -- the page of the chosen frame has gone out to a free place
  abbrev chosen : ℕ
  chosen = (choose frames w.hand w.state.used).frame

  abbrev marks : List ℕ
  marks = (choose frames w.hand w.state.used).used

  abbrev out : ℕ → State
  out e = with_used (gone_out chosen (frames + e) w.state) marks

  sent : (e : ℕ) → free_place frames w ≡ Some e → Kept w.state (out e)
  sent e q =
      let free = place_free frames w e q in
      kept_used w.state _ marks (out_kept w.state chosen (frames + e) r.right r.pages (omega (arith, r.chooses, r.within)) free.0 free.1)

  taken_kept : (a b : Option ℕ) → free_place frames w ≡ b → Kept w.state (taken_by choose frames w a b).0.state
  taken_kept (Some f) b q = same
  taken_kept None None q = same
  taken_kept None (Some e) q = sent e q

  brought_kept : (d : ℕ) → frames + d < length w.state.counts → (a b : Option ℕ) → free_frame frames w ≡ a → free_place frames w ≡ b →
      Kept w.state (brought_by choose frames d w a b).0.state
  unfolding relocated
  brought_kept d h (Some f) b p q =
      let free = frame_free frames w f p in in_kept w.state f (frames + d) r.right r.pages (omega (arith, free.0, r.within)) h free.1
  brought_kept d h None None p q =
      kept_used w.state _ marks (exchange_kept w.state chosen (frames + d) r.right r.pages (omega (arith, r.chooses, r.within)) h)
  brought_kept d h None (Some e) p q =
      let free = place_free frames w e q in
      let cs = w.state.counts in
      let in-frames : chosen < length cs = omega (arith, r.chooses, r.within) in
      let counts : length (out e).counts ≡ length cs = length-set _ (frames + e) _ ∙ length-set cs chosen _ in
      let pages : length (out e).pages ≡ length (out e).counts = length-set w.state.pages (frames + e) _ ∙ r.pages ∙ sym counts in
      kept_then w.state (out e) _ (sent e q)
      (in_kept (out e) chosen (frames + d) (sent e q).right pages (omega arith) (omega arith) (swap_first chosen (frames + e) 0 cs in-frames free.0 ∙ free.1))

pub take_keeps_bytes : TakeKeepsBytes
unfolding take_frame
take_keeps_bytes choose frames w r = (taken_kept choose frames w r (free_frame frames w) (free_place frames w) refl).bytes

pub take_keeps_counts : TakeKeepsCounts
unfolding take_frame
take_keeps_counts choose frames w r = (taken_kept choose frames w r (free_frame frames w) (free_place frames w) refl).right

pub bring_keeps_bytes : BringKeepsBytes
unfolding bring_in
bring_keeps_bytes choose frames d w r h = (brought_kept choose frames w r d h (free_frame frames w) (free_place frames w) refl refl).bytes

pub bring_keeps_counts : BringKeepsCounts
unfolding bring_in
bring_keeps_counts choose frames d w r h = (brought_kept choose frames w r d h (free_frame frames w) (free_place frames w) refl refl).right
