-- What processes see of their memory: every process has pages of its own, a fork copies them, and nothing is shared but
-- segments. There are no frames, tables, copies at a store or disk in it. Labels only count what has to be held.
-- Assumes nothing: these are definitions.
use Rattle.std.specs.Prelude.{ℕ, zero, suc, ◌+◌, ◌<◌, Bool, true, false, cond, not, ◌&&◌, ◌||◌, List, [], ◌∷◌, length, replicate, ◌==◌, nat_le, nat_lt, slice_index, slice_index_or, slice_set}

abbrev pub more_than_one : ℕ → Bool
more_than_one n = nat_lt 1 n

-- A page of a process: not there; its own, with a label and its bytes; or a segment that several look at.
-- Pages of one label were one page and have not been stored to since. Label 0 is a page of zeros that nobody has stored to.
pub data Page : Type 0 where
  absent : Page
  own : ℕ → List ℕ → Page
  seen : ℕ → Page

-- a process is there or not
pub record Process : Type 0 where
  pub alive : Bool
  pub pages : List Page

-- bytes of a page, pages of a process, processes, segments, and how many pages frames and disk can hold together
pub record Sizes : Type 0 where
  pub words : ℕ
  pub pages : ℕ
  pub processes : ℕ
  pub segments : ℕ
  pub hold : ℕ

-- Segments with their bytes; one that nobody looks at is free. next is a label that was never used.
pub record World : Type 0 where
  pub processes : List Process
  pub segments : List (List ℕ)
  pub next : ℕ

pub data Call : Type 0 where
  fork : ℕ → Call
  leave : ℕ → Call
  map : ℕ → ℕ → Call
  drop : ℕ → ℕ → Call
  make : ℕ → ℕ → Call
  look : ℕ → ℕ → ℕ → ℕ → Call
  load : ℕ → ℕ → ℕ → Call
  store : ℕ → ℕ → ℕ → ℕ → Call

pub data Answer : Type 0 where
  done : ℕ → Answer
  fault : Answer
  full : Answer

abbrev pub nobody : Process
nobody = record { alive = false; pages = [] }

unfoldable pub process : World → ℕ → Process
process w p = slice_index_or w.processes p nobody

unfoldable pub page : World → ℕ → ℕ → Page
page w p v = cond (process w p).alive (slice_index_or (process w p).pages v absent) absent

-- whether a page has the label l, and whether it is segment s: 1 or 0
unfoldable pub is_own : ℕ → Page → ℕ
is_own l absent = 0
is_own l (own m ws) = cond (l == m) 1 0
is_own l (seen s) = 0

unfoldable pub is_seen : ℕ → Page → ℕ
is_seen s absent = 0
is_seen s (own m ws) = 0
is_seen s (seen t) = cond (s == t) 1 0

unfoldable pub over_pages : (Page → ℕ) → List Page → ℕ
over_pages f [] = 0
over_pages f (x ∷ xs) = f x + over_pages f xs

unfoldable pub over_all : (Page → ℕ) → List Process → ℕ
over_all f [] = 0
over_all f (q ∷ qs) = cond q.alive (over_pages f q.pages) 0 + over_all f qs

-- how many pages in all have the label l, and how many look at segment s
unfoldable pub users : World → ℕ → ℕ
users w l = over_all (is_own l) w.processes

unfoldable pub lookers : World → ℕ → ℕ
lookers w s = over_all (is_seen s) w.processes

-- how many pages have to be held: each label in use but 0, once, and each segment that somebody looks at
unfoldable pub labels_from : World → ℕ → ℕ
labels_from w zero = 0
labels_from w (suc n) = cond (n == 0) 0 (cond (users w n == 0) 0 1) + labels_from w n

unfoldable pub segments_from : World → ℕ → ℕ
segments_from w zero = 0
segments_from w (suc n) = cond (lookers w n == 0) 0 1 + segments_from w n

unfoldable pub held : World → ℕ
held w = labels_from w w.next + segments_from w (length w.segments)

unfoldable pub with_page : World → ℕ → ℕ → Page → World
with_page w p v x =
    record {
      processes = slice_set w.processes p (record { alive = (process w p).alive; pages = slice_set (process w p).pages v x });
      segments = w.segments;
      next = w.next;
    }

unfoldable pub with_process : World → ℕ → Process → World
with_process w p q = record { processes = slice_set w.processes p q; segments = w.segments; next = w.next }

-- the lowest process that is not there; the number of processes if all are
unfoldable pub first_free : List Process → ℕ
first_free [] = 0
first_free (q ∷ qs) = cond q.alive (suc (first_free qs)) 0

-- the lowest segment from i on that nobody looks at, counted from i; the number of segments if there is none
unfoldable pub first_segment : World → ℕ → List (List ℕ) → ℕ
first_segment w i [] = 0
first_segment w i (s ∷ ss) = cond (lookers w i == 0) 0 (suc (first_segment w (suc i) ss))

unfoldable pub inside : Sizes → World → ℕ → ℕ → Bool
inside z w p v = (process w p).alive && nat_lt v z.pages

unfoldable pub there : Page → Bool
there absent = false
there (own l ws) = true
there (seen s) = true

-- A store to a page p v that is there. A segment changes for all who look at it. An own page that alone has its label just
-- changes; else it gets a label of its own first, which has to be held anew.
unfoldable pub stored : Sizes → World → ℕ → ℕ → ℕ → ℕ → Page → World × Answer
stored z w p v o x absent = (w, fault)
stored z w p v o x (seen s) =
    (record { processes = w.processes; segments = slice_set w.segments s (slice_set (slice_index_or w.segments s []) o x); next = w.next }, done 0)
stored z w p v o x (own l ws) =
    cond (l == 0 || more_than_one (users w l))
    (cond (nat_le z.hold (held w)) (w, full)
    (record { processes = (with_page w p v (own w.next (slice_set ws o x))).processes; segments = w.segments; next = suc w.next }, done 0))
    (with_page w p v (own l (slice_set ws o x)), done 0)

unfoldable pub loaded : World → ℕ → Page → Answer
loaded w o absent = fault
loaded w o (own l ws) = done (slice_index ws o)
loaded w o (seen s) = done (slice_index (slice_index_or w.segments s []) o)

-- page v of p becomes the segment that the given page is
unfoldable pub looked : World → ℕ → ℕ → Page → World × Answer
looked w p v absent = (w, fault)
looked w p v (own l ws) = (w, fault)
looked w p v (seen s) = (with_page w p v (seen s), done s)

-- one call: the world after it, and its answer
unfoldable pub call : Sizes → World → Call → World × Answer
call z w (fork p) =
    cond (not (process w p).alive) (w, fault)
    (cond (nat_le z.processes (first_free w.processes)) (w, full)
    (with_process w (first_free w.processes) (process w p), done (first_free w.processes)))
call z w (leave p) = cond (process w p).alive (with_process w p (record { alive = false; pages = replicate z.pages absent }), done 0) (w, fault)
call z w (map p v) =
    cond (inside z w p v && not (there (page w p v))) (with_page w p v (own 0 (replicate z.words 0)), done 0) (w, fault)
call z w (drop p v) = cond (inside z w p v && there (page w p v)) (with_page w p v absent, done 0) (w, fault)
call z w (make p v) =
    cond (inside z w p v && not (there (page w p v)))
    (cond (nat_le z.segments (first_segment w 0 w.segments) || nat_le z.hold (held w)) (w, full) (
      record {
        processes = (with_page w p v (seen (first_segment w 0 w.segments))).processes;
        segments = slice_set w.segments (first_segment w 0 w.segments) (replicate z.words 0);
        next = w.next;
      },
      done (first_segment w 0 w.segments),
    ))
    (w, fault)
call z w (look p v q u) =
    cond (inside z w p v && (not (there (page w p v)) && inside z w q u)) (looked w p v (page w q u)) (w, fault)
call z w (load p v o) = (w, cond (inside z w p v && nat_lt o z.words) (loaded w o (page w p v)) fault)
call z w (store p v o x) = cond (inside z w p v && nat_lt o z.words) (stored z w p v o x (page w p v)) (w, fault)

unfoldable pub answers : Sizes → World → List Call → List Answer
answers z w [] = []
answers z w (c ∷ cs) = (call z w c).1 ∷ answers z (call z w c).0 cs

-- the world after a row of calls
unfoldable pub after : Sizes → World → List Call → World
after z w [] = w
after z w (c ∷ cs) = after z (call z w c).0 cs

-- at the start there is process 0, with no page, and n others that are not there
unfoldable pub others : ℕ → ℕ → List Process
others pages zero = []
others pages (suc n) = record { alive = false; pages = replicate pages absent } ∷ others pages n

unfoldable pub begin : Sizes → ℕ → World
begin z n =
    record {
      processes = record { alive = true; pages = replicate z.pages absent } ∷ others z.pages n;
      segments = replicate z.segments [];
      next = 1;
    }

-- every store in a row of calls stores a byte
unfoldable pub Bytes : List Call → Type 0
Bytes [] = Unit {0}
Bytes (store p v o x ∷ cs) = (x < 256) × Bytes cs
Bytes (fork p ∷ cs) = Bytes cs
Bytes (leave p ∷ cs) = Bytes cs
Bytes (map p v ∷ cs) = Bytes cs
Bytes (drop p v ∷ cs) = Bytes cs
Bytes (make p v ∷ cs) = Bytes cs
Bytes (look p v q u ∷ cs) = Bytes cs
Bytes (load p v o ∷ cs) = Bytes cs
