-- Seven rows of calls with their answers: two processes of four pages, two segments. One table.
use Rattle.std.specs.Prelude.{◌≡◌, ℕ, List, [], ◌∷◌}
use Rattle.fold.specs.Fold.{Sizes, Call, Answer, answers, begin, fork, leave, map, drop, make, look, load, store, done, fault, full}

-- how much can be held, and each call with its answer
pub record Row : Type 0 where
  pub hold : ℕ
  pub calls : List (Call × Answer)

abbrev pub rows : List Row
rows =
    -- the child's store has no room, and the parent's page stays
    record {
      hold = 1;
      calls =
          (map 0 0, done 0) ∷ (store 0 0 5 7, done 0) ∷ (fork 0, done 1) ∷ (load 1 0 5, done 7) ∷ (store 1 0 5 9, full) ∷ (load 0 0 5, done 7) ∷ [];
    }
    -- with room for one more page, child and parent go their own ways
    ∷ record {
      hold = 2;
      calls =
          (map 0 0, done 0) ∷ (store 0 0 5 7, done 0) ∷ (fork 0, done 1) ∷ (store 1 0 5 9, done 0) ∷ (load 0 0 5, done 7) ∷ (load 1 0 5, done 9)
          ∷ (store 0 0 5 8, done 0) ∷ (load 1 0 5, done 9) ∷ [];
    }
    -- the parent leaves, so the child alone has the label and needs no room
    ∷ record {
      hold = 1;
      calls =
          (map 0 0, done 0) ∷ (store 0 0 0 1, done 0) ∷ (fork 0, done 1) ∷ (leave 0, done 0) ∷ (store 1 0 0 2, done 0) ∷ (load 1 0 0, done 2) ∷ (load 0 0 0, fault) ∷ [];
    }
    -- no process is free any more; a page of zeros is not held
    ∷ record { hold = 1; calls = (map 0 0, done 0) ∷ (fork 0, done 1) ∷ (fork 0, full) ∷ (load 1 0 9, done 0) ∷ [] }
    -- a segment is not copied at a fork, and is free and zeros again once nobody looks at it
    ∷ record {
      hold = 1;
      calls =
          (make 0 0, done 0) ∷ (fork 0, done 1) ∷ (store 1 0 3 4, done 0) ∷ (load 0 0 3, done 4) ∷ (make 0 1, full) ∷ (drop 0 0, done 0) ∷ (drop 1 0, done 0)
          ∷ (make 0 1, done 0) ∷ (load 0 1 3, done 0) ∷ [];
    }
    -- a page that is dropped makes room
    ∷ record {
      hold = 1;
      calls =
          (map 0 0, done 0) ∷ (store 0 0 0 1, done 0) ∷ (map 0 1, done 0) ∷ (store 0 1 0 1, full) ∷ (drop 0 0, done 0) ∷ (store 0 1 0 1, done 0) ∷ [];
    }
    -- two pages look at one segment; process 1 is not there before the fork, and keeps what it looks at
    ∷ record {
      hold = 2;
      calls =
          (make 0 0, done 0) ∷ (look 0 1 0 0, done 0) ∷ (store 0 1 0 3, done 0) ∷ (load 0 0 0, done 3) ∷ (look 1 0 0 0, fault) ∷ (fork 0, done 1)
          ∷ (drop 0 0, done 0) ∷ (drop 0 1, done 0) ∷ (load 1 1 0, done 3) ∷ [];
    }
    ∷ []

abbrev pub row_sizes : ℕ → Sizes
row_sizes hold = record { words = 256; pages = 4; processes = 2; segments = 2; hold = hold }

abbrev pub asked : List (Call × Answer) → List Call
asked [] = []
asked (c ∷ cs) = c.0 ∷ asked cs

abbrev pub expected : List (Call × Answer) → List Answer
expected [] = []
expected (c ∷ cs) = c.1 ∷ expected cs

abbrev pub all_answers : List Row → List (List Answer)
all_answers [] = []
all_answers (r ∷ rs) = answers (row_sizes r.hold) (begin (row_sizes r.hold) 1) (asked r.calls) ∷ all_answers rs

abbrev pub all_expected : List Row → List (List Answer)
all_expected [] = []
all_expected (r ∷ rs) = expected r.calls ∷ all_expected rs

-- the machine answers every row of the table as the table says
abbrev pub RowsStand : Type 0
RowsStand = all_answers rows ≡ all_expected rows
