-- The hand: it goes round over the frames from where it rests and takes the first that has no used mark. Assumes nothing.
use Rattle.std.specs.Prelude.{◌≡◌, ℕ, zero, suc, ◌+◌, ◌-◌, ◌<◌, ◌≤◌, cond, ◌≢◌, List, length, ◌==◌, nat_lt, slice_index, slice_set}

-- the frame that was taken, where the hand rests now, how many frames it looked at, and the marks that are left
pub record Turned : Type 0 where
  pub frame : ℕ
  pub rest : ℕ
  pub looks : ℕ
  pub used : List ℕ

-- the frame after f, of n
abbrev pub next_frame : ℕ → ℕ → ℕ
next_frame n f = cond (nat_lt (f + 1) n) (f + 1) 0

-- the hand takes frame f, having passed k frames before
abbrev pub taken : ℕ → ℕ → ℕ → List ℕ → Turned
taken n f k used = record { frame = f; rest = next_frame n f; looks = k + 1; used = used }

-- From frame f on, having passed k frames: a frame with its mark set is passed and its mark cleared. At most `more` frames are passed
-- from here.
unfoldable pub turn_from : ℕ → ℕ → ℕ → ℕ → List ℕ → Turned
turn_from n zero f k used = taken n f k used
turn_from n (suc more) f k used =
    let r = turn_from n more (next_frame n f) (k + 1) (slice_set used f 0) in cond (slice_index used f == 0) (taken n f k used) r

-- a hand that rests nowhere among the n frames starts at frame 0
abbrev pub start : ℕ → ℕ → ℕ
start n at = cond (nat_lt at n) at 0

-- After a whole round no mark is left, so no more than n frames are passed.
abbrev pub turn : ℕ → ℕ → List ℕ → Turned
turn n at used = turn_from n n (start n at) 0 used

-- the frame that comes j frames after f
unfoldable pub frame_after : ℕ → ℕ → ℕ → ℕ
frame_after n f zero = f
frame_after n f (suc j) = frame_after n (next_frame n f) j

-- What a turn r of the hand over n frames from frame f does. It passes r.looks - 1 frames and takes the next.
pub record GoesRound (n f : ℕ) (used : List ℕ) (r : Turned) : Type 0 where
  -- it looks at one frame or more and at most once at each frame and once more at the first, so it never goes round twice
  pub some : 1 ≤ r.looks
  pub few : r.looks ≤ n + 1
  pub taken : r.frame ≡ frame_after n f (r.looks - 1)
  pub within : r.frame < n
  -- the frame that it takes had no mark when it was looked at: a turn does not touch that mark
  pub unmarked : slice_index r.used r.frame ≡ 0
  -- every frame that it passed had one, and has none now; every other mark is as it was
  pub passed : (j : ℕ) → j < r.looks - 1 → slice_index used (frame_after n f j) ≢ 0
  pub cleared : (j : ℕ) → j < r.looks - 1 → slice_index r.used (frame_after n f j) ≡ 0
  pub kept : (g : ℕ) → ((j : ℕ) → j < r.looks - 1 → frame_after n f j ≢ g) → slice_index r.used g ≡ slice_index used g

abbrev pub HandGoesRound : Type 0
HandGoesRound = (at : ℕ) (used : List ℕ) → 0 < length used → GoesRound (length used) (start (length used) at) used (turn (length used) at used)
