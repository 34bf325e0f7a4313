-- Nothing is lost, and nothing is left over. Assumes nothing.
use Rattle.std.specs.Prelude.{◌≡◌, ℕ, ◌<◌, false, ◌≢◌, List, [], slice_index, slice_index_or}
use Rattle.fold.specs.Fold.{Sizes, World, page, own, seen}
use Rattle.frames.specs.Cut.{row}
use Rattle.tables.specs.State.{lies, walk}
use Rattle.disk.specs.Follows.{NobodyAt}
use Rattle.calls.specs.Machine.{Machine, living}
use Rattle.promise.specs.Reached.{Everywhere, state}

-- page v of p lies at location x, one of the frames and places, with these bytes: a walk comes there
pub record LiesAt (z : Sizes) (m : Machine) (p v : ℕ) (bytes : List ℕ) (x : ℕ) : Type 0 where
  pub there : x < z.hold
  pub walks : (walk (state m) p v).spot ≡ lies x
  pub holds : row (state m).pages x ≡ bytes

pub record Kept (z : Sizes) (m : Machine) (w : World) : Type 0 where
  -- an own page that was stored to lies at one location with its bytes, and so does every page of its label, at the same location
  pub owned : (p v l : ℕ) (ws : List ℕ) → l ≢ 0 → page w p v ≡ own l ws →
      (x : ℕ) × LiesAt z m p v ws x × ((q u : ℕ) (us : List ℕ) → page w q u ≡ own l us → LiesAt z m q u us x)
  -- a segment lies at one location with its bytes, the same for all who look at it
  pub shared : (p v s : ℕ) → page w p v ≡ seen s →
      (x : ℕ) × LiesAt z m p v (slice_index_or w.segments s []) x × ((q u : ℕ) → page w q u ≡ seen s → LiesAt z m q u (slice_index_or w.segments s []) x)
  -- two pages that lie at one location are the same page
  pub one_page : (p v q u x : ℕ) → (walk (state m) p v).spot ≡ lies x → (walk (state m) q u).spot ≡ lies x → page w p v ≡ page w q u
  -- where a count is 0 nobody's page and no segment lies, and where it is not 0 somebody's page does
  pub free : (x : ℕ) → slice_index (state m).counts x ≡ 0 → NobodyAt (state m) x
  pub used : (x : ℕ) → x < z.hold → slice_index (state m).counts x ≢ 0 → (p : ℕ) × (v : ℕ) × ((walk (state m) p v).spot ≡ lies x)
  -- when all processes have left, every location is free
  pub empty : ((p : ℕ) → living m p ≡ false) → (x : ℕ) → slice_index (state m).counts x ≡ 0

abbrev pub NothingLost : Type 0
NothingLost = Everywhere (λ z frames m w. Kept z m w)
