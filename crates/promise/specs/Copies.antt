-- When bytes are copied: by a store exactly when it must, by a fork never. And when there is no room for a copy. Assumes nothing.
use Rattle.std.specs.Prelude.{◌≡◌, ℕ, ◌+◌, ◌<◌, ◌≤◌, true, cond, List, Some, ◌≢◌}
use Rattle.fold.specs.Fold.{Sizes, World, page, process, absent, own, held, first_segment, fork, load, make, store, done, full}
use Rattle.frames.specs.Turn.{turn}
use Rattle.disk.specs.declared.registers.Taken.{Taken}
use Rattle.disk.specs.Whole.{take_frame}
use Rattle.copies.specs.Laws.{copies_first}
use Rattle.calls.specs.Machine.{Machine}
use Rattle.calls.specs.Calls.{calls}
use Rattle.simulation.specs.Shown.{SameMemory, in_use, must}
use Rattle.promise.specs.Reached.{Everywhere, Exactly, state}

-- Byte x is stored at o to page v of p, an own page of label l.
pub record StoreCopies (z : Sizes) (m : Machine) (w : World) (p v o x l : ℕ) : Type 0 where
  -- it copies exactly if the page is one of zeros that nobody has stored to, or others have it too
  pub copies : copies_first m.whole p v ≡ must w l
  -- then one location more is in use, and else as many as before
  pub grows : in_use (state (calls z m (store p v o x)).0).counts ≡ in_use (state m).counts + cond (must w l) 1 0
  -- and no other page changes: every load of it is answered as before
  pub others : (q u i : ℕ) → (q ≡ p → u ≢ v) → (calls z (calls z m (store p v o x)).0 (load q u i)).1 ≡ (calls z m (load q u i)).1

-- of every store to an own page that is done
abbrev pub StoresCopy : Type 0
StoresCopy =
    Everywhere (λ z frames m w. (p v o x l k : ℕ) (ws : List ℕ) → page w p v ≡ own l ws → (calls z m (store p v o x)).1 ≡ done k → StoreCopies z m w p v o x l)

-- A fork copies no byte, of any manager, even one that no calls reach.
abbrev pub ForkCopiesNothing : Type 0
ForkCopiesNothing = (z : Sizes) (m : Machine) (p : ℕ) → SameMemory m (calls z m (fork p)).0

-- and yet the child's loads are then answered as its parent's were
abbrev pub ForkChild : Type 0
ForkChild =
    Everywhere (λ z frames m w. (p c v o : ℕ) → (calls z m (fork p)).1 ≡ done c → (calls z (calls z m (fork p)).0 (load c v o)).1 ≡ (calls z m (load p v o)).1)

-- Where there is room: held w counts the pages that have to be held, each label but 0 once, and each segment that somebody looks at.
pub record Room (z : Sizes) (frames : ℕ) (m : Machine) (w : World) : Type 0 where
  -- a frame is given where not all that can be held is held
  pub given : held w < z.hold → (t : Taken) × ((take_frame turn frames m.whole).1 ≡ Some t)
  -- a store to an own page that has to copy is full exactly where all is held
  pub storing : (p v o x l : ℕ) (ws : List ℕ) → page w p v ≡ own l ws → o < 256 → must w l ≡ true → Exactly ((calls z m (store p v o x)).1 ≡ full) (z.hold ≤ held w)
  -- and so is a make where no page is, if a segment is free
  pub making : (p v : ℕ) → (process w p).alive ≡ true → v < z.pages → page w p v ≡ absent → first_segment w 0 w.segments < z.segments →
      Exactly ((calls z m (make p v)).1 ≡ full) (z.hold ≤ held w)

abbrev pub RoomExact : Type 0
RoomExact = Everywhere Room
