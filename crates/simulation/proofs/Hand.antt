-- Which frame is given: a free one, else the chosen one, and one is given where not all that can be held is held.
use Rattle.std.proofs.Common.{◌≡◌, ℕ, ◌<◌, Some, None, Option, refl, ap, ◌∙◌, arith}
use Rattle.fold.specs.Fold.{Sizes, World, held}
use Rattle.disk.specs.declared.registers.Taken.{Taken}
use Rattle.disk.specs.Whole.{Choice, Whole, bring_in, brought_by, free_frame, free_place, take_frame, taken_by}
use Rattle.disk.proofs.Taking.{none_only_if_full}
use Rattle.calls.specs.Machine.{Machine}
use Rattle.simulation.specs.Shown.{as_taken}
use Rattle.simulation.proofs.Room.{used_up_full}
use Rattle.simulation.proofs.Sim.{Sim, state}

module _ {z : Sizes} {lab : ℕ → ℕ} {m : Machine} {w : World} (sim : Sim z lab m w) (choose : Choice) where
  pub frame_given : held w < z.hold → (t : Taken) × ((take_frame choose m.frames m.whole).1 ≡ Some t)
  frame_given room = by_taken (take_frame choose m.frames m.whole).1 refl
    where
      by_taken : (r : Option Taken) → (take_frame choose m.frames m.whole).1 ≡ r → (t : Taken) × ((take_frame choose m.frames m.whole).1 ≡ Some t)
      by_taken (Some t) e = (t, e)
      by_taken None e =
          let n = none_only_if_full choose m.frames m.whole e in
          absurd (omega (arith, used_up_full sim (record { frame = n.frame; place = n.place })))

  -- no frame is free: the chosen one is taken, once its page is out, since a place is free
  pub chosen_taken : free_frame m.frames m.whole ≡ None → held w < z.hold →
      (take_frame choose m.frames m.whole).1 ≡ Some (as_taken (choose m.frames m.whole.hand (state m).used))
  unfolding take_frame
  chosen_taken e room =
      ap (λ a. (taken_by choose m.frames m.whole a (free_place m.frames m.whole)).1) e ∙ by_place (free_place m.frames m.whole) refl
    where
      by_place : (b : Option ℕ) → free_place m.frames m.whole ≡ b → (taken_by choose m.frames m.whole None b).1 ≡ Some (as_taken (choose m.frames m.whole.hand (state m).used))
      by_place (Some d) k = refl
      by_place None k = absurd (omega (arith, used_up_full sim (record { frame = e; place = k })))

-- a page that comes in comes to the chosen frame
pub chosen_brought : (choose : Choice) (frames d : ℕ) (w : Whole) → free_frame frames w ≡ None → (bring_in choose frames d w).1 ≡ as_taken (choose frames w.hand w.state.used)
unfolding bring_in
chosen_brought choose frames d w e = ap (λ a. (brought_by choose frames d w a (free_place frames w)).1) e ∙ by_place (free_place frames w)
  where
    by_place : (b : Option ℕ) → (brought_by choose frames d w None b).1 ≡ as_taken (choose frames w.hand w.state.used)
    by_place None = refl
    by_place (Some p) = refl

-- a frame is free: it is taken, and nothing moves
pub free_taken : (choose : Choice) (frames f : ℕ) (w : Whole) → free_frame frames w ≡ Some f → take_frame choose frames w ≡ (w, Some (record { frame = f; looks = 0 }))
unfolding take_frame
free_taken choose frames f w e = ap (λ a. taken_by choose frames w a (free_place frames w)) e

-- and a page that comes in comes there
pub free_brought : (choose : Choice) (frames f d : ℕ) (w : Whole) → free_frame frames w ≡ Some f → (bring_in choose frames d w).1 ≡ record { frame = f; looks = 0 }
unfolding bring_in
free_brought choose frames f d w e = ap (λ a. (brought_by choose frames d w a (free_place frames w)).1) e
