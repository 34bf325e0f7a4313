-- A load: both machines answer the same, by a slot or by a walk.
use Rattle.std.proofs.Common.{◌≡◌, ℕ, Bool, true, false, cond, ◌&&◌, ltb, get_or, Some, None, Option, sym, refl, ap, ◌∙◌, subst}
use Rattle.fold.specs.Fold.{Answer, Sizes, World, call, done, fault, inside, load, loaded, page}
use Rattle.tables.specs.State.{Spot, blank, lies, nowhere, walk}
use Rattle.lookaside.specs.declared.slots.Slot.{Slot}
use Rattle.disk.specs.Whole.{Choice}
use Rattle.copies.specs.Own.{reached}
use Rattle.calls.specs.Machine.{Machine, living, with_whole}
use Rattle.calls.specs.Calls.{calls_by, load_by, load_walked, slot_found}
use Rattle.simulation.specs.Run.{Usable}
use Rattle.simulation.proofs.Hits.{slot_walks, walk_blank, walk_lies, walk_nowhere}
use Rattle.simulation.proofs.Marks.{remembered_sim, remembered_true, used_sim}
use Rattle.simulation.proofs.Reaching.{page_reached, reached_bytes, reached_walk}
use Rattle.simulation.proofs.Sim.{Sim, SlotsTrue, state}
use Rattle.simulation.proofs.Step.{Together}

module _ (z : Sizes) (lab : ℕ → ℕ) (m : Machine) (w : World) (sim : Sim z lab m w) (all : SlotsTrue m) (choose : Choice) (usable : Usable choose m.frames)
    (p v o : ℕ) where
  -- a page that lies at x is reached in a frame, and remembered
  load_lies : (x : ℕ) → (walk (state m) p v).spot ≡ lies x → Together z (load_walked choose m p v o (walk (state m) p v).free (lies x)) (w, loaded w o (page w p v))
  load_lies x e =
      let seen = walk_lies z lab m w sim p v x e in
      let r = reached choose m.frames m.whole x in
      let k = page_reached z lab m w sim choose usable x seen.0 in
      let now = with_whole m r.0 in
      record {
        lab = k.lab';
        sim = remembered_sim z k.lab' now w k.moved.sim p v r.1.frame (walk (state m) p v).free;
        slots = remembered_true now p v r.1.frame (walk (state m) p v).free (k.slots all) (reached_walk z lab m w sim x r k p v e) k.within;
        same = ap (λ bs. done (get_or bs o 0)) (reached_bytes z lab m w sim x r k seen.0 seen.1) ∙ sym (seen.2 o);
      }

  load_walks : (s : Spot) → (walk (state m) p v).spot ≡ s → Together z (load_walked choose m p v o (walk (state m) p v).free s) (w, loaded w o (page w p v))
  unfolding loaded
  load_walks nowhere e = record { lab = lab; sim = sim; slots = all; same = sym (ap (loaded w o) (walk_nowhere z lab m w sim p v e)) }
  load_walks blank e = record { lab = lab; sim = sim; slots = all; same = sym (walk_blank z lab m w sim p v o e) }
  load_walks (lies x) e = load_lies x e

  load_finds : (s : Option Slot) → slot_found m p v ≡ s → Together z (load_by choose m p v o s) (w, loaded w o (page w p v))
  load_finds None e = load_walks (walk (state m) p v).spot refl
  load_finds (Some s) e =
      let is = slot_walks m p v s e all in
      record { lab = lab; sim = used_sim z lab m w sim s.frame; slots = all; same = sym ((walk_lies z lab m w sim p v s.frame is.0).2 o) }

  -- a page that may not be asked for is a fault on both sides
  guarded : (may : Bool) (r : Machine × Answer) (x : Answer) → Together z r (w, x) → Together z (cond may r (m, fault)) (w, cond may x fault)
  guarded true r x t = t
  guarded false r x t = record { lab = lab; sim = sim; slots = all; same = refl }

  pub load_together : Together z (calls_by choose z m (load p v o)) (call z w (load p v o))
  unfolding calls_by call inside
  load_together =
      let may : Bool → Bool = λ alive. (alive && ltb v z.pages) && ltb o z.words in
      subst (λ b. Together z (calls_by choose z m (load p v o)) (w, cond (may b) (loaded w o (page w p v)) fault)) (sym (sim.alive p))
      (guarded (may (living m p)) (load_by choose m p v o (slot_found m p v)) (loaded w o (page w p v)) (load_finds (slot_found m p v) refl))
