-- A byte is stored to a segment: it changes for all who look at it, and for nobody else.
use Rattle.std.proofs.Common.{◌≡◌, ℕ, ◌<◌, ◌≢◌, List, [], length, get_or, set, Option, sym, refl, ap, ◌∙◌, subst, inl, inr, arith}
use Rattle.std.proofs.lemmas.List.{get_or-set_other, get_or-set_same, length-set}
use Rattle.std.proofs.lemmas.Bool.{cases_eq}
use Rattle.fold.specs.Fold.{Process, Sizes, World}
use Rattle.fold.proofs.Pages.{same_pages, same_process}
use Rattle.fold.proofs.Ways.{segment as bytes_of, with_segment}
use Rattle.frames.specs.Cut.{row, stored}
use Rattle.tables.specs.Cells.{none, at}
use Rattle.tables.specs.State.{with_pages}
use Rattle.lookaside.specs.declared.slots.Slot.{Slot}
use Rattle.calls.specs.Machine.{Machine, with_whole}
use Rattle.calls.specs.Calls.{holds}
use Rattle.simulation.proofs.Entries.{see_same}
use Rattle.simulation.proofs.Room.{segments_apart}
use Rattle.simulation.proofs.Sim.{Lying, Sim, state}
use Rattle.simulation.proofs.Users.{at_same, lies_alone, no_segment_there, segment_names}

module _ (z : Sizes) (lab : ℕ → ℕ) (m : Machine) (w : World) (sim : Sim z lab m w) (s f o b : ℕ) (here : s < z.segments)
    (is : (get_or (state m).segments s none).holds ≡ at f) (hand reads writes : ℕ) (slots : List (Option Slot)) where
  abbrev then : Machine
  then =
      with_whole m (record { state = with_pages (state m) (stored (state m).pages f o b); hand = hand; reads = reads; writes = writes; slots = slots })

  abbrev world : World
  world = with_segment w s (set (bytes_of w s) o b)

  there : f < z.hold
  there = (lies_alone sim s f here is).0

  same_bytes : row (state m).pages f ≡ bytes_of w s
  same_bytes =
      let l = sim.lying s here (lies_alone sim s f here is).2 in ap (row (state m).pages) (at_same _ _ (sym is ∙ l.at_it)) ∙ l.bytes

  -- the segment lies where it lay, with the byte; no other lies there
  lying_then : (t : ℕ) → t < z.segments → Lying z m w t → Lying z then world t
  lying_then t h k =
      elim (cases_eq t s) [
        | inl same ↦
            subst (Lying z then world) (sym same) (record {
              where_it_is = f;
              at_it = is;
              within = there;
              alone = (lies_alone sim s f here is).1;
              bytes =
                  get_or-set_same (state m).pages f _ [] (omega (arith, there, sim.shape.pages)) ∙ ap (λ (bs : List ℕ). set bs o b) same_bytes
                  ∙ sym (get_or-set_same w.segments s _ [] (omega (arith, sim.shape.segments)));
            })
        | inr other ↦
            let x = k.where_it_is in
            let elsewhere : x ≢ f = λ e. other (segments_apart sim t s f h here (k.at_it ∙ ap at e) is) in
            record {
              where_it_is = x;
              at_it = k.at_it;
              within = k.within;
              alone = k.alone;
              bytes = get_or-set_other (state m).pages f x _ [] elsewhere ∙ k.bytes ∙ sym (get_or-set_other w.segments s t _ [] other);
            }
      ]

  -- no entry names f: the segment has it alone
  unnamed : (p v x : ℕ) → holds m p v ≡ at x → x ≢ f
  unnamed p v x e same = omega (arith, no_segment_there sim p v f (e ∙ ap at same), segment_names sim s f here is)

  pub segment_sim : Sim z lab then world
  segment_sim =
      let k = sim.shape in
      record {
        shape =
            record {
              words = k.words;
              some = k.some;
              within = k.within;
              few_processes = k.few_processes;
              few_pages = k.few_pages;
              few_segments = k.few_segments;
              processes = k.processes;
              wide = λ p h. ap (λ (a : Process). length a.pages) (same_process world w refl p) ∙ k.wide p h;
              segments = length-set w.segments s _ ∙ k.segments;
              alive = k.alive;
              rows = k.rows;
              columns = k.columns;
              table = k.table;
              lookers = k.lookers;
              counts = k.counts;
              pages = length-set (state m).pages f _ ∙ k.pages;
              used = k.used;
            };
        fresh = sim.fresh;
        alive = λ p. ap (λ (a : Process). a.alive) (same_process world w refl p) ∙ sim.alive p;
        pages = λ p v. same_pages world w refl p v ∙ sim.pages p v ∙ see_same lab lab (state m).pages (state then).pages (holds m p v) (λ x e. (refl, get_or-set_other (state m).pages f x _ [] (unnamed p v x e)));
        labels = sim.labels;
        apart = sim.apart;
        looks = sim.looks;
        counts = sim.counts;
        lookers = sim.lookers;
        lying = λ t h l. lying_then t h (sim.lying t h l);
        idle = sim.idle;
      }
