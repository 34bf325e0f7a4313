-- One changed list changes the view in one place.
use Rattle.std.proofs.Common.{◌++◌, ap, ◌∙◌}
use Rattle.frames.specs.Cut.{cut}
use Rattle.frames.proofs.Cut.{cut_length}
use Rattle.tables.specs.State.{view, with_counts, with_pages, with_rows, ViewLaws}
use Rattle.tables.proofs.Locations.{put_frame, put_place}

pub view_laws : ViewLaws
unfolding view
view_laws z pages processes m fit =
    let s = view z pages processes m in
    let fs = cut 256 z.frames m.frames in
    let ds = cut 256 z.places m.disk in
    record {
      frame_count = λ f c h. ap (with_counts s) (put_frame m.frame_counts m.place_counts z.frames fit.frame_counts f c h);
      place_count = λ d c. ap (with_counts s) (put_place m.frame_counts m.place_counts z.frames fit.frame_counts d c);
      frame = λ f bytes ws h e. ap (with_pages s) (ap (λ xs. xs ++ ds) (e z.frames) ∙ put_frame fs ds z.frames (cut_length 256 z.frames m.frames) f ws h);
      place = λ d bytes ws e. ap (with_pages s) (ap (λ xs. fs ++ xs) (e z.places) ∙ put_place fs ds z.frames (cut_length 256 z.frames m.frames) d ws);
      entry = λ p v numbers c e. ap (with_rows s) (e processes);
    }
