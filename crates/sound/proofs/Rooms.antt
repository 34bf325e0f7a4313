-- Memory that is not refused is long enough, and the part of it that the machine has is exactly as long as the sizes say.
use Rattle.std.proofs.Common.{◌≡◌, Bool, true, false, cond, is_some, Some, None, Option, refl}
use Rattle.std.proofs.lemmas.Bool.{and_parts, leb-true, true≢false}
use Rattle.std.proofs.lemmas.List.{length-take-le}
use Rattle.requests.specs.Ranges.{ranged, sizes_refusal}
use Rattle.requests.specs.Refusals.{either_refusal}
use Rattle.requests.specs.declared.answer.Part.TheVariants as part
use Rattle.requests.specs.declared.answer.Refusal.{Refusal}
use Rattle.requests.specs.declared.answer.Refusal.TheVariants.{Lent as TooShort}
use Rattle.requests.specs.declared.sizes.Sizes.{Sizes}
use Rattle.requests.proofs.Ranging.{in_range}
use Rattle.tables.specs.State.{Lent}
use Rattle.calls.specs.Entry.{ExactLent, Roomy, cut_lent, entry_refusal, lent_refusal, tables_fit}

none_some : (o : Option Refusal) → is_some o ≡ false → o ≡ None
none_some None e = refl
none_some (Some r) e = absurd (true≢false e)

neither : (a b : Option Refusal) → is_some (either_refusal a b) ≡ false → (is_some a ≡ false) × (is_some b ≡ false)
neither None b e = (refl, e)
neither (Some r) b e = absurd (true≢false e)

-- a test whose other way is a refusal was passed
passed : (b : Bool) (o : Option Refusal) (r : Refusal) → is_some (cond b o (Some r)) ≡ false → (b ≡ true) × (is_some o ≡ false)
passed true o r e = (refl, e)
passed false o r e = absurd (true≢false e)

pub roomy : (z : Sizes) (m : Lent) → is_some (entry_refusal z m) ≡ false → Roomy z m
roomy z m e =
    let both = neither (sizes_refusal z) (lent_refusal z m) e in
    let frames = passed _ _ (TooShort part.Frames) both.1 in
    let disk = passed _ _ (TooShort part.Disk) frames.1 in
    let tables = passed (tables_fit z m) None (TooShort part.Tables) disk.1 in
    let t = and_parts _ _ tables.0 in
    let s = and_parts _ _ t.1 in
    let l = and_parts _ _ s.1 in
    let f = and_parts _ _ l.1 in
    let u = and_parts _ _ f.1 in
    record {
      range = in_range (ranged z) (none_some (sizes_refusal z) both.0);
      table = leb-true _ _ t.0;
      segments = leb-true _ _ s.0;
      lookers = leb-true _ _ l.0;
      frame_counts = leb-true _ _ f.0;
      used = leb-true _ _ u.0;
      place_counts = leb-true _ _ u.1;
      frames = leb-true _ _ frames.0;
      disk = leb-true _ _ disk.0;
    }

pub exact : (z : Sizes) (m : Lent) → Roomy z m → ExactLent z (cut_lent z m)
exact z m r =
    record {
      table = length-take-le _ _ r.table;
      segments = length-take-le _ _ r.segments;
      lookers = length-take-le _ _ r.lookers;
      frame_counts = length-take-le _ _ r.frame_counts;
      used = length-take-le _ _ r.used;
      place_counts = length-take-le _ _ r.place_counts;
      frames = length-take-le _ _ r.frames;
      disk = length-take-le _ _ r.disk;
    }
