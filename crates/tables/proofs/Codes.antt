-- An entry and its number: what was coded is read again.
use Rattle.std.proofs.Common.{◌≡◌, ℕ, ◌+◌, ◌*◌, ◌/◌, ◌%◌, ◌<◌, Bool, true, false, cond, eqb, refl, ap, ◌∙◌, arith}
use Rattle.std.proofs.lemmas.Bool.{cond-true, lt-ltb, eq-eqb, ne_eqb}
use Rattle.tables.specs.declared.entry.Entry.{Entry}
use Rattle.tables.specs.declared.entry.Limits.{Limits}
use Rattle.tables.specs.declared.entry.Target.{Target}
use Rattle.tables.specs.declared.entry.Target.TheVariants.{Absent, Zero, Frame, Place, Segment}
use Rattle.tables.specs.Cells.{cell, Within, Few, kind_of, index_of, encoded, named, decoded}

-- a number's digits: index, kind, mark
mark_read : (i k : ℕ) (m : Bool) → eqb ((i * 10 + k * 2 + cond m 1 0) % 2) 1 ≡ m
mark_read i k true = eq-eqb _ 1 (omega arith)
mark_read i k false = ne_eqb _ 1 (omega arith)

mark_small : (m : Bool) → cond m 1 0 < 2
mark_small true = omega arith
mark_small false = omega arith

read_again : (z : Limits) (i k : ℕ) (m : Bool) → k < 5 → decoded z (i * 10 + k * 2 + cond m 1 0) ≡ named z m k i
read_again z i k m h =
    let n = i * 10 + k * 2 + cond m 1 0 in
    let s : cond m 1 0 < 2 = mark_small m in
    let kind : n % 10 / 2 ≡ k = omega arith in
    let index : n / 10 ≡ i = omega arith in
    ap (λ b. named z b (n % 10 / 2) (n / 10)) (mark_read i k m) ∙ ap (λ j. named z m j (n / 10)) kind ∙ ap (named z m k) index

names : (z : Limits) (m : Bool) (t : Target) → Within z t → named z m (kind_of t) (index_of t) ≡ cell z.frames (record { target = t; copy = m })
names z m Absent h = refl
names z m Zero h = refl
names z m (Frame f) h = cond-true _ _ _ (lt-ltb f z.frames h)
names z m (Place d) h = cond-true _ _ _ (lt-ltb d z.places h)
names z m (Segment s) h = cond-true _ _ _ (lt-ltb s z.segments h)

kinds : (t : Target) → kind_of t < 5
kinds Absent = omega arith
kinds Zero = omega arith
kinds (Frame f) = omega arith
kinds (Place d) = omega arith
kinds (Segment s) = omega arith

-- the entry that a number was made of
pub decode_encode : (z : Limits) (e : Entry) → Within z e.target → decoded z (encoded e) ≡ cell z.frames e
decode_encode z e h = read_again z (index_of e.target) (kind_of e.target) e.copy (kinds e.target) ∙ names z e.copy e.target h

-- an entry that names what is there has a number
pub small : (z : Limits) (t : Target) → Few z → Within z t → index_of t < 1024
small z Absent f h = omega arith
small z Zero f h = omega arith
small z (Frame i) f h = omega (arith, f.frames)
small z (Place d) f h = omega (arith, f.places)
small z (Segment s) f h = omega (arith, f.segments)
