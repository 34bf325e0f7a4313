-- The number and the place of each refusal, and a result that may be refused. Assumes nothing.
use Rattle.std.specs.Prelude.{ℕ, Some, None, Ok, Err, Option, Result}
use Rattle.requests.specs.declared.answer.Part.{Part}
use Rattle.requests.specs.declared.answer.Part.TheVariants as part
use Rattle.requests.specs.declared.answer.Refusal.{Refusal}
use Rattle.requests.specs.declared.answer.Refusal.TheVariants.{Size, Lent, Length, Kind}
use Rattle.requests.specs.declared.answer.Size.TheVariants as size
use Rattle.requests.specs.declared.answer.Size as named

abbrev pub refusal_number : Refusal → ℕ
refusal_number (Size s) = 1
refusal_number (Lent p) = 2
refusal_number (Length n) = 3
refusal_number (Kind i) = 4

-- the place of each size, and of each part of lent memory, in the order in which they are looked at
abbrev pub size_place : named.Size → ℕ
size_place size.Processes = 0
size_place size.Pages = 1
size_place size.Segments = 2
size_place size.Frames = 3
size_place size.Places = 4

abbrev pub part_place : Part → ℕ
part_place part.Frames = 0
part_place part.Disk = 1
part_place part.Tables = 2

abbrev pub refusal_place : Refusal → ℕ
refusal_place (Size s) = size_place s
refusal_place (Lent p) = part_place p
refusal_place (Length n) = n
refusal_place (Kind i) = i

-- x, unless there is a refusal
abbrev pub unless_refused : {T : Type 0} → Option Refusal → T → Result T Refusal
unless_refused None x = Ok x
unless_refused (Some e) x = Err e

-- the first refusal of two
abbrev pub either_refusal : Option Refusal → Option Refusal → Option Refusal
either_refusal None later = later
either_refusal (Some e) later = Some e
