-- The kinds of calls and their numbers. Assumes nothing.
use Rattle.std.specs.Prelude.{◌≡◌, ℕ, Bool, true, false, ◌&&◌, not, nat_le, List, slice_index, MatchResult, Result}
use Rattle.requests.specs.declared.request.Kind.{Kind}
use Rattle.requests.specs.declared.request.Kind.TheVariants.{Fork, Leave, Map, Drop, Make, Look, Load, Store, Counts}
use Rattle.requests.specs.declared.request.UnknownKind.{UnknownKind}

abbrev pub kind_number : Kind → ℕ
kind_number Fork = 1
kind_number Leave = 2
kind_number Map = 3
kind_number Drop = 4
kind_number Make = 5
kind_number Look = 6
kind_number Load = 7
kind_number Store = 8
kind_number Counts = 9

abbrev pub is_kind : ℕ → Bool
is_kind k = nat_le 1 k && nat_le k 9

-- the first byte of a call is no kind
abbrev pub unknown : List ℕ → Bool
unknown call = not (is_kind (slice_index call 0))

-- the kind that has the number, if one has
abbrev pub Decodes : ℕ → Result Kind UnknownKind → Type 0
Decodes k r = MatchResult r (λ kind. (kind_number kind ≡ k) × (is_kind k ≡ true)) (λ _. is_kind k ≡ false)
