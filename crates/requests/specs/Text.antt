-- What is written of a call, of an answer and of a refusal. Assumes nothing.
use Rattle.std.specs.Prelude.{ℕ, List, [], ◌∷◌, ◌++◌, codes, decimal}
use Rattle.requests.specs.declared.answer.Answer.{Answer}
use Rattle.requests.specs.declared.answer.Answer.TheVariants.{Done, Fault, Full}
use Rattle.requests.specs.declared.answer.Refusal.{Refusal}
use Rattle.requests.specs.declared.request.Call.{Call}
use Rattle.requests.specs.declared.request.Call.TheVariants.{Fork, Leave, Map, Drop, Make, Look, Load, Store, Counts}
use Rattle.requests.specs.Refusals.{refusal_number, refusal_place}

-- a word and then numbers, each after a space
abbrev pub words : List ℕ → List ℕ → List ℕ
words text [] = text
words text (n ∷ ns) = words (text ++ (codes " " ++ decimal n)) ns

abbrev pub call_text : Call → List ℕ
call_text (Fork p) = words (codes "fork") (p ∷ [])
call_text (Leave p) = words (codes "leave") (p ∷ [])
call_text (Map p v) = words (codes "map") (p ∷ v ∷ [])
call_text (Drop p v) = words (codes "drop") (p ∷ v ∷ [])
call_text (Make p v) = words (codes "make") (p ∷ v ∷ [])
call_text (Look p v q u) = words (codes "look") (p ∷ v ∷ q ∷ u ∷ [])
call_text (Load p v o) = words (codes "load") (p ∷ v ∷ o ∷ [])
call_text (Store p v o x) = words (codes "store") (p ∷ v ∷ o ∷ x ∷ [])
call_text Counts = codes "counts"

abbrev pub answer_text : Answer → List ℕ
answer_text (Done n) = codes "done " ++ decimal n
answer_text Fault = codes "fault"
answer_text Full = codes "full"

abbrev pub refusal_text : Refusal → List ℕ
refusal_text e = codes "refused " ++ (decimal (refusal_number e) ++ (codes " " ++ decimal (refusal_place e)))
