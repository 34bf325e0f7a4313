-- The laws are lemmas of their own, so that others can cite them.
use Rattle.requests.proofs.Saying.{row_says, row_refuses_first, row_stores}
use Rattle.requests.proofs.row.row_laws.Goals as goal

pub returns : goal.returns
returns c = record { says = row_says; first = row_refuses_first; stores = row_stores }
