use Rattle.tables.proofs.Views.{view_laws}
use Rattle.tables.proofs.walk.view_laws.Goals as goal

pub returns : goal.returns
returns c = view_laws
