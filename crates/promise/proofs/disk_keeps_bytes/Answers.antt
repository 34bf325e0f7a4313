use Rattle.promise.proofs.Theorems.{disk_keeps_bytes}
use Rattle.promise.proofs.disk_keeps_bytes.Goals as goal

pub returns : goal.returns
returns c = disk_keeps_bytes
