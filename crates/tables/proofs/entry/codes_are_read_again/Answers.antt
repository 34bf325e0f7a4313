use Rattle.tables.proofs.Codes.{decode_encode}
use Rattle.tables.proofs.entry.codes_are_read_again.Goals as goal

pub returns : goal.returns
returns c = decode_encode
