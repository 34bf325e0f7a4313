use Rattle.frames.proofs.Turn.{hand_goes_round}
use Rattle.frames.proofs.hand.hand_goes_round.Goals as goal

pub returns : goal.returns
returns c = hand_goes_round
