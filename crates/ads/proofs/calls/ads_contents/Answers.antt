-- `ads::calls::ads_contents` meets its contract. Assumes nothing.
use Rattle.contents.proofs.Answers.{part-outcome}
use Rattle.ads.proofs.calls.ads_contents.Goals as goal

pub returns : goal.returns
returns c = record { answer = part-outcome _ _ c.part_of.result c.part_of.ensures; names = c.part_of.ensures }
