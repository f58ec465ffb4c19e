-- `parent::agree` meets its contract. Assumes nothing.
use Rattle.std.proofs.Common.{◌∙◌}
use Rattle.parent.proofs.Answers.{compared}
use Rattle.parent.proofs.agree.Goals as goal

pub returns : goal.returns
returns c = c.eq.ensures ∙ compared c.args.file.now c.args.a c.args.b 256
