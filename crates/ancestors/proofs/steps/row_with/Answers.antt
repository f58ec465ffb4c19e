-- `ancestors::steps::row_with` meets its contract. Assumes nothing.
use Rattle.std.proofs.Common.{◌≡◌, ◌∙◌}
use Rattle.metafile.specs.Bytes.{part}
use Rattle.metafile.specs.Fields.{same_serial}
use Rattle.ancestors.specs.Noted.{noted_no}
use Rattle.ancestors.proofs.Noting.{compared, with-found, with-passed}
use Rattle.ancestors.proofs.steps.row_with.Goals as goal
use Rattle.ancestors.proofs.steps.row_with.Goals.{After-same_bytes}

-- the serial number sought is that of row i
same-is : (c : After-same_bytes)
    → c.same_bytes.result ≡ same_serial (part c.args.serial 38 c.args.file.now) (part (noted_no c.args.rows.now c.loop-i.i).serial 38 c.args.file.now)
same-is c = c.same_bytes.ensures ∙ compared c.args.file.now c.args.serial (noted_no c.args.rows.now c.loop-i.i).serial

pub returns-then-same_bytes : goal.returns-then-same_bytes
returns-then-same_bytes c = (
  c.loop-i-test.true,
  with-found c.requires.noted _ c.loop-i.i c.loop-i-test.true _ (same-is (goal.at.returns-then-same_bytes c).After-same_bytes) c.if-same_bytes.true,
)

pub loop-i-preserved : goal.loop-i-preserved
loop-i-preserved c =
    with-passed c.requires.noted _ c.loop-i.i c.loop-i-test.true _ (same-is (goal.at.loop-i-preserved c).After-same_bytes) c.loop-i.invariant c.if-same_bytes.false
