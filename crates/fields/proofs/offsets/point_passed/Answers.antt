-- `fields::offsets::point_passed` meets its contract. Assumes nothing.
use Rattle.fields.proofs.Decimal.{point-none, point-there, point-other}
use Rattle.fields.proofs.offsets.point_passed.Goals as goal

pub returns-then-s-eq0 : goal.returns-then-s-eq0
returns-then-s-eq0 c = point-none _ c.if-s-eq0.true

pub returns-then-s-eq46 : goal.returns-then-s-eq46
returns-then-s-eq46 c = point-there _ c.if-s-eq0.false c.if-s-eq46.true

pub returns : goal.returns
returns c = point-other _ c.if-s-eq46.false
