-- `kernels::kernel_hash` meets its contract. Assumes nothing.
use borrow.Author.Tests.{le-leb, lt-leb}
use Rattle.kernels.proofs.kernel_hash.Goals as goal

pub returns-then-s-ge38 : goal.returns-then-s-ge38
returns-then-s-ge38 c = rw (le-leb _ _ c.if-s-ge38.true) c.hash.ensures

pub returns : goal.returns
returns c = rw (lt-leb _ _ c.if-s-ge38.false)
