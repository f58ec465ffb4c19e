-- `kernels::kernel_find_plain` meets its contract: nothing is behind the bytes. Assumes nothing.
use mathlib.Core.Path.{◌∙◌, ap}
use mathlib.Core.List.{List, append-nil}
use Prim.Native.Nat.{ℕ}
use Rattle.metafile.specs.Bytes.{find}
use Rattle.kernels.proofs.kernel_find_plain.Goals as goal

pub returns : goal.returns
returns c =
    let args = c.args in
    c.find_plain.ensures ∙ ap (λ (v : List ℕ). find args.mark.now v) (append-nil args.s.now)
