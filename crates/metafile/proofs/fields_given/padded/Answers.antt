-- `fields_given::padded` meets its contract. Assumes nothing.
use Prim.Native.Nat.{ℕ}
use Rattle.std.proofs.lemmas.List.{drop-replicate}
use Rattle.metafile.proofs.Given.{filled, fill_end}
use Rattle.metafile.proofs.fields_given.padded.Goals as goal

pub returns : goal.returns
unfolding filled
returns g c =
    let n = g.row.N in
    let m = c.min-long.result in
    rw (c.copy_from_slice.ensures.after, drop-replicate {X = ℕ} m n 32) (fill_end n m c.args.text.now c.min-long.ensures)
