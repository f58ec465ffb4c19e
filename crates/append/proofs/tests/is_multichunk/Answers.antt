-- `append::tests::is_multichunk` meets its contract. Assumes nothing.
use Prim.Native.Nat.{ℕ}
use mathlib.Core.Path.{sym, ap, ◌∙◌}
use mathlib.Core.List.{List}
use Rattle.metafile.specs.Bytes.{same}
use Rattle.metafile.specs.Chunk.{multi_name}
use Rattle.writer.proofs.Described.{name-first, name-length}
use Rattle.append.proofs.tests.is_multichunk.Goals as goal

pub slice_bounds-is_multi_name-end : goal.slice_bounds-is_multi_name-end
slice_bounds-is_multi_name-end c = sym (name-length c.args.d c.given_values-given.result c.requires c.given_values-given.ensures)

pub is_multi_name-requires : goal.is_multi_name-requires
is_multi_name-requires c = name-length c.args.d c.given_values-given.result c.requires c.given_values-given.ensures

pub returns : goal.returns
returns c =
    let values = c in
    c.is_multi_name.ensures
    ∙ ap (λ (v : List ℕ). same v multi_name) (name-first values.args.d values.given_values-given.result values.requires values.given_values-given.ensures)
