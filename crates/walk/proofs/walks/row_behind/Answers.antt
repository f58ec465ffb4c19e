-- `walk::walks::row_behind` meets its contract. Assumes nothing.
use mathlib.Core.Path.{refl, sym, ap, ◌∙◌}
use native.Mathlib.Omega.{arith}
use Rattle.walk.specs.Cursor.{named_in}
use Rattle.walk.proofs.Index.{indexed-more}
use Rattle.walk.proofs.Named.{named-goes, named-at, named_small, named-11, named-13, named-short, refused-later}
use Rattle.walk.proofs.walks.row_behind.Goals as goal

pub reached-requires : goal.reached-requires
reached-requires c =
    let w = named-goes _ _ (ap named_in (sym c.in-Ok.is) ∙ c.requires.named_value) c.if-c.true in
    record { at = named-at w c.requires.indexed; row_le_k = omega (arith, w.row_is); file_len_bound = named_small w }

pub returns-in-Ok-2-clause-named : goal.returns-in-Ok-2-clause-named
returns-in-Ok-2-clause-named c = named-11 _ _ c.if-file-gt-LIMIT.true refl

pub returns-in-Ok-3-clause-named : goal.returns-in-Ok-3-clause-named
returns-in-Ok-3-clause-named c =
    let small = c.if-file-gt-LIMIT.false in
    let few = named-short _ c.args.m (ap named_in (sym c.in-Ok.is) ∙ c.requires.named_value) c.if-c.false small in
    named-13 _ _ small (omega (arith, few, c.requires.m_le_k)) refl

pub returns-in-Err : goal.returns-in-Err
returns-in-Err c =
    record {
      named = refused-later _ _ _ c.requires.m_le_k _ (ap named_in (sym c.in-Err.is) ∙ c.requires.named_value);
      goes = tt;
      indexed = indexed-more c.requires.indexed (omega arith);
    }
