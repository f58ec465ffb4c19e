-- `writer::marks::is_clear` meets its contract. Assumes nothing.
use Rattle.std.proofs.Common.{not, eqb, refl, rules}
use Rattle.std.proofs.lemmas.List.Recursion.{and_is}
use Rattle.metafile.specs.Bytes.{all, non_zero}
use Rattle.laws.proofs.First.{is_zero-eqb}
use Rattle.writer.proofs.marks.is_clear.Goals as goal

pub returns : goal.returns
unfolding all non_zero
returns c = and_is (all non_zero) (λ x. not (eqb x 0)) refl (λ x xs. rw (is_zero-eqb x)) c.args.mark.now 0 _ (search rules) (search rules)
