-- `relations_write::found::Listed::finds` meets its contract. Assumes nothing.
use Prim.Native.Nat.{ℕ, ◌+◌}
use mathlib.Core.Bool.{true, false}
use mathlib.Core.Path.{◌≡◌, refl, ◌∙◌}
use native.Mathlib.Omega.{arith}
use borrow.Author.Tests.{le-ltb}
use Rattle.std.proofs.Common.{Option, Some, None, MatchOption, is_some}
use Rattle.relations_write.proofs.Finds.{found-there, found-scanned, found_none}
use Rattle.relations_write.proofs.found.Listed.finds.Goals as goal

-- what is said of an answer that is there, and of one that is not
some : {A : Type 0} (P : Type 0) (Q : ℕ → Type 0) (o : Option ℕ) → MatchOption o P Q → true ≡ is_some o → ((j : ℕ) → Q j → A) → A
some P Q None h e f = cc
some P Q (Some j) h e f = f j h

none : (P : Type 0) (Q : ℕ → Type 0) (o : Option ℕ) → MatchOption o P Q → false ≡ is_some o → P
none P Q None h e = h
none P Q (Some j) h e = cc

pub look_up-requires-clause-directory : goal.look_up-requires-clause-directory
look_up-requires-clause-directory c = c.args.self.found_in.holds

pub returns-then-is_some : goal.returns-then-is_some
returns-then-is_some c =
    some _ _ _ c.look_up.ensures c.if-is_some.ensures
    (λ j s. c.if-is_some.true ∙ found-there _ _ _ c.args.self.found_in _ (j + 1) s (λ z. omega arith))

pub returns-then-t : goal.returns-then-t
returns-then-t c =
    found-scanned _ _ _ c.args.self.found_in _ 0 (none _ _ _ c.look_up.ensures c.if-is_some.ensures) refl _ c.scan.ensures

pub returns-else-t : goal.returns-else-t
returns-else-t c =
    le-ltb _ _ c.if-t.false ∙ found_none _ _ _ c.args.self.found_in _ 0 (none _ _ _ c.look_up.ensures c.if-is_some.ensures) refl c.if-t.false
