-- `append::Given::open_wrong` meets its contract. Assumes nothing.
use mathlib.Core.Path.{◌≡◌}
use native.Mathlib.Omega.{arith}
use lib.ListN.{length}
use borrow.Author.Rules.{rules}
use Rattle.append.proofs.Files.{llc-found, mark-room, mark-found}
use Rattle.append.proofs.Held.{closed-right, open_is}
use Rattle.append.proofs.Given.open_wrong.Goals as goal

pub returns-then-not-self : goal.returns-then-not-self
returns-then-not-self c = closed-right c.args.file.now c.args.self.now.description.generic c.args.self.now.contents.now c.args.self.now.is_open c.if-not-self.true

pub overflow_add-mark : goal.overflow_add-mark
overflow_add-mark c = omega (arith, mark-room c.args.file.now c.args.h c.requires.h_value c.requires.number_value)

pub slice_bounds-mark-end : goal.slice_bounds-mark-end
slice_bounds-mark-end c = omega (arith, mark-room c.args.file.now c.args.h c.requires.h_value c.requires.number_value)

pub returns : goal.returns
returns c =
    let long : length c.args.self.now.description.generic ≡ 3 = search rules in
    open_is c.args.file.now c.args.self.now.description.generic c.args.self.now.contents.now _ c.args.self.now.is_open c.args.h.llc c.is_word.result c.first_found.result
    c.if-not-self.false long
    (llc-found c.args.file.now c.args.h c.requires.h_value c.requires.number_value) (mark-found c.args.file.now c.args.h c.requires.h_value c.requires.number_value)
    c.first_found.ensures c.is_word.ensures
