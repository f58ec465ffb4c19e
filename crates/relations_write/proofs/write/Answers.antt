-- `relations_write::write` meets its contract. Assumes nothing.
use Prim.Native.Nat.{◌+◌, ◌*◌, ◌≤◌}
use mathlib.Core.Bool.{false}
use mathlib.Core.List.{[], ◌∷◌}
use mathlib.Core.Path.{◌≡◌, sym, ◌∙◌}
use native.Mathlib.Omega.{arith}
use lib.ListN.{length}
use Rattle.metafile.specs.Answers.{over_limit}
use Rattle.metafile.specs.Relations.{relation_lines}
use Rattle.laws.proofs.Accepted.{limit-small}
use Rattle.walk.proofs.Index.{indexed-none}
use Rattle.relations_write.proofs.Answers.{headed-length, refused-11, refused-18, written}
use Rattle.relations_write.proofs.write.Goals as goal
use Rattle.relations_write.proofs.write.Goals.{After-count-lines, Else-over_limit}

pub returns-then-over_limit : goal.returns-then-over_limit
returns-then-over_limit c = refused-11 _ _ (sym c.over_limit.ensures ∙ c.if-over_limit.true)

-- 11 is passed
within : (c : Else-over_limit) → over_limit (length c.args.file.now ∷ length c.args.buffer.now ∷ []) ≡ false
within c = sym c.over_limit.ensures ∙ c.if-over_limit.false

pub first-first-requires : goal.first-first-requires
first-first-requires c = indexed-none _ 0

pub last-end-requires : goal.last-end-requires
last-end-requires c = c.first-first.ensures.0

pub clear-requires : goal.clear-requires
clear-requires c = c.last-end.ensures.1

pub enter_rows-found-requires : goal.enter_rows-found-requires
enter_rows-found-requires c =
    let l = c in
    let w = l.last-end.ensures.0 in record { rows_value = w.count; behind = w.begun; file_len_bound = limit-small _ _ (within (goal.at.enter_rows-found-requires c).Else-over_limit); empty = c.clear.ensures }

-- the text's length
long : (c : After-count-lines)
    → 131 + 605 * c.count-lines.result ≡ 131 + 605 * length (relation_lines c.args.file.now)
long c = omega (arith, c.count-lines.ensures.0)

pub overflow_mul-long : goal.overflow_mul-long
overflow_mul-long c = omega (arith, c.count-lines.ensures.1, limit-small _ _ (within (goal.at.overflow_mul-long c).Else-over_limit))

pub overflow_add-long : goal.overflow_add-long
overflow_add-long c = omega (arith, c.count-lines.ensures.1, limit-small _ _ (within (goal.at.overflow_add-long c).Else-over_limit))

pub returns-then-buffer-long : goal.returns-then-buffer-long
returns-then-buffer-long c = let n = c in refused-18 _ _ (within (goal.at.returns-then-buffer-long c).Else-over_limit) _ (long (goal.at.returns-then-buffer-long c).After-count-lines) c.if-buffer-long.true

pub put_rows-requires : goal.put_rows-requires
put_rows-requires c =
    let h = c in
    let e = h in
    let n = e in
    let room : 131 + 605 * n.count-lines.result ≤ length n.args.buffer.now = e.if-buffer-long.false in
    let same = headed-length _ n.args.buffer.now (omega arith) h.put_heading-p.ensures.1 in omega (arith, same, long (goal.at.put_rows-requires c).After-count-lines, h.put_heading-p.ensures.0)

pub returns : goal.returns
returns c =
    let r = c in
    let h = r in
    let e = h in
    let n = e in
    written _ _ (within (goal.at.returns c).Else-over_limit) _ (long (goal.at.returns c).After-count-lines) e.if-buffer-long.false _ h.put_heading-p.ensures.0 _ _ h.put_heading-p.ensures.1
    r.put_rows.ensures
