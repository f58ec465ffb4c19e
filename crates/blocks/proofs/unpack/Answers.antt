-- `blocks::unpack` meets its contract. Assumes nothing.
use Rattle.std.proofs.Common.{◌≡◌, false, [], ◌∷◌, length, sym, ◌∙◌, arith}
use Rattle.std.proofs.lemmas.Result.{err_from_is_err_and}
use Rattle.metafile.specs.Answers.{over_limit}
use Rattle.laws.proofs.Accepted.{limit-small}
use Rattle.blocks.proofs.Answers.{unpack-11, unpack-refused, unpack-18, unpack-done}
use Rattle.blocks.proofs.unpack.Goals as goal
use Rattle.blocks.proofs.unpack.Goals.{Else-over_limit}

pub returns-then-over_limit : goal.returns-then-over_limit
returns-then-over_limit c = unpack-11 _ _ (sym c.over_limit.ensures ∙ c.if-over_limit.true)

-- 11 is passed
within : (c : Else-over_limit) → over_limit (length c.args.blocks.now ∷ length c.args.buffer.now ∷ []) ≡ false
within c = sym c.over_limit.ensures ∙ c.if-over_limit.false

pub unpack_fault-requires : goal.unpack_fault-requires
unpack_fault-requires c = limit-small _ _ (within c)

pub returns-in_err-unpack_fault : goal.returns-in_err-unpack_fault
returns-in_err-unpack_fault c =
    let p = err_from_is_err_and c.from_residual.result c.from_residual.ensures.1 in
    rw (p.1, p.2) (unpack-refused _ _ (within (goal.at.returns-in_err-unpack_fault c).Else-over_limit) c.in_err-unpack_fault.field-0.0 c.in_err-unpack_fault.ensures)

pub unpacked_length-length-requires : goal.unpacked_length-length-requires
unpacked_length-length-requires c = record { x_len_bound = limit-small _ _ (within (goal.at.unpacked_length-length-requires c).Else-over_limit); x_value = sym c.in_ok-unpack_fault.ensures }

pub returns-then-buffer-length : goal.returns-then-buffer-length
returns-then-buffer-length c =
    let n = c in
    let e = n in
    unpack-18 _ _ (within (goal.at.returns-then-buffer-length c).Else-over_limit) (sym c.in_ok-unpack_fault.ensures) (omega (arith, n.unpacked_length-length.ensures, c.if-buffer-length.true))

pub put_file-requires : goal.put_file-requires
put_file-requires c =
    let f = c in
    let n = f in
    let e = n in record { x_len_bound = limit-small _ _ (within (goal.at.put_file-requires c).Else-over_limit); x_value = sym c.in_ok-unpack_fault.ensures; x_in_bounds = omega (arith, n.unpacked_length-length.ensures, f.if-buffer-length.false) }

pub returns : goal.returns
returns c =
    let p = c in
    let f = p in
    let n = f in
    let e = n in
    unpack-done _ _ (within (goal.at.returns c).Else-over_limit) (sym c.in_ok-unpack_fault.ensures) n.unpacked_length-length.ensures f.if-buffer-length.false p.put_file.ensures
