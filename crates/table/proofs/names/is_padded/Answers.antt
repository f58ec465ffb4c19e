-- `table::names::is_padded` meets its contract. Assumes nothing.
use mathlib.Core.Path.{sym, ◌∙◌}
use native.Mathlib.Omega.{arith}
use Rattle.table.proofs.Padded.{padded-short, padded-good, padded-other}
use Rattle.table.proofs.names.is_padded.Goals as goal

pub returns-then-field-name : goal.returns-then-field-name
returns-then-field-name c = padded-short c.args.field.now c.args.name.now c.if-field-name.true

pub returns-then-not-same_bytes : goal.returns-then-not-same_bytes
returns-then-not-same_bytes c =
    sym c.if-not-same_bytes.true
    ∙ padded-other c.args.field.now c.args.name.now c.split_at.ensures.front c.split_at.ensures.back (omega arith) c.requires
    c.same_bytes.ensures c.if-not-same_bytes.true

pub returns : goal.returns
returns c =
    padded-good c.args.field.now c.args.name.now c.split_at.ensures.front c.split_at.ensures.back (omega arith) c.requires
    c.same_bytes.ensures c.if-not-same_bytes.false c.same_bytes-2.ensures
