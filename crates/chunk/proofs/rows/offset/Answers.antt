-- `chunk::rows::offset` meets its contract. Assumes nothing.
use mathlib.Core.Path.{◌∙◌}
use native.Mathlib.Omega.{arith}
use lib.ListN.{length-take, length-drop}
use mir.Facts.{to_z-of_z}
use mir.Syntax.{w64}
use Rattle.metafile.specs.Chunk.{offset_bytes}
use Rattle.chunk.proofs.Headers.{head-long, offset-formed}
use Rattle.chunk.proofs.Layouts.{offset-synch, offset-standard, offset-given}
use Rattle.chunk.proofs.rows.offset.Goals as goal

pub is_word-requires : goal.is_word-requires
is_word-requires c = (omega (arith, head-long c.args.s.now c.requires), omega arith)

pub returns-then-is_word : goal.returns-then-is_word
returns-then-is_word c = offset-synch c.args.s.now _ c.is_word.ensures c.if-is_word.true

pub is_word-requires-2 : goal.is_word-requires-2
is_word-requires-2 c = (omega (arith, head-long c.args.s.now c.requires), omega arith)

pub returns-then-is_word-2 : goal.returns-then-is_word-2
returns-then-is_word-2 c = offset-standard c.args.s.now _ c.is_word.ensures c.if-is_word.false _ c.is_word-2.ensures c.if-is_word-2.true

pub slice_bounds-offset_value-end : goal.slice_bounds-offset_value-end
slice_bounds-offset_value-end c = omega (arith, head-long c.args.s.now c.requires)

pub offset_value-requires : goal.offset_value-requires
unfolding offset_bytes
offset_value-requires c =
    let h = head-long c.args.s.now c.requires in record { s_len = simp (length-take, length-drop) (omega arith); s_value = offset-formed c.args.s.now c.requires }

pub returns : goal.returns
returns c =
    to_z-of_z {w = w64} (record { sfits = c.offset_value.type_inv })
    ∙ offset-given c.args.s.now _ c.is_word.ensures c.if-is_word.false _ c.is_word-2.ensures c.if-is_word-2.false _ c.offset_value.ensures
