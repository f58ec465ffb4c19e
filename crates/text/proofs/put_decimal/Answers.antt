-- `text::put_decimal` meets its contract. Assumes nothing.
use Prim.Native.Nat.{ℕ}
use mathlib.Core.Path.{sym, ap, ◌∙◌}
use mathlib.Core.List.{List}
use native.Mathlib.Omega.{arith}
use Rattle.metafile.specs.Fields.{digits_of}
use Rattle.metafile.specs.Listing.{decimal}
use Rattle.metafile.specs.Answers.{placed}
use Rattle.text.proofs.Puts.{put_word}
use Rattle.text.proofs.Decimals.{decimal-digits}
use Rattle.text.proofs.put_decimal.Goals as goal

pub returns : goal.returns
returns c =
    let put = c in
    let long = put in
    let args = long.args in
    let same = ap (λ (n : ℕ). digits_of n args.x) long.decimal_length.ensures ∙ sym (decimal-digits args.x) in
    put_word (decimal args.x) args.buffer.now put.put_number-digits_end.new.buffer args.at put.put_number-digits_end.result args.behind
    long.requires (omega (arith, put.put_number-digits_end.ensures.0, long.decimal_length.ensures))
    (put.put_number-digits_end.ensures.1 ∙ ap (λ (v : List ℕ). placed args.at v args.buffer.now) same)
