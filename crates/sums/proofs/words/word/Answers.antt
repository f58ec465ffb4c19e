-- `sums::words::word` meets its contract. That each byte is below 256 is the slice's own rule. Assumes nothing.
use Rattle.std.proofs.Common.{◌≡◌, ℕ, ◌+◌, ◌*◌, ◌∙◌, ap₂}
use Rattle.sums.specs.Lanes.{word_of}
use Rattle.sums.proofs.Lanes.{word-halves, words-one}
use Rattle.sums.proofs.words.word.Goals as goal

pub returns : goal.returns
returns c =
    let b = c.args.b.now in
    let is : c.half_word.result + c.half_word-2.result * 4294967296 ≡ word_of b =
    ap₂ (λ (x y : ℕ). x + y * 4294967296) c.half_word.ensures.0 c.half_word-2.ensures.0 ∙ word-halves b c.requires
    in
    (is, rw is (words-one b c.requires (λ i. (c.type_inv.b i).fits)))
