-- A text that listing has written lies inside the buffer. Assumes nothing.
use Rattle.std.proofs.Common.{ℕ, ◌≤◌, ◌≡◌, List, length, arith}
use Rattle.std.specs.Result.{result_unwrap_or}
use Rattle.std.specs.declared.result.Result.{Result}
use Rattle.std.specs.declared.result.Result.TheVariants.{Ok, Err}
use Rattle.metafile.specs.declared.refusal.Refusal.{Refusal}
use Rattle.metafile.specs.Answers.{count_answer, outcome}
use Rattle.listing_text.specs.Text.{listing_outcome}
use Rattle.listing_text.proofs.Answers.{written-fits}

pub text-fits : (a : Result ℕ Refusal) (input buffer last : List ℕ) → outcome (count_answer a) last ≡ listing_outcome input buffer
    → result_unwrap_or a 0 ≤ length buffer
text-fits (Ok n) input buffer last e = written-fits input buffer last n e
text-fits (Err r) input buffer last e = omega arith
