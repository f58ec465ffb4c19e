-- Demand 2 for append: the finished file reads back as the old rows and the new one, with number 0 and the stop at its
-- end, and the new chunk is as handed in.
--     round_trip   the theorem, for every accepted append
-- Assumes nothing.
use Prim.Native.Nat.{ℕ}
use mathlib.Core.Path.{◌≡◌}
use mathlib.Core.List.{List, [], ◌∷◌, ◌++◌}
use lib.ListN.{length, take, drop}
use lib.Seq.{drop-append_seam}
use Rattle.metafile.specs.Reading.{reading, rows_of}
use Rattle.metafile.specs.Append.{Given}
use Rattle.metafile.specs.Demand.{Accepted, finished, new_row, HandedIn}
use Rattle.written_laws.proofs.Taken.{accepted}
use Rattle.written_laws.proofs.Stretches.{chunk_bytes}
use Rattle.demand.proofs.Buffer.{finished-is}
use Rattle.demand.proofs.After.{finished-reads}
use Rattle.demand.proofs.Theorem.{reading-is, small-enough, handed-done}

pub record RoundTrip (old : List ℕ) (g : Given) (e₁ e₂ e₃ : ℕ) (done : List ℕ) : Type 0 where
  pub read_back : reading done ≡ record { rows = rows_of old ++ new_row old g e₁ e₃ ∷ []; stop = e₃; good = (reading old).good; number = 0 }
  pub as-handed-in : HandedIn old g e₁ e₂ done (drop (length old) done)

pub round_trip : (buffer : List ℕ) (len : ℕ) (g : Given) (e₁ e₂ e₃ : ℕ) → Accepted buffer len g e₁ e₂ e₃
    → RoundTrip (take len buffer) g e₁ e₂ e₃ (finished buffer len g e₃)
round_trip buffer len g e₁ e₂ e₃ e =
    let old : List ℕ = take len buffer in
    let d = accepted buffer len g e₁ e₂ e₃ e in
    let a = d.is-taken in
    let r = finished-reads (take len buffer) g a in
    rw (finished-is buffer len g e₁ e₂ e₃ d, d.first-end, d.second-end, d.third-end)
    (record {
      read_back = reading-is old g a (chunk_bytes old g) _ _ _ r;
      as-handed-in = rw (drop-append_seam old (chunk_bytes old g)) (handed-done old g a (small-enough buffer len g e₁ e₂ e₃ d) r);
    })
