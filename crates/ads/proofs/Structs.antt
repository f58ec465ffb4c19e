-- The structs that the exports answer, from the calls' own answers. A struct tells a refusal by its number, so a refused
-- call's number may not be 0.
--     numbered ..-numbered   a refused call's number is not 0, by the definition of the call
--     refusal-chosen         a refusal's number chooses what the struct is beside it
-- Assumes nothing.
use Prim.Native.Nat.{ℕ, zero, suc}
use mathlib.Core.Bool.{Bool, true, false, cond}
use mathlib.Core.Path.{◌≡◌, refl, ap, ◌∙◌}
use mathlib.Core.List.{List, [], ◌∷◌}
use native.Mathlib.Omega.{arith}
use lib.Dec.{ltb}
use lib.ListN.{length}
use Rattle.metafile.specs.Bytes.{choose}
use Rattle.metafile.specs.Answers.{Answer, result, refused, flag, Test, first_refusal, Outcome, outcome, unless_refused}
use Rattle.metafile.specs.Begin.{BeginGiven, begin}
use Rattle.metafile.specs.Append.{Given, append}
use Rattle.metafile.specs.Reading.{rows_of}
use Rattle.metafile.specs.Calls.{parent_tests, parent_row, agree, parent, gather}
use Rattle.metafile.specs.Ancestors.{ancestors}
use Rattle.metafile.specs.Relations.{relations_write, relations_check, relations_row, with_row, relations_check_latest}
use Rattle.laws.proofs.First.{untrue}
use Rattle.listing_text.specs.Text.{listing_outcome}
use Rattle.price.specs.Price.{price}
use Rattle.blocks.specs.Blocks.{pack, unpack}
use Rattle.metafile.specs.declared.refusal.Refusal.{Refusal}
use Rattle.metafile.specs.declared.refusal.Refusal.TheVariants.{Title, Tape, MiniMark, Short, Differs, Form, Length, ShortId, KnownSerial, RowsFull, OverLimit, NotClean, NoRow, NoDependency, ZeroInMark, Open, Multichunk, NoRoom, NotRelations, Heading, Total, Circle, RowsOver64, BlockSum, BlockNumber, BlockUse}
use Rattle.metafile.specs.Refusals.{number_of}

-- ---- a refused call's number is not 0

is_result : Answer → Bool
is_result (result vs) = true
is_result (refused n) = false

numbered : (k n : ℕ) (a : Answer) → is_result a ≡ true → refused n ≡ choose k a (λ m. refused m) → n ≡ 0 → ⊥
unfolding choose is_result
numbered zero n a t e z = untrue (ap is_result e ∙ t)
numbered (suc k) n a t e z = let q : n ≡ suc k = cc in omega arith

answer-chosen : (k : ℕ) (buffer : List ℕ) (done : Outcome) → (choose k done (λ n. outcome (refused n) buffer)).answer ≡ choose k done.answer (λ n. refused n)
unfolding choose
answer-chosen zero buffer done = refl
answer-chosen (suc k) buffer done = refl

-- of a call that writes
answers-numbered : (ts : List Test) (buffer : List ℕ) (done : Outcome) → is_result done.answer ≡ true
    → (n : ℕ) → refused n ≡ (unless_refused ts buffer done).answer → n ≡ 0 → ⊥
unfolding unless_refused
answers-numbered ts buffer done t n e = numbered (first_refusal ts) n done.answer t (e ∙ answer-chosen (first_refusal ts) buffer done)

writes-numbered : (ts : List Test) (buffer : List ℕ) (done : Outcome) → is_result done.answer ≡ true
    → (n : ℕ) (after : List ℕ) → outcome (refused n) after ≡ unless_refused ts buffer done → n ≡ 0 → ⊥
writes-numbered ts buffer done t n after e = answers-numbered ts buffer done t n (ap (λ (o : Outcome). o.answer) e)

pub begin-numbered : (g : BeginGiven) (buffer : List ℕ) (n : ℕ) (after : List ℕ) → outcome (refused n) after ≡ begin g buffer → n ≡ 0 → ⊥
unfolding begin is_result
begin-numbered g buffer n after e = writes-numbered _ buffer _ refl n after e

pub append-numbered : (buffer : List ℕ) (len : ℕ) (g : Given) (n : ℕ) (after : List ℕ) → outcome (refused n) after ≡ append buffer len g → n ≡ 0 → ⊥
unfolding append is_result
append-numbered buffer len g n after e = writes-numbered _ buffer _ refl n after e

pub gather-numbered : (file : List ℕ) (k : ℕ) (id buffer : List ℕ) (n : ℕ) (after : List ℕ) → outcome (refused n) after ≡ gather file k id buffer → n ≡ 0 → ⊥
unfolding gather is_result
gather-numbered file k id buffer n after e = writes-numbered _ buffer _ refl n after e

pub ancestors-numbered : (file : List ℕ) (k : ℕ) (list : List ℕ) (n : ℕ) (after : List ℕ) → outcome (refused n) after ≡ ancestors file k list → n ≡ 0 → ⊥
unfolding ancestors is_result
ancestors-numbered file k list n after e = writes-numbered _ list _ refl n after e

pub relations-write-numbered : (file buffer : List ℕ) (n : ℕ) (after : List ℕ) → outcome (refused n) after ≡ relations_write file buffer → n ≡ 0 → ⊥
unfolding relations_write is_result
relations-write-numbered file buffer n after e = writes-numbered _ buffer _ refl n after e

pub relations-check-numbered : (file : List ℕ) (k : ℕ) (list : List ℕ) (n : ℕ) (after : List ℕ) → outcome (refused n) after ≡ relations_check file k list → n ≡ 0 → ⊥
unfolding relations_check is_result
relations-check-numbered file k list n after e = writes-numbered _ list _ refl n after e

-- the row is added to a result alone
refused-first : (k n : ℕ) (a : Answer) → refused n ≡ with_row k a → refused n ≡ a
unfolding with_row is_result
refused-first k n (result vs) e = untrue (ap is_result e)
refused-first k n (refused m) e = e

pub relations-latest-numbered : (file list : List ℕ) (n : ℕ) (after : List ℕ) → outcome (refused n) after ≡ relations_check_latest file list → n ≡ 0 → ⊥
unfolding relations_check_latest relations_check is_result
relations-latest-numbered file list n after e =
    answers-numbered _ list _ refl n (refused-first (relations_row file) n _ (ap (λ (o : Outcome). o.answer) e))

pub listing-numbered : (input buffer : List ℕ) (n : ℕ) (after : List ℕ) → outcome (refused n) after ≡ listing_outcome input buffer → n ≡ 0 → ⊥
unfolding listing_outcome is_result
listing-numbered input buffer n after e = writes-numbered _ buffer _ refl n after e

pub price-numbered : (file : List ℕ) (fee rate : ℕ) (buffer : List ℕ) (n : ℕ) (after : List ℕ) → outcome (refused n) after ≡ price file fee rate buffer → n ≡ 0 → ⊥
unfolding price is_result
price-numbered file fee rate buffer n after e = writes-numbered _ buffer _ refl n after e

pub pack-numbered : (file buffer : List ℕ) (n : ℕ) (after : List ℕ) → outcome (refused n) after ≡ pack file buffer → n ≡ 0 → ⊥
unfolding pack is_result
pack-numbered file buffer n after e = writes-numbered _ buffer _ refl n after e

pub unpack-numbered : (x buffer : List ℕ) (n : ℕ) (after : List ℕ) → outcome (refused n) after ≡ unpack x buffer → n ≡ 0 → ⊥
unfolding unpack is_result
unpack-numbered x buffer n after e = writes-numbered _ buffer _ refl n after e

either-result : (b : Bool) (us vs : List ℕ) → is_result (cond b (result us) (result vs)) ≡ true
unfolding is_result
either-result true us vs = refl
either-result false us vs = refl

pub parent-numbered : (file : List ℕ) (k j : ℕ) (n : ℕ) → refused n ≡ parent file k j → n ≡ 0 → ⊥
unfolding parent
parent-numbered file k j n e =
    numbered (first_refusal (parent_tests file k j)) n
    (cond (ltb (parent_row file k j) (length (rows_of file))) (result (parent_row file k j ∷ flag (agree file k j) ∷ [])) (result []))
    (either-result (ltb (parent_row file k j) (length (rows_of file))) (parent_row file k j ∷ flag (agree file k j) ∷ []) [])
    e

-- ---- the structs

-- where a number chooses, a refusal's chooses what it is answered with
pub refusal-chosen : {A : Type 0} (r : Refusal) (a : A) (f : ℕ → A) → choose (number_of r) a f ≡ f (number_of r)
unfolding choose
refusal-chosen Title a f = refl
refusal-chosen Tape a f = refl
refusal-chosen MiniMark a f = refl
refusal-chosen Short a f = refl
refusal-chosen Differs a f = refl
refusal-chosen Form a f = refl
refusal-chosen Length a f = refl
refusal-chosen ShortId a f = refl
refusal-chosen KnownSerial a f = refl
refusal-chosen RowsFull a f = refl
refusal-chosen OverLimit a f = refl
refusal-chosen NotClean a f = refl
refusal-chosen NoRow a f = refl
refusal-chosen NoDependency a f = refl
refusal-chosen ZeroInMark a f = refl
refusal-chosen Open a f = refl
refusal-chosen Multichunk a f = refl
refusal-chosen NoRoom a f = refl
refusal-chosen NotRelations a f = refl
refusal-chosen Heading a f = refl
refusal-chosen Total a f = refl
refusal-chosen Circle a f = refl
refusal-chosen RowsOver64 a f = refl
refusal-chosen BlockSum a f = refl
refusal-chosen BlockNumber a f = refl
refusal-chosen BlockUse a f = refl
