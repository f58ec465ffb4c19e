-- A text that is given: filled into a field of n spaces, and padded again it is the text padded. Over the
-- width n.
--     filled fill_end   a field that is filled
--     sub-format-given, recording-agent-given, writing-agent-given   what is handed in is what append sees
-- Assumes nothing.
use Prim.Native.Nat.{ℕ, suc, ◌+◌, ◌-◌, min, ◌≤◌, ◌<◌}
use mathlib.Core.Bool.{Bool, true, false}
use mathlib.Core.Path.{◌≡◌, refl, sym}
use mathlib.Core.List.{List, [], ◌∷◌, ◌++◌, append_assoc, append-nil}
use native.Mathlib.Omega.{arith}
use native.Mathlib.Numerals.{add-one}
use lib.Dec.{leb}
use borrow.Author.Tests.{leb-true, leb-false}
use lib.ListN.{length, take, get_or, set, replicate, length-append, length-replicate}
use lib.Seq.{take-suc, take_all, take-length, take-take, take-append_seam, take-append-le, length-take-le, set_at}
use Rattle.metafile.specs.declared.Description.{Description}
use Rattle.metafile.specs.Fields.{padded}
use Rattle.metafile.specs.Description.{with_sub_format, with_recording, with_writing}
use Rattle.metafile.specs.Append.{sub_format_given, integrity_given}

-- the first i bytes of a text in a field of n spaces
unfoldable pub filled : ℕ → ℕ → List ℕ → List ℕ
filled n i t = take i t ++ replicate (n - i) 32

short-end : (n : ℕ) (t : List ℕ) → length t ≤ n → filled n (length t) t ≡ take n (padded n t)
unfolding filled padded
short-end n t h =
    let long : length (t ++ replicate (n - length t) 32) ≤ n = simp (length-append, length-replicate) (omega arith) in
    rw (take-length t, take_all n (t ++ replicate (n - length t) 32) long)

long-end : (n : ℕ) (t : List ℕ) → n ≤ length t → filled n n t ≡ take n (padded n t)
unfolding filled padded
long-end n t h =
    let none : n - n ≡ 0 = omega arith in
    rw (take-append-le n t (replicate (n - length t) 32) h, none) (append-nil (take n t))

pub fill_end : (n i : ℕ) (t : List ℕ) → i ≡ min (length t) n → filled n i t ≡ take n (padded n t)
fill_end n i t e = go (leb (length t) n) refl
  where
    go : (b : Bool) → leb (length t) n ≡ b → filled n i t ≡ take n (padded n t)
    go true q =
        let h = leb-true (length t) n q in
        let is : i ≡ length t = omega arith in
        rw is (short-end n t h)
    go false q =
        let h = leb-false (length t) n q in
        let is : i ≡ n = omega arith in
        rw is (long-end n t (omega arith))

-- ---- what is handed in is what append sees

seen : (n : ℕ) (t : List ℕ) → length t ≤ n → padded n (take (length t) (take n (padded n t))) ≡ padded n t
unfolding padded
seen n t h =
    rw (take-take (length t) n (t ++ replicate (n - length t) 32) h, take-append_seam t (replicate (n - length t) 32))

pub sub-format-given : (d : Description) (t : List ℕ) → length t ≤ 256 → sub_format_given (with_sub_format d t) ≡ padded 256 t
unfolding sub_format_given
sub-format-given d t h = seen 256 t h

pub recording-agent-given : (d : Description) (v t : List ℕ) → length t ≤ 32 → padded 32 (integrity_given (with_recording d v t)).recording_agent ≡ padded 32 t
unfolding integrity_given
recording-agent-given d v t h = seen 32 t h

pub writing-agent-given : (d : Description) (v t : List ℕ) → length t ≤ 32 → padded 32 (integrity_given (with_writing d v t)).writing_agent ≡ padded 32 t
unfolding integrity_given
writing-agent-given d v t h = seen 32 t h
