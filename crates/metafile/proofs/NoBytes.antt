-- "A delivery of no bytes": what it reads and lists as, which number the other calls answer, and that every other file reads
-- by the rule that was there before. An edit of the definitions fails here. Assumes nothing.
--     file-none read_none others       no bytes, for every table; every other file
--     no-parent no-contents no-gather  13: no row
--     not-clean append-12              no bytes aren't clean: append answers 12
--     list-none list-one               the listing of no bytes, and of one
use Prim.Native.Nat.{ℕ}
use mathlib.Core.Bool.{true, false}
use mathlib.Core.Path.{◌≡◌, refl}
use mathlib.Core.List.{List, [], ◌∷◌}
use native.Mathlib.Omega.{arith}
use borrow.Author.Tests.{le-leb}
use lib.Dec.{leb}
use lib.ListN.{length, drop}
use Rattle.metafile.specs.declared.Row.{Row}
use Rattle.metafile.specs.Bytes.{bytes, choose, is_zero}
use Rattle.metafile.specs.Header.{is_llc, mark_of, header_fault, header_end, header_good}
use Rattle.metafile.specs.Reading.{halt, read_rows, with_header, unbegun, read_file, reading, rows_of, is_clean}
use Rattle.metafile.specs.Answers.{refused, refuse, first_refusal, limit, over_limit, outcome, unless_refused}
use Rattle.metafile.specs.Append.{Given, append_over_limit, append_tests, append}
use Rattle.metafile.specs.Calls.{read, parent_tests, parent, contents_tests, contents, gather_tests, gather}
use Rattle.metafile.specs.Listing.{listing}
use Rattle.metafile.proofs.Computed.{computed}

-- ---- the reading

pub file-none : (n : ℕ) → read_file n [] ≡ record { rows = []; stop = 0; good = false; number = 0 }
unfolding computed
file-none n = refl

pub read_none : (table : List Row) → read [] table ≡ record { answer = record { count = 0; stop = 0; good = false; number = 0 }; table = table }
unfolding computed
read_none table = refl

pub others : (n x : ℕ) (xs : List ℕ)
    → let file : List ℕ = x ∷ xs in
    read_file n file
    ≡ choose (header_fault file)
    (with_header (header_good file) (read_rows n (is_llc file) (mark_of file) [] (header_end file) (drop (header_end file) file)))
    (λ k. with_header false (halt 0 k))
unfolding read_file unbegun is_zero
others n x xs = refl

-- ---- no row

no_row : (k : ℕ) → leb (length (rows_of [])) k ≡ true
unfolding computed
no_row k = le-leb 0 k (omega arith)

pub no-parent : (k j : ℕ) → parent [] k j ≡ refused 13
unfolding parent parent_tests over_limit limit first_refusal refuse choose
no-parent k j = rw (no_row k)

pub no-contents : (k : ℕ) → contents [] k ≡ record { contents = []; number = 13 }
unfolding contents contents_tests over_limit limit first_refusal refuse choose
no-contents k = rw (no_row k)

pub no-gather : (k : ℕ) (id buffer : List ℕ) → over_limit (0 ∷ length id ∷ length buffer ∷ []) ≡ false → gather [] k id buffer ≡ outcome (refused 13) buffer
unfolding gather gather_tests unless_refused first_refusal refuse choose
no-gather k id buffer e = rw (e, no_row k)

-- ---- clean

pub not-clean : is_clean [] (reading []) ≡ false
unfolding computed
not-clean = refl

pub append-12 : (buffer : List ℕ) (g : Given) → append_over_limit buffer 0 g ≡ false → append buffer 0 g ≡ outcome (refused 12) buffer
unfolding append append_tests unless_refused first_refusal refuse choose
append-12 buffer g e = rw (e, not-clean)

-- ---- the listing

pub list-none : listing [] ≡ bytes "header none\nchunks 0\nend 0 0\n"
unfolding computed
list-none = refl

pub list-one : (x : ℕ) → listing (x ∷ []) ≡ bytes "header bad\nchunks 0\nend 0 4\n"
unfolding computed
list-one x = refl
