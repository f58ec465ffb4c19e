-- The contents of a MultiChunk, over what follows the chunk's header ("If, and only if, SubFormat_ID is
-- ADS\SYS\MultiChunk").
--     MultiWhole, multi-whole        a field for each stage
--     multi-enough multi-least       they lie inside, and take more than 34 bytes
--     multi-local multi_bytes-local   the same with more bytes behind, if 10 bytes still follow them
-- Assumes nothing.
use Prim.Native.Nat.{ℕ, ◌+◌, ◌≤◌}
use mathlib.Core.Bool.{◌&&◌}
use mathlib.Core.Path.{◌≡◌, refl, ap, ◌∙◌}
use mathlib.Core.List.{List, [], ◌∷◌, ◌++◌}
use native.Mathlib.Omega.{arith}
use lib.Dec.{leb}
use lib.ListN.{length, drop, length-drop}
use lib.Seq.{drop-append-le}
use Rattle.metafile.specs.Bytes.{require, same}
use Rattle.metafile.specs.Fields.{count_value}
use Rattle.metafile.specs.Lines.{lf, field_fault, size, run}
use Rattle.metafile.specs.Multi.{multi_head, multi_length, types_of, types_fault, mini_label, minis_fault, minis_end, minis_place, declared_ids, multi_fault, multi_bytes}
use Rattle.laws.proofs.First.{⊳-left, ⊳-right, ⊳-both}
use Rattle.laws.proofs.Lists.{part-local}
use Rattle.laws.proofs.Table.{field-enough, field-local, run-enough, run-local}
use Rattle.laws.proofs.Distances.{lines}
use Rattle.chunk_laws.proofs.Types.{stretch-local, types-enough, TypesSame, types-local}
use Rattle.chunk_laws.proofs.Minis.{minis-enough, minis-local}

pub record MultiWhole (r : List ℕ) : Type 0 where
  pub in_head : run multi_head r ≡ 0
  pub in_count : require (leb 1 (types_of r) && leb (types_of r) 64) 7 ≡ 0
  pub in-lf : run (lf ∷ []) (drop 64 r) ≡ 0
  pub in-types : types_fault (types_of r) (multi_length r) 0 [] (drop 65 r) ≡ 0
  pub in-first : field_fault 10 (λ v. require (same v mini_label) 8) (drop (minis_place r) r) ≡ 0
  pub in-minis : minis_fault (declared_ids r) 0 (drop (minis_place r) r) ≡ 0

pub multi-whole : (r : List ℕ) → multi_fault r ≡ 0 → MultiWhole r
unfolding multi_fault
multi-whole r e =
    let e2 = ⊳-right _ _ e in
    let e3 = ⊳-right _ _ e2 in
    let e4 = ⊳-right _ _ e3 in
    let e5 = ⊳-right _ _ e4 in
    record {
      in_head = ⊳-left _ _ e;
      in_count = ⊳-left _ _ e2;
      in-lf = ⊳-left _ _ e3;
      in-types = ⊳-left _ _ e4;
      in-first = ⊳-left _ _ e5;
      in-minis = ⊳-right _ _ e5;
    }

multi-unfaulted : (r : List ℕ) → MultiWhole r → multi_fault r ≡ 0
unfolding multi_fault
multi-unfaulted r w =
    ⊳-both _ _ w.in_head
    (⊳-both _ _ w.in_count (⊳-both _ _ w.in-lf (⊳-both _ _ w.in-types (⊳-both _ _ w.in-first w.in-minis))))

size-multi-head : size multi_head ≡ 64
unfolding lines multi_head
size-multi-head = refl

size-lf : size (lf ∷ []) ≡ 1
unfolding lines
size-lf = refl

module _ (r : List ℕ) (w : MultiWhole r) where
  fits_count : 65 ≤ length r
  fits_count =
      let a = rw size-multi-head at (run-enough multi_head r w.in_head) in
      let b = simp (length-drop, size-lf) at (run-enough (lf ∷ []) (drop 64 r) w.in-lf) in
      omega arith

  fits-types : minis_place r ≤ length r
  unfolding minis_place
  fits-types =
      let a = simp length-drop at (types-enough (types_of r) (multi_length r) 0 [] (drop 65 r) w.in-types) in
      omega (arith, fits_count)

  pub multi-enough : multi_bytes r ≤ length r
  unfolding multi_bytes
  multi-enough =
      let a = simp length-drop at (minis-enough (declared_ids r) 0 (drop (minis_place r) r) (omega arith) w.in-minis) in
      omega (arith, fits-types)

  module _ (t : List ℕ) (behind : multi_bytes r + 10 ≤ length r) where
    types_of-local : types_of (r ++ t) ≡ types_of r
    unfolding types_of
    types_of-local = ap count_value (part-local 60 4 r t (omega (arith, fits_count)))

    multi_length-local : multi_length (r ++ t) ≡ multi_length r
    unfolding multi_length
    multi_length-local = ap count_value (part-local 26 12 r t (omega (arith, fits_count)))

    same-types : TypesSame (types_of r) (multi_length r) 0 [] (drop 65 r) t
    same-types = types-local (types_of r) (multi_length r) 0 [] (drop 65 r) t w.in-types

    minis_place-local : minis_place (r ++ t) ≡ minis_place r
    unfolding minis_place
    minis_place-local = rw (types_of-local, drop-append-le 65 r t fits_count, same-types.same_bytes)

    pub declared_ids-local : declared_ids (r ++ t) ≡ declared_ids r
    unfolding declared_ids
    declared_ids-local = rw (types_of-local, drop-append-le 65 r t fits_count, same-types.same-ids)

    minis-behind : minis_end 0 (drop (minis_place r) r) + 10 ≤ length (drop (minis_place r) r)
    unfolding multi_bytes
    minis-behind = simp length-drop (omega (arith, behind, fits-types))

    same-minis : (minis_fault (declared_ids r) 0 (drop (minis_place r) r ++ t) ≡ 0) × (minis_end 0 (drop (minis_place r) r ++ t) ≡ minis_end 0 (drop (minis_place r) r))
    same-minis = minis-local (declared_ids r) 0 (drop (minis_place r) r) t w.in-minis minis-behind

    pub multi_bytes-local : multi_bytes (r ++ t) ≡ multi_bytes r
    unfolding multi_bytes
    multi_bytes-local = rw (minis_place-local, drop-append-le (minis_place r) r t fits-types, same-minis.1)

    pub multi-local : multi_fault (r ++ t) ≡ 0
    multi-local =
        multi-unfaulted (r ++ t)
        (record {
          in_head = run-local multi_head r t (run-enough _ r w.in_head) ∙ w.in_head;
          in_count = rw types_of-local w.in_count;
          in-lf = stretch-local (lf ∷ []) 64 r t (omega (arith, fits_count)) w.in-lf;
          in-types = rw (types_of-local, multi_length-local, drop-append-le 65 r t fits_count) same-types.no-fault;
          in-first =
              rw (minis_place-local, drop-append-le (minis_place r) r t fits-types)
              (field-local 10 _ (drop (minis_place r) r) t (field-enough 10 _ (drop (minis_place r) r) w.in-first) ∙ w.in-first);
          in-minis = rw (minis_place-local, declared_ids-local, drop-append-le (minis_place r) r t fits-types) same-minis.0;
        })

-- the head and the types take more than 34 bytes
pub multi-least : (r : List ℕ) → 34 ≤ multi_bytes r
unfolding multi_bytes minis_place
multi-least r = omega arith
