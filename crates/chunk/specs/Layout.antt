-- The layout of a chunk: its first fault, or where its parts stand, counted from the chunk's first byte. It renders "A row
-- holds: .." without serial number, offset, sum and ending, which a reading that only goes on to the next chunk doesn't need.
-- Beside it stand the answers on the header and on contents: their first fault, or what they say. Assumes nothing.
use Rattle.std.specs.Prelude.{ℕ, Bool, false, not, ◌&&◌, ◌≡◌, List, [], ◌∷◌, drop, IfOk}
use Rattle.metafile.specs.Bytes.{◌⊳◌, require, choose, is_zero}
use Rattle.metafile.specs.Lines.{lf, opened, content_length, run}
use Rattle.metafile.specs.Chunk.{header_length, dependency_bytes, chunk_header_fault, header_bytes, contents_place, contents_bytes, chunk_end, dependencies, is_multi, chunk_fault, content_count, plain_fault, plain_bytes, contents_fault, contents_long}
use Rattle.chunk.specs.declared.parts.Layout.{Layout}
use Rattle.chunk.specs.declared.parts.Head.{Head}
use Rattle.std.specs.declared.result.Result.{Result}
use Rattle.std.specs.declared.result.Result.TheVariants.{Ok, Err}
use Rattle.metafile.specs.declared.refusal.Refusal.{Refusal}
use Rattle.metafile.specs.Refusals.{number_of, fault_in}
use Rattle.multi.specs.Part.{Part, part_of}

-- no parts, but the number of the fault
unfoldable pub faulty : ℕ → Layout
faulty n =
    record {
      number = n;
      header = 0;
      contents = 0;
      bytes = 0;
      end = 0;
      dependencies = 0;
      multichunk = false;
    }

-- the parts of a whole chunk
unfoldable pub parts_of : List ℕ → List ℕ → Layout
parts_of m s =
    record {
      number = 0;
      header = header_bytes s;
      contents = contents_place s;
      bytes = contents_bytes m s;
      end = chunk_end m s;
      dependencies = dependencies s;
      multichunk = is_multi s;
    }

unfoldable pub layout_of : Bool → List ℕ → List ℕ → Layout
layout_of llc m s = choose (chunk_fault llc m s) (parts_of m s) faulty

-- a layout, or that of a refusal
abbrev pub layout_in : Result Layout Refusal → Layout
layout_in (Ok l) = l
layout_in (Err r) = faulty (number_of r)

-- l is the layout of the chunk at the start of s, which is whole under one of the two strategies
pub record WholeLayout (l : Layout) (m s : List ℕ) : Type 0 where
  pub llc : Bool
  pub is : l ≡ layout_of llc m s
  pub whole : l.number ≡ 0

-- ---- the header

-- its dependency count, dependency length and header length
pub record Numbers (s : List ℕ) (n d h : ℕ) : Type 0 where
  pub n-is : n ≡ dependencies s
  pub d-is : d ≡ dependency_bytes s
  pub h-is : h ≡ header_length s

-- h is what the header at the start of s says: its first fault, and where it has none its bytes and its dependency count
pub record HeadOf (h : Result Head Refusal) (s : List ℕ) : Type 0 where
  pub fault : fault_in h ≡ chunk_header_fault s
  pub bytes-are : IfOk h (λ k. k.bytes ≡ header_bytes s)
  pub count-is : IfOk h (λ k. k.dependencies ≡ dependencies s)

-- ---- contents

-- the content length line
unfoldable pub length_line_fault : Bool → List ℕ → ℕ
length_line_fault llc r =
    run (opened content_length) r ⊳ require (not (llc && is_zero (content_count r))) 7 ⊳ run (lf ∷ []) (drop 33 r)

-- contents: their first fault, or how many bytes they have
unfoldable pub plain_part : Bool → List ℕ → List ℕ → Part
plain_part llc m r = part_of (plain_fault llc m r) (plain_bytes m r)

unfoldable pub contents_part : Bool → Bool → List ℕ → List ℕ → Part
contents_part multi llc m r = part_of (contents_fault multi llc m r) (contents_long multi m r)
