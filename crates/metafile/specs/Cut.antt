-- What a power cut leaves of an append. It says of the disk: each write is on it before the next begins; of the write
-- that was cut a first part is there, in which blocks of 512 bytes may be lost as zeros; all earlier bytes stay.
use Rattle.std.specs.Prelude.{ℕ, suc, ◌-◌, ◌/◌, Bool, cond, List, [], ◌∷◌, ◌++◌, take}
use Rattle.metafile.specs.Bytes.{part}

-- "A cut point is a write, a number of its bytes from none to all, and any choice of 512-byte blocks, counted from the
-- file's first byte." More bytes than all are all.
pub data Write : Type 0 where
  header_write : Write
  contents_write : Write
  closing_write : Write

pub record CutPoint : Type 0 where
  pub write : Write
  pub kept : ℕ
  pub lost : ℕ → Bool

-- where a write begins and ends: the old end and the three ends
unfoldable pub write_start : ℕ → ℕ → ℕ → Write → ℕ
write_start len e₁ e₂ header_write = len
write_start len e₁ e₂ contents_write = e₁
write_start len e₁ e₂ closing_write = e₂

unfoldable pub write_end : ℕ → ℕ → ℕ → Write → ℕ
write_end e₁ e₂ e₃ header_write = e₁
write_end e₁ e₂ e₃ contents_write = e₂
write_end e₁ e₂ e₃ closing_write = e₃

-- "in which every byte in a chosen block is zero"; the bytes stand at the place p of the file
unfoldable pub zeroed : (ℕ → Bool) → ℕ → List ℕ → List ℕ
zeroed lost p [] = []
zeroed lost p (x ∷ xs) = cond (lost (p / 512)) 0 x ∷ zeroed lost (suc p) xs

-- "After it stand the old bytes, the writes before that one whole, and that many first bytes of that one .. Nothing of
-- a later write stands, and the file ends there." The buffer is the finished append's; the write is its part from
-- `from` to `to`.
unfoldable pub left_over : List ℕ → ℕ → ℕ → ℕ → (ℕ → Bool) → List ℕ
left_over buffer from to kept lost = take from buffer ++ zeroed lost from (take kept (part from (to - from) buffer))

unfoldable pub remains : List ℕ → ℕ → ℕ → ℕ → ℕ → CutPoint → List ℕ
remains buffer len e₁ e₂ e₃ c =
    left_over buffer (write_start len e₁ e₂ c.write) (write_end e₁ e₂ e₃ c.write) c.kept c.lost
