-- A filter of hashes, in the entries 1 to 196613 of an array: it says of a hash that it was never set, or leaves it open. A
-- hash has two numbers, and each number two bits, mostly, of one entry. Assumes nothing.
use Rattle.std.specs.Prelude.{ℕ, ◌+◌, ◌*◌, ◌/◌, ◌%◌, ◌^◌, Bool, ◌&&◌, List, eqb, get_or, set}
use Rattle.std.specs.Int.Bits.{bit_and, bit_or}

-- the numbers of a hash: squares modulo two primes, 2^31 - 1 and 2^32 - 5
unfoldable pub first_of : ℕ → ℕ
first_of h = (h % 2147483647) * (h % 2147483647) % 2147483647

unfoldable pub second_of : ℕ → ℕ
second_of h = (h % 4294967291) * (h % 4294967291) % 4294967291

-- the entry of a number, and its bits there
unfoldable pub entry_of : ℕ → ℕ
entry_of n = 1 + n % 196613

unfoldable pub bits_of : ℕ → ℕ
bits_of n = bit_or (2 ^ (n / 196613 % 32)) (2 ^ (n / 6291616 % 32))

unfoldable pub set_at : ℕ → List ℕ → Bool
set_at n words = eqb (bit_and (get_or words (entry_of n) 0) (bits_of n)) (bits_of n)

-- all bits of a hash are set
unfoldable pub covered_by : List ℕ → ℕ → Bool
covered_by words h = set_at (first_of h) words && set_at (second_of h) words

-- the bits of a number, and of a hash, set
unfoldable pub with_bits : ℕ → List ℕ → List ℕ
with_bits n words = set words (entry_of n) (bit_or (get_or words (entry_of n) 0) (bits_of n))

unfoldable pub covering : ℕ → List ℕ → List ℕ
covering h words = with_bits (second_of h) (with_bits (first_of h) words)
