-- Text fields: each is a test on its bytes, and a value. A value of bytes that fail the test is some number; the
-- fault hides it. Assumes nothing.
use Rattle.std.specs.Prelude.{ℕ, zero, suc, ◌+◌, ◌-◌, ◌*◌, ◌/◌, ◌%◌, ◌^◌, Bool, false, cond, not, ◌&&◌, ◌||◌, List, [], ◌∷◌, ◌++◌, leb, ltb, eqb, ℤ, pos, neg_ℤ, length, take, get_or, replicate}
use Rattle.metafile.specs.Bytes.{bytes, part, all, same, member, sum}

-- ---- "A number field In is n digits 0 to 9."

unfoldable pub is_digit : ℕ → Bool
is_digit x = leb 48 x && leb x 57

unfoldable pub number_from : ℕ → List ℕ → ℕ
number_from acc [] = acc
number_from acc (x ∷ xs) = number_from (acc * 10 + (x - 48)) xs

unfoldable pub number : List ℕ → ℕ
number v = number_from 0 v

-- digits that come to at most so much
unfoldable pub digits_to : ℕ → List ℕ → Bool
digits_to most v = all is_digit v && leb (number v) most

-- a number in n digits, with zeros in front
unfoldable pub digits_of : ℕ → ℕ → List ℕ
digits_of zero x = []
digits_of (suc n) x = digits_of n (x / 10) ++ (48 + x % 10) ∷ []

-- ---- "lengths, counts, the mark length and the two checks may have leading spaces before at least one digit"

unfoldable pub is_space : ℕ → Bool
is_space x = eqb x 32

-- the longest beginning of bytes that pass a test, and what follows it
unfoldable pub take_while : (ℕ → Bool) → List ℕ → List ℕ
take_while p [] = []
take_while p (x ∷ xs) = cond (p x) (x ∷ take_while p xs) []

unfoldable pub drop_while : (ℕ → Bool) → List ℕ → List ℕ
drop_while p [] = []
drop_while p (x ∷ xs) = cond (p x) (drop_while p xs) (x ∷ xs)

unfoldable pub is_count : List ℕ → Bool
is_count v = leb 1 (length (drop_while is_space v)) && all is_digit (drop_while is_space v)

unfoldable pub count_value : List ℕ → ℕ
count_value v = number (drop_while is_space v)

-- ---- "A text field An is n bytes from 32 to 126; a shorter given text is padded on the right with spaces."

unfoldable pub is_text : ℕ → Bool
is_text x = leb 32 x && leb x 126

unfoldable pub padded : ℕ → List ℕ → List ℕ
padded n t = t ++ replicate (n - length t) 32

-- ---- "Date: I4 year from 1, I2 month, I2 day, Gregorian."

unfoldable pub leap : ℕ → Bool
leap y = eqb (y % 4) 0 && (not (eqb (y % 100) 0) || eqb (y % 400) 0)

-- the days of a month; no days where there is no such month
unfoldable pub month_days : ℕ → ℕ → ℕ
month_days y m =
    get_or (0 ∷ 31 ∷ cond (leap y) 29 28 ∷ 31 ∷ 30 ∷ 31 ∷ 30 ∷ 31 ∷ 31 ∷ 30 ∷ 31 ∷ 30 ∷ 31 ∷ []) m 0

unfoldable pub year_of : List ℕ → ℕ
year_of v = number (part 0 4 v)

unfoldable pub month_of : List ℕ → ℕ
month_of v = number (part 4 2 v)

unfoldable pub day_of : List ℕ → ℕ
day_of v = number (part 6 2 v)

unfoldable pub is_date : List ℕ → Bool
is_date v = all is_digit v && leb 1 (year_of v) && leb 1 (day_of v) && leb (day_of v) (month_days (year_of v) (month_of v))

-- ---- "Offset: sign + or -, I2 hours to 23, I2 minutes to 59, N11 seconds below 60."

-- what follows a point, where one stands first
unfoldable pub point_passed : List ℕ → List ℕ
point_passed [] = []
point_passed (x ∷ xs) = cond (eqb x 46) xs (x ∷ xs)

-- "N11 is 11 bytes: spaces, digits with at most one point and at least one digit, spaces."
unfoldable pub digits_before : List ℕ → List ℕ
digits_before v = take_while is_digit (drop_while is_space v)

unfoldable pub point_on : List ℕ → List ℕ
point_on v = drop_while is_digit (drop_while is_space v)

unfoldable pub digits_behind : List ℕ → List ℕ
digits_behind v = take_while is_digit (point_passed (point_on v))

unfoldable pub spaces_behind : List ℕ → List ℕ
spaces_behind v = drop_while is_digit (point_passed (point_on v))

unfoldable pub is_decimal : List ℕ → Bool
is_decimal v = leb 1 (length (digits_before v ++ digits_behind v)) && all is_space (spaces_behind v)

-- a second, in units of 10^-10 second
unfoldable pub second : ℕ
second = 10 ^ 10

unfoldable pub decimal_units : List ℕ → ℕ
decimal_units v = number (digits_before v ++ digits_behind v) * 10 ^ (10 - length (digits_behind v))

abbrev pub plus : List ℕ
plus = bytes "+"

abbrev pub minus : List ℕ
minus = bytes "-"

unfoldable pub is_offset : List ℕ → Bool
is_offset v =
    member (part 0 1 v) (plus ∷ minus ∷ [])
    && digits_to 23 (part 1 2 v)
    && digits_to 59 (part 3 2 v)
    && is_decimal (part 5 11 v)
    && ltb (decimal_units (part 5 11 v)) (60 * second)

unfoldable pub offset_units : List ℕ → ℕ
offset_units v = (number (part 1 2 v) * 3600 + number (part 3 2 v) * 60) * second + decimal_units (part 5 11 v)

-- "The offset's value is signed, in units of 10^-10 second; minus zero is 0."
unfoldable pub offset_value : List ℕ → ℤ
offset_value v = cond (same (part 0 1 v) minus) (neg_ℤ (pos (offset_units v))) (pos (offset_units v))

-- ---- "Serial number, 38 bytes: "#", date, I2 hour to 23, I2 minute and I2 second to 59, I3 millisecond, A12
-- processor, I5 random to 65535, I3 check. The check is the first 35 bytes added byte by byte, modulo 256."

unfoldable pub is_serial : List ℕ → Bool
is_serial v =
    same (part 0 1 v) (bytes "#")
    && is_date (part 1 8 v)
    && digits_to 23 (part 9 2 v)
    && digits_to 59 (part 11 2 v)
    && digits_to 59 (part 13 2 v)
    && digits_to 999 (part 15 3 v)
    && all is_text (part 18 12 v)
    && digits_to 65535 (part 30 5 v)
    && is_count (part 35 3 v)
    && eqb (count_value (part 35 3 v)) (sum (take 35 v))

-- "serials are compared by their first 35 bytes", since "a check may now be written in several ways"
unfoldable pub same_serial : List ℕ → List ℕ → Bool
same_serial x y = same (take 35 x) (take 35 y)

-- a serial number among others
unfoldable pub known : List ℕ → List (List ℕ) → Bool
known x [] = false
known x (y ∷ ys) = same_serial x y || known x ys
