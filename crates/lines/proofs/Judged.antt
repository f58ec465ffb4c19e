-- What the judging functions need of the definitions, each answer as a lemma on lists.
--     judged-short judged     a field that is too short; a field that has its bytes, as the code takes them
--     three-same              three bytes compared as one number
--     same_word               the constant list of the code
--     word-one word_two either-own   one of the words listed
--     stamp-.. strategy-..    a word and the field behind it
--     kind-told told-..       the kind of a line and its bound, from the code's kind
-- Assumes nothing.
use Prim.Native.Nat.{ℕ, zero, suc, ◌+◌, ◌-◌, ◌*◌, ◌^◌, ◌≤◌, ◌<◌}
use mathlib.Core.Bool.{Bool, true, false, ◌&&◌, ◌||◌}
use mathlib.Core.Path.{◌≡◌, refl, sym, ap, ◌∙◌}
use mathlib.Core.List.{List, [], ◌∷◌, ◌++◌}
use native.Mathlib.Nat.{pow-le-pow_right, mul-le-mul_right, mul_assoc, mul-one, one-mul, pow-succ'}
use native.Mathlib.Omega.{arith}
use lib.Dec.{leb, eqb}
use lib.ListN.{length, take, drop}
use lib.Seq.{take_all, take-take, length-take-le}
use borrow.Author.Tests.{eqb-true, eqb-false, eq-eqb, ne_eqb, leb-true, le-leb}
use Rattle.metafile.specs.Fields.{is_digit, number_from, number, is_space, drop_while, is_count, count_value}
use Rattle.metafile.specs.Bytes.{bytes, part, all, ◌⊳◌, require, same, member}
use Rattle.metafile.specs.Lines.{LLC, NUL, strategy, stamp, field_fault, count_fault, serial_fault, word_fault, stamp_fault, free_fault, kind_fault}
use Rattle.table.specs.declared.Kind.{Kind as Code}
use Rattle.table.specs.declared.Kind.TheVariants.{Checksum}
use Rattle.table.specs.declared.Line.{Line as CodeLine}
use Rattle.table.specs.Codes.{line_no, code_no, kind_of}
use Rattle.table.proofs.Lines.{kind-is, checksum-small}
use Rattle.laws.proofs.First.{test, and_both, or_left, or_right, ⊳-stop, ⊳-go, or-none}
use Rattle.laws.proofs.Lists.{same-eq}
use Rattle.laws.proofs.Loops.{part-drop}
use Rattle.laws.proofs.Table.{field-short, field-long, field-enough}
use Rattle.fields.proofs.Prefix.{rest_le}
use Rattle.metafile.specs.declared.refusal.Refusal.{Refusal}
use Rattle.metafile.specs.Refusals.{number_of}
use Rattle.lines.specs.Words.{word_no, Three}
use Rattle.lines.proofs.Runs.{refused}

-- ---- numbers in n digits

from-below : (acc : ℕ) (v : List ℕ) → all is_digit v ≡ true → number_from acc v + 1 ≤ (acc + 1) * 10 ^ length v
unfolding number_from all is_digit
from-below acc [] e = omega (arith, mul-one (acc + 1))
from-below acc (x ∷ v) e =
    let h = and_both (is_digit x) (all is_digit v) e in
    let d = and_both (leb 48 x) (leb x 57) h.0 in
    let next = from-below (acc * 10 + (x - 48)) v h.1 in
    let k : (acc * 10 + (x - 48) + 1) * 10 ^ length v ≤ ((acc + 1) * 10) * 10 ^ length v
    = mul-le-mul_right (10 ^ length v) (omega (arith, leb-true x 57 d.1)) in
    let p : ((acc + 1) * 10) * 10 ^ length v ≡ (acc + 1) * 10 ^ suc (length v)
    = mul_assoc (acc + 1) 10 (10 ^ length v) ∙ ap (λ (y : ℕ). (acc + 1) * y) (sym (pow-succ' 10 (length v))) in
    omega (arith, next, k, p)

-- digits come to no more than as many nines, and so with spaces in front
pub count-below : (n : ℕ) (v : List ℕ) → length v ≡ n → is_count v ≡ true → count_value v ≤ 10 ^ n - 1
unfolding is_count count_value number
count-below n v l e =
    let d : List ℕ = drop_while is_space v in
    let below = from-below 0 d (and_both (leb 1 (length d)) (all is_digit d) e).1 in
    let few : 10 ^ length d ≤ 10 ^ n = pow-le-pow_right {n = 10} (omega arith) {i = length d} {j = n} (rw (← l) (rest_le is_space v)) in
    omega (arith, below, few, one-mul (10 ^ length d))

pub number-judged : (n : ℕ) (v : List ℕ) → length v ≡ n → (b : Bool) → b ≡ is_count v → require b 6 ≡ count_fault (10 ^ n - 1) v
unfolding count_fault
number-judged n v l b e =
    test (is_count v)
    (λ q. rw (e, q, le-leb (count_value v) (10 ^ n - 1) (count-below n v l q)))
    (λ q. rw (e, q))

-- the n bytes of a field
pub long : (s v : List ℕ) (n : ℕ) → n ≤ length s → v ≡ take n s → length v ≡ n
long s v n h e = rw e (length-take-le n s h)

-- ---- one field

module _ (n : ℕ) (own : List ℕ → ℕ) (s : List ℕ) where
  pub judged-short : length s < n → 4 ≡ field_fault n own s
  judged-short h = sym (field-short n own s h)

  pub judged : (r : ℕ) (v : List ℕ) → n ≤ length s → v ≡ take n s → r ≡ own v → r ≡ field_fault n own s
  judged r v l e f = f ∙ ap own e ∙ sym (field-long n own s l)

-- ---- a rule of a constant list, tested once at all its places

below : (ℕ → Bool) → ℕ → Bool
below p zero = true
below p (suc n) = p n && below p n

below_at : (p : ℕ → Bool) (n i : ℕ) → below p n ≡ true → i < n → p i ≡ true
unfolding below
below_at p zero i e h = absurd (omega arith)
below_at p (suc n) i e h =
    let k = and_both (p n) (below p n) e in
    test (eqb i n)
    (λ q. rw (eqb-true i n q) k.0)
    (λ q. let m = eqb-false i n q in below_at p n i k.1 (omega arith))

-- ---- the listed words

three-equal : (a b c x y z : ℕ) → a < 256 → b < 256 → c < 256 → x < 256 → y < 256 → z < 256
    → eqb (a + b * 256 + c * 65536) (x + y * 256 + z * 65536) ≡ (eqb a x && (eqb b y && (eqb c z && true)))
three-equal a b c x y z ha hb hc hx hy hz =
    let m = a + b * 256 + c * 65536 in
    let n = x + y * 256 + z * 65536 in
    test (eqb a x)
    (λ p. test (eqb b y)
    (λ q. test (eqb c z)
    (λ r. rw (p, q, r) (eq-eqb m n (omega (arith, eqb-true a x p, eqb-true b y q, eqb-true c z r))))
    (λ r. rw (p, q, r) (ne_eqb m n (λ e. eqb-false c z r (omega (arith, e))))))
    (λ q. rw (p, q) (ne_eqb m n (λ e. eqb-false b y q (omega (arith, e))))))
    (λ p. rw p (ne_eqb m n (λ e. eqb-false a x p (omega (arith, e)))))

-- three bytes compared as one number
pub three-same : (s t : List ℕ) → length s ≡ 3 → length t ≡ 3 → (x y : ℕ) → Three s x → Three t y → eqb x y ≡ same s t
unfolding same
three-same (a ∷ b ∷ c ∷ []) (d ∷ e ∷ f ∷ []) l m x y p q =
    rw (p.number, q.number) (three-equal a b c d e f p.first p.second p.third q.first q.second q.third)
three-same [] t l m x y p q = absurd (omega arith)
three-same (a ∷ []) t l m x y p q = absurd (omega arith)
three-same (a ∷ b ∷ []) t l m x y p q = absurd (omega arith)
three-same (a ∷ b ∷ c ∷ d ∷ s) t l m x y p q = absurd (omega arith)
three-same (a ∷ b ∷ c ∷ []) [] l m x y p q = absurd (omega arith)
three-same (a ∷ b ∷ c ∷ []) (d ∷ []) l m x y p q = absurd (omega arith)
three-same (a ∷ b ∷ c ∷ []) (d ∷ e ∷ []) l m x y p q = absurd (omega arith)
three-same (a ∷ b ∷ c ∷ []) (d ∷ e ∷ f ∷ g ∷ t) l m x y p q = absurd (omega arith)

-- all words in a row, as the code has them
abbrev pub all_words : List ℕ
all_words = bytes "LLCNULBINTXTGENSPEUTCALTSLVMAS"

word-is : (w : ℕ) → w < 10 → part (w * 3) 3 all_words ≡ word_no w
unfolding below word_no same
word-is w h = same-eq _ _ (below_at (λ i. same (part (i * 3) 3 all_words) (word_no i)) 10 w refl h)

-- as the code compares them
pub same_word : (s : List ℕ) (at w : ℕ) → w < 10 → same (take (at + 3 - at) (drop at s)) (take (w * 3 + 3 - w * 3) (drop (w * 3) all_words)) ≡ same (part at 3 s) (word_no w)
same_word s at w h =
    let a : at + 3 - at ≡ 3 = omega arith in
    let b : w * 3 + 3 - w * 3 ≡ 3 = omega arith in
    rw (a, b, word-is w h)

-- one of one or two words, from the comparisons
pub word-one : (a v : List ℕ) (x : Bool) → x ≡ same v a → member v (a ∷ []) ≡ x
unfolding member
word-one a v x e = or-none (same v a) ∙ sym e

pub word_two : (a b v : List ℕ) (x y : Bool) → x ≡ same v a → y ≡ same v b → member v (a ∷ b ∷ []) ≡ (x || y)
unfolding member
word_two a b v x y e f = rw (or-none (same v b), e, f)

pub either-own : (a b v : List ℕ) (x y : Bool) → x ≡ same v a → y ≡ same v b → require (x || y) 5 ≡ word_fault (a ∷ b ∷ []) v
unfolding word_fault
either-own a b v x y e f = rw (word_two a b v x y e f)

pub serial-taken : (s v : List ℕ) → v ≡ take 38 s → take 38 v ≡ v
serial-taken s v e = rw e (take-take 38 38 s (omega arith))

-- a word taken out is the word at the place
pub word-whole : (v : List ℕ) (w : ℕ) → length v ≡ 3 → same (part 0 3 v) (word_no w) ≡ same v (word_no w)
word-whole v w l = ap (λ x. same x (word_no w)) (take_all 3 v (omega arith))

pub word-out : (s v : List ℕ) (w : ℕ) → v ≡ take 3 s → same (part 0 3 v) (word_no w) ≡ same (take 3 s) (word_no w)
word-out s v w e = rw (e, take-take 3 3 s (omega arith))

-- ---- a word, then 38 bytes

member-append : (x : List ℕ) (a b : List (List ℕ)) → member x (a ++ b) ≡ (member x a || member x b)
unfolding member
member-append x [] b = refl
member-append x (y ∷ a) b = test (same x y) (λ e. rw e) (λ e. rw e (member-append x a b))

module _ (frees serials : List (List ℕ)) (s : List ℕ) where
  pub stamp-short : length s < 3 → 4 ≡ kind_fault (stamp frees serials) s
  unfolding kind_fault ◌⊳◌
  stamp-short h = rw (field-short 3 (word_fault (frees ++ serials)) s h)

  module _ (long : 3 ≤ length s) where
    word-judged : field_fault 3 (word_fault (frees ++ serials)) s ≡ require (member (take 3 s) frees || member (take 3 s) serials) 5
    unfolding word_fault
    word-judged = field-long 3 (word_fault (frees ++ serials)) s long ∙ rw (member-append (take 3 s) frees serials)

    pub stamp-other : member (take 3 s) frees ≡ false → member (take 3 s) serials ≡ false → 5 ≡ kind_fault (stamp frees serials) s
    unfolding kind_fault ◌⊳◌ require
    stamp-other e f = rw (word-judged, e, f)

    -- the word stands: what follows it is judged
    stamp-word : (member (take 3 s) frees || member (take 3 s) serials) ≡ true
        → kind_fault (stamp frees serials) s ≡ field_fault 38 (stamp_fault serials (take 3 s)) (drop 3 s)
    unfolding kind_fault ◌⊳◌ require
    stamp-word e = rw (word-judged, e)

    pub stamp-serial : member (take 3 s) serials ≡ true → field_fault 38 serial_fault (take (length s - 3) (drop 3 s)) ≡ kind_fault (stamp frees serials) s
    stamp-serial e = rw (part-drop s 3) (sym (stamp-word (or_right (member (take 3 s) frees) (member (take 3 s) serials) e) ∙ (unfold field_fault stamp_fault in rw e)))

    pub stamp-free : member (take 3 s) frees ≡ true → member (take 3 s) serials ≡ false
        → field_fault 38 free_fault (take (length s - 3) (drop 3 s)) ≡ kind_fault (stamp frees serials) s
    stamp-free e f = rw (part-drop s 3) (sym (stamp-word (or_left (member (take 3 s) frees) (member (take 3 s) serials) e) ∙ (unfold field_fault stamp_fault free_fault in rw f)))

-- ---- a word, then a number

module _ (s : List ℕ) where
  pub strategy-stop : (x : Refusal) → number_of x ≡ field_fault 3 (word_fault (LLC ∷ NUL ∷ [])) s → number_of x ≡ kind_fault strategy s
  unfolding kind_fault
  strategy-stop x e = rw (← e) (sym (⊳-stop (number_of x) _ (refused x)))

  module _ (e : 0 ≡ field_fault 3 (word_fault (LLC ∷ NUL ∷ [])) s) where
    pub strategy-room : 3 ≤ length s
    strategy-room = field-enough 3 (word_fault (LLC ∷ NUL ∷ [])) s (sym e)

    pub strategy-go : (q : ℕ) → q ≡ field_fault 3 (count_fault 999) (take (length s - 3) (drop 3 s)) → q ≡ kind_fault strategy s
    unfolding kind_fault
    strategy-go q f = rw (part-drop s 3) at f ∙ rw (← e, ⊳-go 0 _ refl)

-- ---- the kind of a line

-- the code's line that the table answers, and its kind
module _ (i : ℕ) (h : i < 24) (line : CodeLine) (is : line ≡ code_no i) where
  pub kind-told : (k : Code) → line.kind ≡ k → (line_no i).kind ≡ kind_of k line.width
  kind-told k told = rw (← told, is) (kind-is i h)

  pub told-checksum : line.kind ≡ Checksum → line.width ≤ 12
  told-checksum e = rw is (checksum-small i h (rw is at e))
