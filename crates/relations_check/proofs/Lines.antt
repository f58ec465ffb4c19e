-- The lines of a text, as an iterator yields them, and their verdicts in a list.
--     line-last line-before lines-few   the first line, and those behind it; how many there are at most
--     verdicts-comment verdicts-line verdicts-long   verdicts of one line more; how many don't depend on the rows
--     headed                 the text's first line is the heading line
--     numbered               where an item of a numbered list stands
--     verdicts-named verdicts-formed   the verdicts, by the lines that have the name, and by their forms
--     named-at formed-at named-long forms-long   one of them, and how many there are
--     form-other form-named named-form form-never   a line with the name, and one without
--     named-of front-of      a line among those that have the name, an entry in front of a list
--     Written written-..     a list in which the first verdicts are written
-- Assumes nothing.
use Prim.Native.Nat.{ℕ, suc, ◌+◌, ◌≤◌, ◌<◌}
use mathlib.Core.Bool.{Bool, true, false}
use mathlib.Core.Path.{◌≡◌, refl, sym, ap, ◌∙◌}
use mathlib.Core.List.{List, [], ◌∷◌, ◌++◌, map}
use native.Mathlib.Nat.{zero-add}
use native.Mathlib.Omega.{arith}
use lib.Dec.{eqb}
use lib.ListN.{length, take, drop, get_or, set, length-drop, length-append, length-take, take-append-drop, get_or-append}
use lib.Seq.{take_all, take_at, take-suc, take-suc-set, drop_at, drop-set-lt, get_or-drop, drop-drop}
use denote.Ref.{Bor}
use Rattle.std.specs.Prelude.{Option, None, Some}
use Rattle.std.specs.Option.{MatchOption}
use Rattle.std.specs.List.{filter, filter_map, cons_option, enumerate_from}
use Rattle.std.proofs.lemmas.List.{get_or-map, length-map}
use Rattle.std.proofs.lemmas.List.Elements.{All-get_or, filter_passes}
use Rattle.std.proofs.lemmas.List.FromFn.{length-enumerate_from, get_or-enumerate_from}
use Rattle.metafile.specs.Bytes.{is_zero, same, find}
use Rattle.metafile.specs.Lines.{first_of}
use Rattle.metafile.specs.Relations.{divided, onto_first, split_on, heading, well_formed, verdict_by, verdicts_by}
use Rattle.laws.proofs.First.{test, untrue}
use Rattle.laws.proofs.Split.{split_at, split-end}
use Rattle.relation_line.specs.Form.{has_name, form_of, verdict_number, first_verdict, form_number}
use Rattle.relation_line.specs.declared.verdicts.Verdict.{Verdict}
use Rattle.relation_line.specs.declared.verdicts.Verdict.TheVariants.{Declared, Undeclared, Malformed}
use Rattle.relation_line.proofs.Forms.{verdict-form}
use Rattle.relations_check.specs.Judged.{never}

-- ---- lines

-- the first line ends at e
module _ (text : List ℕ) (e : ℕ) (is : e ≡ find (10 ∷ []) text) where
  pub line-last : length text ≤ e → split_on 10 text ≡ take e text ∷ []
  line-last h =
      let far : length text ≤ find (10 ∷ []) text = omega arith in
      split-end 10 text far ∙ ap (λ (l : List ℕ). l ∷ []) (sym (take_all e text h))

  pub line-before : e < length text → split_on 10 text ≡ take e text ∷ split_on 10 (drop (e + 1) text)
  line-before h =
      let near : find (10 ∷ []) text < length text = omega arith in
      let next : suc (find (10 ∷ []) text) ≡ e + 1 = omega arith in
      rw (next, ← is) at (split_at 10 text near)

-- a text headed by its first line
pub headed : (ls rest : List (List ℕ)) (first : Option (Bor (List ℕ))) (b : Bool) (P : Bor (List ℕ) → Type 0)
    → MatchOption first ((ls ≡ []) × (rest ≡ [])) (λ l. ls ≡ l.now ∷ rest) → MatchOption first (b ≡ false) P
    → ((l : Bor (List ℕ)) → P l → b ≡ same l.now heading) → b ≡ same (first_of ls) heading
unfolding first_of heading divided same
headed ls rest None b P e h by = rw e.0 h
headed ls rest (Some l) b P e h by = rw e (by l h)

onto-long : (x n : ℕ) (ls : List (List ℕ)) → length ls ≤ n + 1 → length (onto_first x ls) ≤ n + 1
unfolding onto_first
onto-long x n [] h = omega arith
onto-long x n (l ∷ ls) h = h

pub lines-few : (d : ℕ) (text : List ℕ) → length (split_on d text) ≤ length text + 1
unfolding split_on
lines-few d [] = omega arith
lines-few d (x ∷ xs) =
    let h = lines-few d xs in
    let more = onto-long x (length xs) (split_on d xs) h in
    test (eqb x d) (λ q. rw q (omega (arith, h))) (λ q. rw q (omega (arith, more)))

-- where the item of a numbered list stands
pub numbered : {X : Type 0} (xs : List X) (k i : ℕ) (x : X) → (k < length (enumerate_from 0 xs)) × ((i, x) ≡ get_or (enumerate_from 0 xs) k (i, x))
    → (k < length xs) × (i ≡ k) × (x ≡ get_or xs k x)
numbered xs k i x h =
    let less : k < length xs = omega (arith, h.0, length-enumerate_from 0 xs) in
    let is = h.1 ∙ get_or-enumerate_from 0 xs k (i, x) less in
    (less, ap (λ p. p.0) is ∙ zero-add k, ap (λ p. p.1) is)

-- ---- verdicts

module _ (test' : List (List ℕ) → Bool) (l : List ℕ) where
  pub named_some : has_name l ≡ true → is_zero (verdict_by test' l) ≡ false
  unfolding verdict_by is_zero
  named_some e =
      rw e
      (test (well_formed (split_on 9 l))
      (λ q. rw q (test (test' (split_on 9 l)) (λ y. rw y) (λ y. rw y)))
      (λ q. rw q))

  pub other_none : has_name l ≡ false → verdict_by test' l ≡ 0
  unfolding verdict_by
  other_none e = rw e

  module _ (ls : List (List ℕ)) where
    pub verdicts-comment : has_name l ≡ false → verdicts_by test' (l ∷ ls) ≡ verdicts_by test' ls
    unfolding verdicts_by is_zero
    verdicts-comment e = rw (other_none e)

    pub verdicts-line : has_name l ≡ true → verdicts_by test' (l ∷ ls) ≡ verdict_by test' l ∷ verdicts_by test' ls
    unfolding verdicts_by
    verdicts-line e = rw (named_some e)

-- how many there are is the same by any rows
pub verdicts-long : (test' : List (List ℕ) → Bool) (ls : List (List ℕ)) → length (verdicts_by test' ls) ≡ length (verdicts_by never ls)
verdicts-long test' [] = unfold verdicts_by in refl
verdicts-long test' (l ∷ ls) =
    test (has_name l)
    (λ e. rw (verdicts-line test' l ls e, verdicts-line never l ls e) (ap suc (verdicts-long test' ls)))
    (λ e. rw (verdicts-comment test' l ls e, verdicts-comment never l ls e) (verdicts-long test' ls))

-- a line's form says whether it has the name
module _ (l : List ℕ) where
  pub form-other : form_of l ≡ 0 → has_name l ≡ false
  unfolding form_of is_zero
  form-other e = test (has_name l) (λ q. untrue (sym (named_some (λ (fs : List (List ℕ)). false) l q) ∙ ap is_zero e)) (λ q. q)

  pub form-named : (form_of l ≡ 0 → ⊥) → has_name l ≡ true
  unfolding form_of
  form-named e = test (has_name l) (λ q. q) (λ q. absurd (e (other_none (λ (fs : List (List ℕ)). false) l q)))

  pub named-form : has_name l ≡ true → form_of l ≡ 0 → ⊥
  named-form q e = untrue (sym (form-other e) ∙ q)

pub form-never : (l : List ℕ) → form_of l ≡ verdict_by never l
unfolding form_of never
form-never l = refl

-- the verdicts, by the lines that have the name
pub verdicts-named : (test' : List (List ℕ) → Bool) (ls : List (List ℕ)) → verdicts_by test' ls ≡ map (verdict_by test') (filter has_name ls)
verdicts-named test' [] = unfold verdicts_by in refl
verdicts-named test' (l ∷ ls) =
    test (has_name l)
    (λ e. rw e (verdicts-line test' l ls e ∙ ap (λ (vs : List ℕ). verdict_by test' l ∷ vs) (verdicts-named test' ls)))
    (λ e. rw e (verdicts-comment test' l ls e ∙ verdicts-named test' ls))

-- each verdict has a number that isn't 0
number-some : (v : Verdict) → verdict_number v ≡ 0 → ⊥
number-some Declared e = omega arith
number-some Undeclared e = omega arith
number-some Malformed e = omega arith

formed-line : (l : List ℕ) (ls : List (List ℕ)) (form : Option Verdict) → first_verdict l ≡ form
    → verdicts_by never (l ∷ ls) ≡ map verdict_number (cons_option form []) ++ verdicts_by never ls
formed-line l ls None e =
    verdicts-comment never l ls (form-other l (sym (verdict-form l) ∙ ap form_number e))
formed-line l ls (Some v) e =
    let number : form_of l ≡ verdict_number v = sym (verdict-form l) ∙ ap form_number e in
    verdicts-line never l ls (form-named l (λ z. number-some v (sym number ∙ z)))
    ∙ ap (λ (n : ℕ). n ∷ verdicts_by never ls) (sym (form-never l) ∙ number)

formed-cons : (form : Option Verdict) (vs : List ℕ) (forms : List Verdict) → vs ≡ map verdict_number forms
    → map verdict_number (cons_option form []) ++ vs ≡ map verdict_number (cons_option form forms)
formed-cons None vs forms e = e
formed-cons (Some v) vs forms e = ap (λ (l : List ℕ). verdict_number v ∷ l) e

-- the verdicts, by the forms of the lines
pub verdicts-formed : (ls : List (List ℕ)) → verdicts_by never ls ≡ map verdict_number (filter_map first_verdict ls)
verdicts-formed [] = unfold verdicts_by in refl
verdicts-formed (l ∷ ls) = formed-line l ls (first_verdict l) refl ∙ formed-cons (first_verdict l) _ _ (verdicts-formed ls)

-- the verdict of a line among those that have the name, and of one among the forms
pub named-at : (test' : List (List ℕ) → Bool) (ls : List (List ℕ)) (k : ℕ) (l : List ℕ) → k < length (filter has_name ls)
    → l ≡ get_or (filter has_name ls) k l → verdict_by test' l ≡ get_or (verdicts_by test' ls) k 0
named-at test' ls k l h e =
    rw (verdicts-named test' ls, get_or-map (verdict_by test') (filter has_name ls) k l 0 h) (ap (verdict_by test') e)

pub formed-at : (ls : List (List ℕ)) (k : ℕ) (v : Verdict) → k < length (filter_map first_verdict ls)
    → v ≡ get_or (filter_map first_verdict ls) k v → verdict_number v ≡ get_or (verdicts_by never ls) k 0
formed-at ls k v h e =
    rw (verdicts-formed ls, get_or-map verdict_number (filter_map first_verdict ls) k v 0 h) (ap verdict_number e)

pub forms-long : (ls : List (List ℕ)) → length (filter_map first_verdict ls) ≡ length (verdicts_by never ls)
forms-long ls = sym (ap length (verdicts-formed ls) ∙ length-map (filter_map first_verdict ls) verdict_number)

pub named-long : (test' : List (List ℕ) → Bool) (ls : List (List ℕ)) → length (filter has_name ls) ≡ length (verdicts_by test' ls)
named-long test' ls = sym (ap length (verdicts-named test' ls) ∙ length-map (filter has_name ls) (verdict_by test'))

-- a line among those that have the name has it
pub named-of : (ls : List (List ℕ)) (k : ℕ) (l : List ℕ) → k < length (filter has_name ls)
    → l ≡ get_or (filter has_name ls) k l → has_name l ≡ true
named-of ls k l h e = ap has_name e ∙ All-get_or (λ (x : List ℕ). has_name x ≡ true) (filter has_name ls) k l h (filter_passes has_name ls)

-- an entry in front of a list
pub front-of : (list front rest : List ℕ) (k : ℕ) → list ≡ front ++ rest → k < length front → get_or list k 0 ≡ get_or front k 0
front-of list front rest k e h = rw e (get_or-append front rest 0 k h)

-- ---- a list in which the first k of these are written, and which has what it had behind them

pub record Written (all old now : List ℕ) (k : ℕ) : Type 0 where
  pub is : now ≡ take k all ++ drop k old

pub written-none : (all list : List ℕ) → Written all list list 0
written-none all list = record { is = refl }

module _ {all old now : List ℕ} {k : ℕ} (w : Written all old now k) (h : k ≤ length all) (room : length all ≤ length old) where
  front-long : length (take k all) ≡ k
  front-long = omega (arith, length-take k all)

  pub written-long : length now ≡ length old
  written-long = rw w.is (simp (length-append, length-drop) (omega (arith, front-long)))

  written-front : take k now ≡ take k all
  written-front = rw w.is (take_at (take k all) (drop k old) k front-long)

  written-rest : drop k now ≡ drop k old
  written-rest = rw w.is (drop_at (take k all) (drop k old) k front-long)

  pub written-kept : get_or now k 0 ≡ get_or old k 0
  written-kept =
      let here : k + 0 ≡ k = omega arith in
      rw here at (sym (get_or-drop k now 0 0) ∙ ap (λ (l : List ℕ). get_or l 0 0) written-rest ∙ get_or-drop k old 0 0)

  pub written-next : k < length all → (v : ℕ) → v ≡ get_or all k 0 → Written all old (set now k v) (k + 1)
  written-next less v e =
      let next : k + 1 ≡ suc k = omega arith in
      let inside : k < length now = omega (arith, written-long) in
      let rest : drop (k + 1) now ≡ drop (k + 1) old = sym (drop-drop 1 k now) ∙ ap (drop 1) written-rest ∙ drop-drop 1 k old in
      record {
        is =
            sym (take-append-drop (k + 1) (set now k v))
            ∙ rw (
              next,
              take-suc-set now k v inside,
              written-front,
              e,
              take-suc all k 0 less,
            )
            (ap (λ (l : List ℕ). (take k all ++ get_or all k 0 ∷ []) ++ l)
            (drop-set-lt (suc k) now k (get_or all k 0) (omega arith) ∙ rw next at rest));
      }

  pub written-end : k ≡ length all → now ≡ all ++ drop (length all) old
  written-end e = w.is ∙ rw e (ap (λ (l : List ℕ). l ++ drop (length all) old) (take_all (length all) all (omega arith)))
