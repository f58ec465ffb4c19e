-- What the functions do to the marks (specs/Graph): a law for each place of the code, over lists and numbers.
--     goes-there goes-not                          the byte that the table has for a row and another
--     on-circle visits list-given row_done         `standing`: by the row's mark; before its list, and behind it
--     list-next standing-given list-more           `listed`: a row that isn't asked, before a row is asked, behind it
--     begun reached                                `reach`: before `standing` is asked, and behind it
-- A row becomes done when all that it goes to are. They are closed under steps without it, so it doesn't reach itself.
-- Assumes nothing.
use Rattle.std.proofs.Common.{ℕ, zero, suc, ◌+◌, ◌*◌, ◌≤◌, ◌<◌, ◌≡◌, Bool, true, false, List, [], ◌∷◌, length, set, replicate, refl, sym, ap, ◌∙◌, arith, length-set, get_or, eqb, eqb-true, get_or-set_same, get_or-set_other, below_more}
use Rattle.std.proofs.lemmas.List.{get_or-replicate}
use Rattle.std.proofs.lemmas.Bool.{eqb-false}
use Rattle.metafile.specs.Bytes.{non_zero}
use Rattle.metafile.specs.Closure.{by_way, within, circular_from}
use mathlib.Core.Bool.{not}
use Rattle.laws.proofs.First.{test, untrue, is_zero-is, is_zero-not}
use Rattle.laws.proofs.Closure.{way-inside, within-own, within-way, within-cases, way-from, way-to, circle-in, circle-out}
use Rattle.graph.specs.declared.Mark.{Mark}
use Rattle.graph.specs.declared.Mark.TheVariants.{Unvisited, OnPath, Done}
use Rattle.graph.specs.Graph.{goes, mark, is_done, unvisited, Sound, Grown, StandingGiven, ListGiven, RowDone, ListDone, Reached}

-- ---- the table

pub goes-there : (t : List ℕ) (a b : ℕ) → (get_or t (a * 64 + b) 0 ≡ 0 → ⊥) → goes t a b ≡ true
unfolding goes non_zero
goes-there t a b ne = ap not (is_zero-not (get_or t (a * 64 + b) 0) ne)

pub goes-not : (t : List ℕ) (a b : ℕ) → get_or t (a * 64 + b) 0 ≡ 0 → goes t a b ≡ false
unfolding goes non_zero
goes-not t a b e = ap not (is_zero-is (get_or t (a * 64 + b) 0) e)

-- ---- a mark is written

-- one fewer is unvisited
visited : (m : List Mark) (i : ℕ) → i < length m → mark m i ≡ Unvisited → unvisited (set m i OnPath) + 1 ≡ unvisited m
unfolding unvisited
visited [] i h e = absurd (omega arith)
visited (Unvisited ∷ m) zero h e = omega arith
visited (OnPath ∷ m) zero h e = cc
visited (Done ∷ m) zero h e = cc
visited (Unvisited ∷ m) (suc i) h e = omega (arith, visited m i (omega arith) e)
visited (OnPath ∷ m) (suc i) h e = visited m i (omega arith) e
visited (Done ∷ m) (suc i) h e = visited m i (omega arith) e

finished : (m : List Mark) (i : ℕ) → unvisited (set m i Done) ≤ unvisited m
unfolding unvisited
finished [] i = omega arith
finished (Unvisited ∷ m) zero = omega arith
finished (OnPath ∷ m) zero = omega arith
finished (Done ∷ m) zero = omega arith
finished (Unvisited ∷ m) (suc i) = omega (arith, finished m i)
finished (OnPath ∷ m) (suc i) = finished m i
finished (Done ∷ m) (suc i) = finished m i

done-or : {A : Type 0} (x : Mark) → (x ≡ Done → A) → ((x ≡ Done → ⊥) → A) → A
done-or Unvisited f g = g (λ e. cc)
done-or OnPath f g = g (λ e. cc)
done-or Done f g = f refl

-- a mark after v is written at i: v, or what was there
stored : {A : Type 0} (m : List Mark) (i a : ℕ) (v x : Mark) → i < length m → mark (set m i v) a ≡ x
    → (a ≡ i → v ≡ x → A) → ((a ≡ i → ⊥) → mark m a ≡ x → A) → A
stored m i a v x h e f g =
    test (eqb a i)
    (λ q. let s = eqb-true a i q in f s (sym (get_or-set_same m i v Unvisited h) ∙ rw s at e))
    (λ q. let ne = eqb-false a i q in g ne (sym (get_or-set_other m i a v Unvisited ne) ∙ e))

kept : (m : List Mark) (i a : ℕ) (v x : Mark) → (a ≡ i → ⊥) → mark m a ≡ x → mark (set m i v) a ≡ x
kept m i a v x ne e = get_or-set_other m i a v Unvisited ne ∙ e

-- a row that has another mark is another row
apart : (m : List Mark) (i a : ℕ) (x : Mark) → mark m a ≡ x → (mark m i ≡ x → ⊥) → a ≡ i → ⊥
apart m i a x e ne s = ne (rw s at e)

-- a row that isn't done may be marked; as done, where all that it goes to are
sound-set : {t : List ℕ} {n : ℕ} {m : List Mark} (row : ℕ) (v : Mark) → Sound t n m → n ≤ 64 → row < n → (mark m row ≡ Done → ⊥)
    → (v ≡ Done → (b : ℕ) → b < n → goes t row b ≡ true → mark m b ≡ Done) → Sound t n (set m row v)
sound-set {t} {n} {m} row v s few inside ne all =
    let at : row < length m = omega (arith, s.long) in
    let still : (b : ℕ) → mark m b ≡ Done → mark (set m row v) b ≡ Done = λ b e. kept m row b v Done (apart m row b Done e ne) e in
    record {
      long = length-set m row v ∙ s.long;
      closed = λ a b h k e g.
          stored m row a v Done at e
          (λ own two. still b (all two b k (rw own at g)))
          (λ _ d. still b (s.closed a b h k d g));
      acyclic = λ a h e.
          stored m row a v Done at e
          (λ own two.
          rw own
          (test (by_way (goes t) n row row)
          (λ w. absurd (ne (way-inside (goes t) (λ x. mark m x ≡ Done) n s.closed row row (all two) inside w)))
          (λ q. q)))
          (λ _ d. s.acyclic a h d);
    }

-- ---- Grown

-- first from a row, then from one that it goes to
grown-on : (t : List ℕ) (n row b : ℕ) (m m' m'' : List Mark) → b < n → goes t row b ≡ true
    → Grown t n row m m' → Grown t n b m' m'' → Grown t n row m m''
grown-on t n row b m m' m'' h s g k =
    record {
      path-kept = λ a e. k.path-kept a (g.path-kept a e);
      path-only = λ a e. g.path-only a (k.path-only a e);
      done-kept = λ a e. k.done-kept a (g.done-kept a e);
      done-from = λ a l ne e.
          done-or (mark m' a)
          (λ d. g.done-from a l ne d)
          (λ o.
          within-way (goes t) n row a
          (way-from (goes t) n row b a h s (k.done-from a l o e)));
      fewer = omega (arith, g.fewer, k.fewer);
    }

-- ---- `standing`

module _ {t : List ℕ} {n row : ℕ} {m : List Mark} (s : StandingGiven t n row m) where
  -- the path comes back to the row
  pub on-circle : mark m row ≡ OnPath → circular_from (goes t) n row ≡ true
  on-circle e =
      let inside = s.given.inside in
      circle-in (goes t) n row row inside (within-own (goes t) n row row refl) (s.path row inside e)

  module _ (new : mark m row ≡ Unvisited) where
    at : row < length m
    at = omega (arith, s.given.inside, s.given.rows, s.given.sound.long)

    pub visits : unvisited (set m row OnPath) < unvisited m
    visits = omega (arith, visited m row at new)

    pub list-given : ListGiven t n row (set m row OnPath)
    list-given =
        let g = s.given in
        record {
          given = record {
            table = g.table;
            rows = g.rows;
            inside = g.inside;
            sound = sound-set row OnPath g.sound g.rows g.inside (λ e. cc) (λ e. cc);
          };
          own = get_or-set_same m row OnPath Unvisited at;
          path = λ p h e.
              stored m row p OnPath OnPath at e
              (λ own _. within-own (goes t) n p row (sym own))
              (λ _ d. within-way (goes t) n p row (s.path p h d));
        }

    pub row_done : {m' : List Mark} → ListDone t n row n (set m row OnPath) m' → RowDone t n row m (set m' row Done)
    row_done {m'} l =
        let g = l.grown in
        let own : mark m' row ≡ OnPath = g.path-kept row list-given.own in
        let at' : row < length m' = omega (arith, s.given.inside, s.given.rows, l.sound.long) in
        record {
          sound = sound-set row Done l.sound s.given.rows s.given.inside (λ e. cc) (λ _. l.done);
          grown = record {
            path-kept = λ a e.
                let ne = apart m row a OnPath e (λ q. cc) in
                kept m' row a Done OnPath ne (g.path-kept a (kept m row a OnPath OnPath ne e));
            path-only = λ a e.
                stored m' row a Done OnPath at' e
                (λ _ q. cc)
                (λ ne d. stored m row a OnPath OnPath at (g.path-only a d) (λ q _. absurd (ne q)) (λ _ o. o));
            done-kept = λ a e.
                let d = g.done-kept a (kept m row a OnPath Done (apart m row a Done e (λ q. cc)) e) in
                kept m' row a Done Done (apart m' row a Done d (λ q. cc)) d;
            done-from = λ a h ne e.
                stored m' row a Done Done at' e
                (λ q _. within-own (goes t) n row a q)
                (λ _ d. g.done-from a h (λ o. stored m row a OnPath Done at o (λ _ q. cc) (λ _ o'. ne o')) d);
            fewer = omega (arith, finished m' row, g.fewer, visits);
          };
          done = get_or-set_same m' row Done Unvisited at';
        }

-- ---- `listed`

module _ {t : List ℕ} {n row : ℕ} {m : List Mark} (s : ListGiven t n row m) {b : ℕ} {m' : List Mark} (l : ListDone t n row b m m') where
  -- the row doesn't go to row b
  pub list-next : goes t row b ≡ false → ListDone t n row (b + 1) m m'
  list-next f =
      record {
        sound = l.sound;
        grown = l.grown;
        done = below_more (λ a. goes t row a ≡ true → mark m' a ≡ Done) b l.done (λ g. untrue (sym f ∙ g));
      }

  module _ (h : b < n) (g : goes t row b ≡ true) where
    pub standing-given : StandingGiven t n b m'
    standing-given =
        record {
          given = record { table = s.given.table; rows = s.given.rows; inside = h; sound = l.sound };
          path = λ p k e. way-to (goes t) n p row b s.given.inside (s.path p k (l.grown.path-only p e)) g;
        }

    pub list-more : {m'' : List Mark} → RowDone t n b m' m'' → ListDone t n row (b + 1) m m''
    list-more {m''} d =
        record {
          sound = d.sound;
          grown = grown-on t n row b m m' m'' h g l.grown d.grown;
          done = below_more (λ a. goes t row a ≡ true → mark m'' a ≡ Done) b
              (λ a k go. d.grown.done-kept a (l.done a k go))
              (λ _. d.done);
        }

-- ---- `reach`

blank : (a : ℕ) → a < 64 → mark (replicate 64 Unvisited) a ≡ Unvisited
blank a h = get_or-replicate 64 a Unvisited Unvisited h

pub begun : (t : List ℕ) (n row : ℕ) → length t ≡ 4096 → n ≤ 64 → row < n → StandingGiven t n row (replicate 64 Unvisited)
begun t n row wide few inside =
    record {
      given = record {
        table = wide;
        rows = few;
        inside = inside;
        sound = record {
          long = refl;
          closed = λ a b h k e g. let new = blank a (omega arith) in cc;
          acyclic = λ a h e. let new = blank a (omega arith) in cc;
        };
      };
      path = λ p h e. let new = blank p (omega arith) in cc;
    }

module _ {t : List ℕ} {n row : ℕ} {m : List Mark} (few : n ≤ 64) (inside : row < n) (d : RowDone t n row (replicate 64 Unvisited) m) where
  done-within : (a : ℕ) → a < n → within (goes t) n row a ≡ true → mark m a ≡ Done
  done-within a h w =
      within-cases (goes t) n row a w
      (λ e. rw e d.done)
      (λ v.
      way-inside (goes t) (λ x. mark m x ≡ Done) n d.sound.closed row a
      (λ b k g. d.sound.closed row b inside k d.done g)
      h v)

  within-done : (a : ℕ) → a < n → mark m a ≡ Done → within (goes t) n row a ≡ true
  within-done a h e = d.grown.done-from a h (λ q. let new = blank a (omega arith) in cc) e

  none-circular : circular_from (goes t) n row ≡ false
  none-circular =
      test (circular_from (goes t) n row)
      (λ e.
      circle-out (goes t) n row e
      (λ i h w c. untrue (sym (d.sound.acyclic i h (done-within i h w)) ∙ c)))
      (λ q. q)

  not_done : (x : Mark) → (x ≡ Done → ⊥) → is_done x ≡ false
  unfolding is_done
  not_done Unvisited f = refl
  not_done OnPath f = refl
  not_done Done f = absurd (f refl)

  pub reached : Reached t n row m
  unfolding is_done
  reached =
      record {
        acyclic = none-circular;
        marked = λ a h.
            done-or (mark m a)
            (λ e. rw e (sym (within-done a h e)))
            (λ o.
            not_done (mark m a) o ∙ sym
            (test (within (goes t) n row a)
            (λ w. absurd (o (done-within a h w)))
            (λ f. f)));
      }
