-- Laws of the table of tags: a tag has one row, and a field that fits what is due is one of the rows that are due.
-- Assumes nothing.
use Prim.Native.Nat.{ℕ, ◌^◌}
use mathlib.Core.Path.{◌≡◌, refl, sym, ap, ap₂, ◌∙◌}
use mathlib.Core.Logic.{◌⊎◌, inl, inr}
use mathlib.Core.Bool.{Bool, true, false, cond, not, ◌&&◌, ◌||◌, true≢false, false≢true, and-false}
use mathlib.Core.List.{List, [], ◌∷◌, map}
use Rattle.theory.specs.Lists.{filter, some?, range}
use Rattle.fields.specs.declared.File.{File}
use Rattle.fields.specs.declared.File.TheVariants.{Sheet, Question, Register, Narrowed}
use Rattle.fields.specs.declared.Row.{Row}
use Rattle.fields.specs.declared.Due.{Due}
use Rattle.fields.specs.declared.Fit.{Fit}
use Rattle.fields.specs.declared.Fit.TheVariants as fit
use Rattle.fields.specs.Table.{rows, in_set, allowed, row_in, row_of}
use Rattle.fields.specs.Reading.{due_row?, due_rows, due_tag?, fitting, beyond?, tags_due}
use Rattle.fields.specs.Raw.{fit_number}
use Rattle.fields.specs.Contract.{fit_said}
use Rattle.fields.proofs.Bools.{and_left, and_right}
use borrow.Author.Tests.{eqb-true}
use native.Mathlib.Omega.{arith}
use lib.Dec.{eqb}
use lib.ListN.{length}

-- row i has bit i
pub own_bits : map (λ (r : Row). r.6) rows ≡ map (λ (i : ℕ). 2 ^ i) (range (length rows))
unfolding rows
own_bits = refl

-- ---- the row of a tag
abbrev tagged : ℕ → List Row → Bool
tagged t [] = false
tagged t (r ∷ rs) = eqb r.0 t || tagged t rs

-- no tag has two rows
abbrev single_rows : List Row → Bool
single_rows [] = true
single_rows (r ∷ rs) = not (tagged r.0 rs) && single_rows rs

-- a test h that only rows with the tag t pass, and those where k holds
module _ (t : ℕ) (g h k : Row → Bool) (other : (r : Row) → eqb r.0 t ≡ false → h r ≡ false) (own : (r : Row) → eqb r.0 t ≡ true → h r ≡ k r) where
  none_passes : (rs : List Row) → tagged t rs ≡ false → some? h (filter g rs) ≡ false
  none_passes [] e = refl
  none_passes (r ∷ rs) e = go (eqb r.0 t) (g r) refl e (none_passes rs)
    where
      go : (a b : Bool) → eqb r.0 t ≡ a → a || tagged t rs ≡ false → (tagged t rs ≡ false → some? h (filter g rs) ≡ false)
          → some? h (cond b (r ∷ filter g rs) (filter g rs)) ≡ false
      go true b q e ih = absurd (true≢false e)
      go false true q e ih = rw (other r q) (ih e)
      go false false q e ih = ih e

  -- where no tag has two rows, the row of t tells
  one_passes : (rs : List Row) → single_rows rs ≡ true → g (row_in [] t) ≡ false → k (row_in rs t) && g (row_in rs t) ≡ some? h (filter g rs)
  one_passes [] e n = rw n (and-false (k (row_in [] t)))
  one_passes (r ∷ rs) e n = go (eqb r.0 t) refl (one_passes rs (and_right (not (tagged r.0 rs)) (single_rows rs) e) n)
    where
      alone : (b : Bool) → tagged r.0 rs ≡ b → b ≡ false
      alone true z = absurd (true≢false (sym (and_left (not (tagged r.0 rs)) (single_rows rs) e) ∙ ap not z))
      alone false z = refl

      here : (a b : Bool) → h r ≡ b → some? h (filter g rs) ≡ false → b && a ≡ some? h (cond a (r ∷ filter g rs) (filter g rs))
      here true true p q = rw p
      here true false p q = rw (p, q)
      here false true p q = sym q
      here false false p q = sym q

      skip : (a : Bool) → h r ≡ false → some? h (filter g rs) ≡ some? h (cond a (r ∷ filter g rs) (filter g rs))
      skip true p = rw p
      skip false p = refl

      go : (b : Bool) → eqb r.0 t ≡ b → k (row_in rs t) && g (row_in rs t) ≡ some? h (filter g rs)
          → k (cond b r (row_in rs t)) && g (cond b r (row_in rs t)) ≡ some? h (cond (g r) (r ∷ filter g rs) (filter g rs))
      go true q ih = here (g r) (k r) (own r q) (none_passes rs (ap (λ (u : ℕ). tagged u rs) (sym (eqb-true r.0 t q)) ∙ alone (tagged r.0 rs) refl))
      go false q ih = ih ∙ skip (g r) (other r q)

-- the row that stands for none is not due
no_row : (d : Due) (t : ℕ) → due_row? d (row_in [] t) ≡ false
no_row d t = by_file d.file
  where
    by_file : (f : File) → (in_set d.rows (row_in [] t) && allowed (row_in [] t) f) ≡ false
    by_file Sheet = and-false (in_set d.rows (row_in [] t))
    by_file Question = and-false (in_set d.rows (row_in [] t))
    by_file Register = and-false (in_set d.rows (row_in [] t))
    by_file Narrowed = and-false (in_set d.rows (row_in [] t))

row_tag : (d : Due) (t : ℕ) → due_row? d (row_of t) ≡ due_tag? d t
unfolding row_of rows due_tag? due_rows
row_tag d t = one_passes t (due_row? d) (λ r. eqb r.0 t) (λ r. true) (λ r e. e) (λ r e. e) rows refl (no_row d t)

row_fits : (d : Due) (t n : ℕ) → eqb (row_of t).1 n && due_row? d (row_of t) ≡ fitting d t n
unfolding row_of rows fitting due_rows
row_fits d t n = one_passes t (due_row? d) (λ r. eqb r.0 t && eqb r.1 n) (λ r. eqb r.1 n) (λ r e. rw e) (λ r e. rw e) rows refl (no_row d t)

-- whether a tag is due, and with a length, by the row that it has
module _ (d : Due) (t : ℕ) {r : Row} {b : Bool} (e : r ≡ row_of t) (h : b ≡ due_row? d r) where
  pub tag_due : due_tag? d t ≡ b
  tag_due = sym (h ∙ ap (due_row? d) e ∙ row_tag d t)

  pub tag_fits : (n : ℕ) → fitting d t n ≡ eqb r.1 n && b
  tag_fits n = sym (ap₂ (λ (x : Row) (y : Bool). eqb x.1 n && y) e (h ∙ ap (due_row? d) e) ∙ row_fits d t n)

-- what a field is to what is due, by the row of its tag
pub by_row : (d : Due) (t n : ℕ) (r : Row) → r ≡ row_of t → fit_number d t n ≡ cond (due_row? d r) (cond (eqb r.1 n) 0 2) (cond d.closing 5 2)
by_row d t n r e =
    ap₂ (λ (x y : Bool). cond (d.closing && not x) 5 (cond y 0 2)) (tag_due d t e refl) (tag_fits d t e refl n)
    ∙ by_tests (due_row? d r) (eqb r.1 n) d.closing
  where
    by_tests : (a b c : Bool) → ◌≡◌ {A = ℕ} (cond (c && not a) 5 (cond (b && a) 0 2)) (cond a (cond b 0 2) (cond c 5 2))
    by_tests true true true = refl
    by_tests true true false = refl
    by_tests true false true = refl
    by_tests true false false = refl
    by_tests false true true = refl
    by_tests false true false = refl
    by_tests false false true = refl
    by_tests false false false = refl

-- ---- a field that fits
-- it is one of the rows: where one alone is due, these are its tag and its length
abbrev pub OneOf : List Row → ℕ → ℕ → Type 0
OneOf [] t n = ⊥
OneOf (r ∷ []) t n = (t ≡ r.0) × (n ≡ r.1)
OneOf (r ∷ (q ∷ rs)) t n = ((t ≡ r.0) × (n ≡ r.1)) ⊎ OneOf (q ∷ rs) t n

module _ (t n : ℕ) where
  same : (r : Row) → (eqb r.0 t && eqb r.1 n) ≡ true → (t ≡ r.0) × (n ≡ r.1)
  same r e = (sym (eqb-true r.0 t (and_left _ (eqb r.1 n) e)), sym (eqb-true r.1 n (and_right (eqb r.0 t) _ e)))

  among : (rs : List Row) → some? (λ r. eqb r.0 t && eqb r.1 n) rs ≡ true → OneOf rs t n
  among [] e = absurd (false≢true e)
  among (r ∷ []) e = go (eqb r.0 t && eqb r.1 n) refl e
    where
      go : (b : Bool) → (eqb r.0 t && eqb r.1 n) ≡ b → b || false ≡ true → (t ≡ r.0) × (n ≡ r.1)
      go true q e = same r q
      go false q e = absurd (false≢true e)
  among (r ∷ (x ∷ rs)) e = go (eqb r.0 t && eqb r.1 n) refl e (among (x ∷ rs))
    where
      go : (b : Bool) → (eqb r.0 t && eqb r.1 n) ≡ b → b || some? (λ r. eqb r.0 t && eqb r.1 n) (x ∷ rs) ≡ true
          → (some? (λ r. eqb r.0 t && eqb r.1 n) (x ∷ rs) ≡ true → OneOf (x ∷ rs) t n) → OneOf (r ∷ (x ∷ rs)) t n
      go true q e ih = inl (same r q)
      go false q e ih = inr (ih e)

  -- and its tag is due
  tagged_too : (rs : List Row) → some? (λ r. eqb r.0 t && eqb r.1 n) rs ≡ true → some? (λ r. eqb r.0 t) rs ≡ true
  tagged_too [] e = e
  tagged_too (r ∷ rs) e = go (eqb r.0 t) e (tagged_too rs)
    where
      go : (b : Bool) → (b && eqb r.1 n) || some? (λ r. eqb r.0 t && eqb r.1 n) rs ≡ true
          → (some? (λ r. eqb r.0 t && eqb r.1 n) rs ≡ true → some? (λ r. eqb r.0 t) rs ≡ true) → b || some? (λ r. eqb r.0 t) rs ≡ true
      go true e ih = refl
      go false e ih = ih e

one_of : (d : Due) (t n : ℕ) → fitting d t n ≡ true → OneOf (due_rows d) t n
unfolding fitting
one_of d t n e = among t n (due_rows d) e

pub fits_within : (d : Due) (t n : ℕ) → fitting d t n ≡ true → beyond? d t ≡ false
unfolding fitting due_tag?
fits_within d t n e = rw (tagged_too t n (due_rows d) e) (and-false d.closing)

-- what the code says of a tag and a length, in the definition's tests
abbrev pub Told : Bool → Bool → Fit → Type 0
Told a b fit.Fits = (a ≡ false) × (b ≡ true)
Told a b fit.Unexpected = (a ≡ false) × (b ≡ false)
Told a b fit.WrongEnd = a ≡ true

module _ (d : Due) (t n : ℕ) {x : Fit} (e : fit_said x ≡ fit_number d t n) where
  pub told : {y : Fit} → x ≡ y → Told (beyond? d t) (fitting d t n) y
  told {y} u = by_tests (beyond? d t) (fitting d t n) y (ap fit_said (sym u) ∙ e)
    where
      by_tests : (a b : Bool) (y : Fit) → fit_said y ≡ cond a 5 (cond b 0 2) → Told a b y
      by_tests true b fit.Fits e = absurd (omega arith)
      by_tests true b fit.Unexpected e = absurd (omega arith)
      by_tests true b fit.WrongEnd e = refl
      by_tests false true fit.Fits e = (refl, refl)
      by_tests false true fit.Unexpected e = absurd (omega arith)
      by_tests false true fit.WrongEnd e = absurd (omega arith)
      by_tests false false fit.Fits e = absurd (omega arith)
      by_tests false false fit.Unexpected e = (refl, refl)
      by_tests false false fit.WrongEnd e = absurd (omega arith)

  pub told_unfit : (x ≡ fit.Fits → ⊥) → fitting d t n ≡ false
  told_unfit h = by_said x refl h
    where
      unfit : (b : Bool) → fitting d t n ≡ b → beyond? d t ≡ true → b ≡ false
      unfit true f q = absurd (true≢false (sym q ∙ fits_within d t n f))
      unfit false f q = refl

      by_said : (y : Fit) → x ≡ y → (y ≡ fit.Fits → ⊥) → fitting d t n ≡ false
      by_said fit.Fits u h = absurd (h refl)
      by_said fit.Unexpected u h = (told u).1
      by_said fit.WrongEnd u h = unfit (fitting d t n) refl (told u)

  pub told_within : (x ≡ fit.WrongEnd → ⊥) → beyond? d t ≡ false
  told_within h = by_said x refl h
    where
      by_said : (y : Fit) → x ≡ y → (y ≡ fit.WrongEnd → ⊥) → beyond? d t ≡ false
      by_said fit.Fits u h = (told u).0
      by_said fit.Unexpected u h = (told u).0
      by_said fit.WrongEnd u h = absurd (h refl)

-- where the file is full nothing fits; and else the rows of the tags do, a list that computes where tags and file are known
pub due_one : (f : File) (ts : List ℕ) (c b : Bool) (t n : ℕ) → fitting (tags_due f ts c b) t n ≡ true → (b ≡ false) × OneOf (due_rows (tags_due f ts c false)) t n
unfolding fitting due_rows rows
due_one f ts c true t n e = absurd (false≢true e)
due_one f ts c false t n e = (refl, one_of (tags_due f ts c false) t n e)
