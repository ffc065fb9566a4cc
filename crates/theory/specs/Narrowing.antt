-- Narrowing a question on a sheet: a refusal with its place, or the members.
-- SPECIFICATION, Limits of narrowing: 11, 12, 13 and their order; Limits: what a file of members can hold.
-- Assumes nothing.
use Rattle.std.specs.Prelude.{◌⊎◌, Bool, cond, ℕ, zero, suc, ◌≤◌, ◌<◌, T, leb, length}
use mathlib.Core.List.{List, Memᴰ as In, [], ◌∷◌}
use Rattle.std.proofs.Math.Option.{Option, none, some}
use Rattle.theory.specs.Lists.{every?, First, NoRepeat}
use Rattle.theory.specs.Result.{Result, got, refused}
use Rattle.theory.specs.KindSet.{IsSet}
use Rattle.theory.specs.PathExpr.{below?, Via, any, through, Symbol, s_step, s_join, s_op, s_closure, PathExpr, step, join, op, closure, postfix, parts, size, links?}
use Rattle.theory.specs.Postfix.{path_of, ended}
use Rattle.theory.specs.Sheet.{Sheet}
use Rattle.theory.specs.Derivation.{Derives}
use Rattle.theory.specs.Inference.{Triple, triples}
use Rattle.theory.specs.Merging.{Member, members, Ascending}

-- what narrowing gives: the members, or a refusal
abbrev pub Narrowing : Type 0
Narrowing = Result (List Member)

-- ---- a symbol's refusal, or 0
abbrev pub link_fault : ℕ → Symbol → ℕ
link_fault E (s_step d l) = cond (below? l E) 0 11
link_fault E (s_join v) = 0
link_fault E (s_op o) = 0
link_fault E s_closure = 0

-- ---- a part's refusal, or 0: 13 before 12
abbrev pub short? : List Triple → Bool
short? ts = every? (λ t. leb (size t.path) 48) ts

abbrev pub few? : List Triple → Bool
few? ts = leb (length ts) 128

unfoldable pub part_fault : Sheet → PathExpr → ℕ
part_fault S p = let ts = triples S p in cond (short? ts) (cond (few? ts) 0 12) 13

-- ---- the first fault, with its place counted from i; else what follows
abbrev pub unless : ℕ → ℕ → Narrowing → Narrowing
unless zero i o = o
unless (suc n) i o = refused (suc n) i

abbrev pub refuse : {A : Type 0} → (A → ℕ) → ℕ → List A → Narrowing → Narrowing
refuse fault i [] o = o
refuse fault i (x ∷ xs) o = let r = refuse fault (suc i) xs o in unless (fault x) i r

-- 11 for the first link of E or more; then the first symbol with 12 or 13; else the members
unfoldable pub narrow : Sheet → PathExpr → Narrowing
narrow S q = refuse (link_fault S.link_names) 0 (postfix q) (refuse (part_fault S) 0 (parts q) (got (members (triples S q))))

-- ---- the same of a question's symbols: symbol i ends part i
-- 12 or 13, or the members (what is no path its reader has refused)
abbrev pub parted_as : Sheet → List Symbol → Option PathExpr → Narrowing
parted_as S ss none = refused 6 (length ss)
parted_as S ss (some q) = refuse (part_fault S) 0 (ended ss []) (got (members (triples S q)))

unfoldable pub parted : Sheet → List Symbol → Narrowing
parted S ss = parted_as S ss (path_of ss)

-- with 11 before them
unfoldable pub narrow_symbols : Sheet → List Symbol → Narrowing
narrow_symbols S ss = refuse (link_fault S.link_names) 0 ss (parted S ss)

-- ---- 11, 12 and 13 in terms of the rules alone
-- a step whose link the sheet does not name
abbrev pub Unnamed : ℕ → Symbol → Type 0
Unnamed E (s_step d l) = ¬ T (below? l E)
Unnamed E (s_join v) = ⊥
Unnamed E (s_op o) = ⊥
Unnamed E s_closure = ⊥

abbrev pub Named : Sheet → PathExpr → Type 0
Named S q = (s : Symbol) → In s (postfix q) → ¬ Unnamed S.link_names s

-- "a part has a triple whose path has over 48 symbols"
abbrev pub TooLong : Sheet → PathExpr → Type 0
TooLong S o = (a : ℕ) × (p : PathExpr) × (b : ℕ) × Derives S o a p b × (48 < size p)

-- "a part has over 128 distinct triples"
pub record TooMany (S : Sheet) (o : PathExpr) : Type 0 where
  pub list : List Triple
  pub distinct : NoRepeat list
  pub derived : (t : Triple) → In t list → Derives S o t.from t.path t.to
  pub many : 128 < length list

abbrev pub Faulty : Sheet → PathExpr → Type 0
Faulty S o = TooLong S o ⊎ TooMany S o

-- The outcome by the rules: the first link that the sheet does not name; else the first part that is faulty, 13 if it is too long; else the members.
pub data Judged (S : Sheet) (q : PathExpr) : Narrowing → Type 0 where
  unnamed : {i : ℕ} {s : Symbol} → First (Unnamed S.link_names) (postfix q) i s → Judged S q (refused 11 i)
  too_long : {i : ℕ} {p : PathExpr} → Named S q → First (Faulty S) (parts q) i p → TooLong S p → Judged S q (refused 13 i)
  too_many : {i : ℕ} {p : PathExpr} → Named S q → First (Faulty S) (parts q) i p → ¬ TooLong S p → Judged S q (refused 12 i)
  sound : Named S q → ((p : PathExpr) → In p (parts q) → ¬ Faulty S p) → Judged S q (got (members (triples S q)))

-- ---- what a file of members can hold
abbrev pub ViaFits : Via → Type 0
ViaFits any = Unit {0}
ViaFits (through m) = IsSet m

-- each join set is a kind set
abbrev pub SetsFit : PathExpr → Type 0
SetsFit (step d l) = Unit {0}
SetsFit (join v p q) = ViaFits v × SetsFit p × SetsFit q
SetsFit (op o p q) = SetsFit p × SetsFit q
SetsFit (closure p) = SetsFit p

pub record MemberFits (m : Member) : Type 0 where
  pub some_symbol : 1 ≤ size m.path
  pub symbols : size m.path ≤ 48
  pub links : T (links? 64 m.path)
  pub sets : SetsFit m.path
  pub from_set : IsSet m.from
  pub to_set : IsSet m.to

pub record Fits (ms : List Member) : Type 0 where
  pub count : length ms ≤ 128
  pub ascend : Ascending ms
  pub each : (m : Member) → In m ms → MemberFits m
