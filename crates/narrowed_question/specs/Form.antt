-- The narrowed question's file: 41 and, for each member, 42 and its symbols.
-- SPECIFICATION, Narrowed files, Order of members, Refused narrowed files.
-- Assumes nothing.
use Rattle.std.specs.Prelude.{false, cond, ◌&&◌, List, [], ◌∷◌, ◌++◌, map, ℕ, ◌-◌, leb, eqb, get_or}
use Rattle.theory.specs.PathExpr.{before?}
use Rattle.fields.specs.declared.File.TheVariants as file
use Rattle.fields.specs.declared.Due.{Due}
use Rattle.symbols.specs.declared.Stack.{Stack}
use Rattle.theory.specs.Result.{Result, got, refused, onward}
use Rattle.fields.specs.Reading.{tags_due, word, eight, Form, Format, form}
use Rattle.narrowed_question.specs.declared.Standing.{Standing}
use Rattle.narrowed_question.specs.declared.Standing.TheVariants.{Head, Between, Within}
use Rattle.symbols.specs.Symbols.{Numbered, order_code, symbol_in, arity, push, due_symbols}

-- a member as its file has it: from set, to set, and its symbols in postfix order
pub record Flat : Type 0 where
  pub from : ℕ
  pub to : ℕ
  pub symbols : List Numbered

abbrev pub flat : ℕ → ℕ → List Numbered → Flat
flat f t xs = record { from = f; to = t; symbols = xs }

-- the numbers, the sets and the codes of symbols
abbrev pub numbers : List Numbered → List ℕ
numbers xs = map (λ x. x.number) xs

abbrev pub set_numbers : List Numbered → List ℕ
set_numbers xs = map (λ x. x.set) xs

abbrev pub order_codes : List Numbered → List ℕ
order_codes xs = map (λ x. order_code x.number) xs

-- what a field hands over: nothing; a member's number of symbols and its sets; a symbol; a member's last symbol, with the place of its 42
pub data Item : Type 0 where
  nothing : Item
  opens : ℕ → ℕ → ℕ → Item
  symbol : Numbered → Item
  last : Numbered → ℕ → Item

-- 41 is due; or a 42 (left of them); or a member's symbols, with those left after it, the place of its 42 and how its path stands
abbrev pub due : Standing → Due
due Head = tags_due file.Narrowed (0x41 ∷ []) false false
due (Between left) = tags_due file.Narrowed (0x42 ∷ []) (eqb left 0) (eqb left 0)
due (Within left place q) = due_symbols file.Narrowed q

-- 41: the number of members, 0 to 128; refusal 3
unfoldable pub count_of : ℕ → List ℕ → Result (Standing × Item)
count_of at b = cond (leb (word b 0) 128) (got (Between (word b 0), nothing)) (refused 3 at)

-- a path of n symbols, none of them read
abbrev pub fresh : ℕ → Stack
fresh n = record { left = n; depth = 0 }

-- 42: the number of symbols, 1 to 48, and the two sets; refusal 3
unfoldable pub open_of : ℕ → ℕ → List ℕ → Result (Standing × Item)
open_of left at b =
    cond (leb 1 (get_or b 0 0) && leb (get_or b 0 0) 48)
    (got (Within (left - 1) at (fresh (get_or b 0 0)), opens (get_or b 0 0) (eight b 1) (eight b 9))) (refused 3 at)

-- a symbol that leaves the member's stack as q: the member is done if none is due
abbrev pub grown : ℕ → ℕ → Numbered → Stack → Standing × Item
grown left place x q = cond (eqb q.left 0) (Between left, last x place) (Within left place q, symbol x)

-- 43, 44 or 45; refusals 3 and 6
unfoldable pub member_symbol : ℕ → ℕ → Stack → ℕ → ℕ → ℕ → List ℕ → Result (Standing × Item)
member_symbol left place q at next t b = onward (λ x. onward (λ q'. got (grown left place x q')) (push q at next (arity x.number))) (symbol_in at t b)

abbrev pub judge : Standing → ℕ → ℕ → ℕ → List ℕ → Result (Standing × Item)
judge Head at next t b = count_of at b
judge (Between left) at next t b = open_of left at b
judge (Within left place q) at next t b = member_symbol left place q at next t b

-- what is kept: the codes of the member before, the members so far, and of the open one its sets and its symbols so far
pub record Gathered : Type 0 where
  pub prev : List ℕ
  pub members : List Flat
  pub from : ℕ
  pub to : ℕ
  pub sofar : List Numbered

abbrev pub gathered : List ℕ → List Flat → ℕ → ℕ → List Numbered → Gathered
gathered prev ms f t xs = record { prev = prev; members = ms; from = f; to = t; sofar = xs }

-- the open member has the symbols xs, and is done; refusal 4
abbrev pub closed : Gathered → List Numbered → ℕ → Result Gathered
closed g xs place =
    cond (before? g.prev (order_codes xs)) (got (gathered (order_codes xs) (g.members ++ (flat g.from g.to xs ∷ [])) 0 0 [])) (refused 4 place)

abbrev pub keep : Gathered → Item → Result Gathered
keep g nothing = got g
keep g (opens n f t) = got (gathered g.prev g.members f t [])
keep g (symbol x) = got (gathered g.prev g.members g.from g.to (g.sofar ++ (x ∷ [])))
keep g (last x place) = closed g (g.sofar ++ (x ∷ [])) place

abbrev pub narrowed_format : Format
narrowed_format = record {
  Control = Standing;
  Item = Item;
  Kept = Gathered;
  Value = List Flat;
  start = Head;
  empty = gathered [] [] 0 0 [];
  due = due;
  judge = judge;
  keep = keep;
  value = λ st g. g.members;
}

abbrev pub narrowed_form : Form
narrowed_form = form narrowed_format
