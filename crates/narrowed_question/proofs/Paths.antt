-- A formed member of a file is a member of theory: it has a path, and its symbols are that path's; and a member that fits has its own path in a file.
-- Assumes nothing.
use mathlib.Core.Path.{◌≡◌, refl, ap, ap₂, ◌∙◌}
use mathlib.Core.List.{List, [], ◌∷◌, map}
use mathlib.Core.Option.{some}
use Rattle.theory.specs.PathExpr.{PathExpr, postfix}
use Rattle.theory.specs.Postfix.{single_path, path_of}
use Rattle.theory.specs.Merging.{Member, member}
use Rattle.theory.specs.Narrowing.{MemberFits}
use Rattle.theory.proofs.Postfix.{postfix_path_of, path_of_postfix}
use Rattle.symbols.specs.declared.Stack.{Stack}
use Rattle.symbols.specs.Symbols.{Numbered, symbol_of}
use Rattle.narrowed_question.specs.Form.{Flat, flat}
use Rattle.symbols.specs.Symbols.{Runs}
use Rattle.narrowed_question.specs.Formed.{Formed}
use Rattle.symbols.specs.Symbols.{number_symbol}
use Rattle.narrowed_question.specs.Members.{flat_of, flat_path}
use Rattle.symbols.proofs.Numbers.{symbol_comes, held_postfix, numbered_symbols}
use Rattle.symbols.proofs.Counting.{runs_read}

symbols_come : (xs : List Numbered) (q : Stack) → Runs q xs → map number_symbol (map symbol_of xs) ≡ xs
symbols_come [] q r = refl
symbols_come (x ∷ xs) q r = ap₂ (λ (y : Numbered) (ys : List Numbered). y ∷ ys) (symbol_comes x r.0).1 (symbols_come xs r.1.0 r.1.2)

pub flat_member : (m : Flat) → Formed m → (p : PathExpr) × (flat_path m ≡ some p) × (flat_of (member m.from p m.to) ≡ m)
flat_member m f =
    let (p, e) = runs_read m.symbols _ [] f.runs refl refl f.some in
    let h : flat_path m ≡ some p = ap single_path e in
    (p, h, ap (flat m.from m.to) (ap (map number_symbol) (postfix_path_of (map symbol_of m.symbols) p h) ∙ symbols_come m.symbols _ f.runs))

pub path_back : (m : Member) → MemberFits m → flat_path (flat_of m) ≡ some m.path
path_back m f = ap path_of (numbered_symbols (postfix m.path) (held_postfix m.path f.links f.sets)) ∙ path_of_postfix m.path
