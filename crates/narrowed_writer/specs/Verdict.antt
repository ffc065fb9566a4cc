-- The judgement of members without their bytes: the place after them, or the refusal. What the code computes before it writes;
-- proofs/Verdict.antt has that it is the reader's judgement of the file.
-- Assumes nothing.
use Rattle.std.specs.Prelude.{cond, ◌&&◌, List, [], ◌∷◌, ℕ, ◌+◌, leb, length}
use Rattle.theory.specs.PathExpr.{before?}
use Rattle.symbols.specs.declared.Stack.{Stack}
use Rattle.fields.specs.Table.{field_size}
use Rattle.theory.specs.Result.{Result, got, refused, onward}
use Rattle.symbols.specs.Symbols.{symbol?, arity, push}
use Rattle.narrowed_question.specs.Form.{Flat, order_codes, numbers}
use Rattle.encode.specs.Size.{symbol_size}

-- a symbol of that number at a place: refusals 3 and 6
unfoldable pub offered : Stack → ℕ → ℕ → Result Stack
offered q at c = cond (symbol? c) (push q at (at + symbol_size c) (arity c)) (refused 3 at)

abbrev pub path_verdict : Stack → ℕ → List ℕ → Result ℕ
path_verdict q at [] = got at
path_verdict q at (c ∷ cs) = onward (λ q'. path_verdict q' (at + symbol_size c) cs) (offered q at c)

-- a member of n symbols, whose 42 is at a place: refusal 3, and its path's
unfoldable pub member_verdict : ℕ → ℕ → List ℕ → Result ℕ
member_verdict at n cs = cond (leb 1 n && leb n 48) (path_verdict (record { left = n; depth = 0 }) (at + field_size 0x42) cs) (refused 3 at)

-- members after one of codes prev: refusal 4
abbrev pub members_verdict : List ℕ → ℕ → List Flat → Result ℕ
members_verdict prev at [] = got at
members_verdict prev at (m ∷ ms) =
    onward (λ next. cond (before? prev (order_codes m.symbols)) (members_verdict (order_codes m.symbols) next ms) (refused 4 at))
    (member_verdict at (length m.symbols) (numbers m.symbols))

unfoldable pub verdict : List Flat → Result ℕ
verdict ms = cond (leb (length ms) 128) (members_verdict [] (field_size 0x41) ms) (refused 3 0)
