-- The field at a place in two steps, as the code takes it: what lies there, then what that is where something is due.
-- Assumes nothing.
use Rattle.std.specs.Prelude.{cond, List, [], ℕ, ◌+◌, ltb, leb, length, get_or, take, drop}
use Rattle.fields.specs.declared.Raw.{Raw}
use Rattle.fields.specs.declared.Raw.TheVariants.{Whole, Short, Cut, End}
use Rattle.fields.specs.declared.Due.{Due}
use Rattle.fields.specs.Reading.{word, fitting, beyond?, Field, ends, wrong, body}

unfoldable pub raw_at : List ℕ → ℕ → Raw
raw_at s at =
    cond (leb (length s) at) End
    (cond (ltb (length s) (at + 3)) (Cut (get_or s at 0))
    (cond (ltb (length s) (at + 3 + word s (at + 1))) (Short (get_or s at 0) (word s (at + 1))) (Whole (get_or s at 0) (word s (at + 1)))))

-- the body of the field at a place; nothing where there is no whole field
abbrev pub body_of : List ℕ → ℕ → Raw → List ℕ
body_of s at End = []
body_of s at (Cut t) = []
body_of s at (Short t n) = []
body_of s at (Whole t n) = take n (drop (at + 3) s)

unfoldable pub body_in : List ℕ → ℕ → List ℕ
body_in s at = body_of s at (raw_at s at)

-- what a tag and a length are to what is due: 0 where they fit, or the refusal's number
abbrev pub fit_number : Due → ℕ → ℕ → ℕ
fit_number d t n = cond (beyond? d t) 5 (cond (fitting d t n) 0 2)

-- what that is where d is due: 5, 1 for the head, 2, 1 for the body
abbrev pub judged : Due → ℕ → Raw → Field
judged d at End = cond d.complete ends (wrong 5 at)
judged d at (Cut t) = cond (beyond? d t) (wrong 5 at) (wrong 1 at)
judged d at (Short t n) = cond (beyond? d t) (wrong 5 at) (cond (fitting d t n) (wrong 1 at) (wrong 2 at))
judged d at (Whole t n) = cond (beyond? d t) (wrong 5 at) (cond (fitting d t n) (body t n) (wrong 2 at))
