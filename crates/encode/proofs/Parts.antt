-- Of what the bytes of a symbol, of symbols and of members are made.
-- Assumes nothing.
use Prim.Native.Nat.{ℕ, zero, suc, ◌+◌, ◌-◌, ◌<◌, ◌≤◌}
use mathlib.Core.Path.{◌≡◌, refl, ap, ap₂, ◌∙◌, sym, subst}
use mathlib.Core.List.{List, ◌∷◌, ◌++◌}
use lib.ListN.{length, get_or}
use native.Mathlib.Omega.{arith}
use Rattle.fields.specs.Table.{rows, tag_length, field_size}
use Rattle.narrowed_question.specs.declared.Members.{Members}
use Rattle.narrowed_question.specs.Form.{Flat, flat}
use Rattle.fields.specs.Writing.{two_bytes, eight_bytes, field_bytes}
use Rattle.theory.specs.PathExpr.{any, through, Symbol, s_step, s_join, s_op, s_closure}
use Rattle.symbols.specs.declared.Symbol as declared·Symbol
use Rattle.symbols.specs.Contract.{symbol_said}
use Rattle.symbols.specs.Writing.{tag_of, body_of, symbol_bytes, symbols_bytes}
use Rattle.symbols.proofs.Bytes.{given_bytes, field_length, tag_same}
use Rattle.symbols.proofs.Numbers.{length_given}
use Rattle.narrowed_question.specs.Writing.{member_bytes, members_bytes, encode}
use Rattle.symbols.specs.Symbols.{symbol_numbered, symbol_given, symbols_given}
use Rattle.narrowed_question.specs.ArrayMembers.{members_given, given}
use Rattle.encode.specs.Size.{symbol_size}
use Rattle.encode.specs.BytesWritten.{BytesWritten}
use Rattle.encode.proofs.Along.{wrote_more}

-- ---- a symbol, by its number
-- the size of its field
pub size_is : (c m : ℕ) → symbol_size c ≡ length (symbol_bytes (symbol_given c m))
unfolding symbol_size
size_is c m = ap field_size (sym (tag_same c m)) ∙ sym (field_length c (symbol_numbered c m)) ∙ sym (ap length (given_bytes c m refl))

pub size_few : (c : ℕ) → symbol_size c ≤ 11
unfolding symbol_size field_size tag_length rows
size_few c = go (symbol_numbered c 0)
  where
    go : (s : Symbol) → field_size (tag_of s) ≤ 11
    go (s_step d l) = omega arith
    go (s_join any) = omega arith
    go (s_join (through m)) = omega arith
    go (s_op o) = omega arith
    go s_closure = omega arith

-- its field is that of the symbol that was decoded: of its tag, in the room that it has; and of its body
module _ (c m : ℕ) (r : declared·Symbol.Symbol) (e : symbol_said r ≡ symbol_numbered c m) where
  pub tag_room : (at room t : ℕ) → tag_of (symbol_said r) ≡ t → at + length (symbol_bytes (symbol_given c m)) ≤ room → at + field_size t ≤ room
  tag_room at room t i h = omega (arith, ap length (given_bytes c m (sym e)), field_length c (symbol_said r), ap field_size i)

  pub body_wrote : {o p b : List ℕ} {at next t : ℕ} → BytesWritten o p at next (field_bytes t b) → tag_of (symbol_said r) ≡ t → body_of c (symbol_said r) ≡ b
      → BytesWritten o p at next (symbol_bytes (symbol_given c m))
  body_wrote {o} {p} {b} {at} {next} {t} w i j = subst (λ l. BytesWritten o p at next l) (sym (given_bytes c m (sym e) ∙ ap₂ field_bytes i j)) w

-- ---- symbols, one more
pub symbols_more : (a b : List ℕ) (n k : ℕ) → 0 < n
    → symbols_bytes (symbols_given a b n k) ≡ symbol_bytes (symbol_given (get_or a k 0) (get_or b k 0)) ++ symbols_bytes (symbols_given a b (n - 1) (k + 1))
symbols_more a b n k h =
    ap (λ (j : ℕ). symbols_bytes (symbols_given a b j k)) (let z : n ≡ suc (n - 1) = omega arith in z)
    ∙ ap (λ (j : ℕ). symbol_bytes (symbol_given (get_or a k 0) (get_or b k 0)) ++ symbols_bytes (symbols_given a b (n - 1) j)) (let z : suc k ≡ k + 1 = omega arith in z)

-- ---- a member
pub member_parts : (a b : List ℕ) (n k f t : ℕ)
    → member_bytes (flat f t (symbols_given a b n k)) ≡ field_bytes 0x42 (n ∷ (eight_bytes f ++ eight_bytes t)) ++ symbols_bytes (symbols_given a b n k)
member_parts a b n k f t =
    ap (λ (c : ℕ). field_bytes 0x42 (c ∷ (eight_bytes f ++ eight_bytes t)) ++ symbols_bytes (symbols_given a b n k)) (length_given a b n k)

pub member_wrote : {o p q : List ℕ} {at x y : ℕ} (a b : List ℕ) (n k f t : ℕ) → BytesWritten o p at x (field_bytes 0x42 (n ∷ (eight_bytes f ++ eight_bytes t)))
    → BytesWritten p q x y (symbols_bytes (symbols_given a b n k)) → BytesWritten o q at y (member_bytes (flat f t (symbols_given a b n k)))
member_wrote {o} {p} {q} {at} {x} {y} a b n k f t u v = subst (λ (l : List ℕ). BytesWritten o q at y l) (sym (member_parts a b n k f t)) (wrote_more u v)

-- ---- members, one more
pub members_many : (q : Members) (n i k : ℕ) → length (members_given q n i k) ≡ n
members_many q zero i k = refl
members_many q (suc n) i k = ap suc (members_many q n (suc i) (k + get_or q.sizes i 0))

-- the i-th member, whose symbols begin with the k-th
abbrev pub member_at : Members → ℕ → ℕ → Flat
member_at q i k = flat (get_or q.from i 0) (get_or q.to i 0) (symbols_given q.numbers q.sets (get_or q.sizes i 0) k)

pub members_more : (q : Members) (i k : ℕ) → i < q.count
    → members_bytes (members_given q (q.count - i) i k) ≡ member_bytes (member_at q i k) ++ members_bytes (members_given q (q.count - (i + 1)) (i + 1) (k + get_or q.sizes i 0))
members_more q i k h =
    ap (λ (j : ℕ). members_bytes (members_given q j i k)) (let z : q.count - i ≡ suc (q.count - (i + 1)) = omega arith in z)
    ∙ ap (λ (j : ℕ). member_bytes (member_at q i k) ++ members_bytes (members_given q (q.count - (i + 1)) j (k + get_or q.sizes i 0))) (let z : suc i ≡ i + 1 = omega arith in z)

pub encode_parts : (q : Members) → encode (given q) ≡ field_bytes 0x41 (two_bytes q.count) ++ members_bytes (members_given q q.count 0 0)
unfolding encode given
encode_parts q = ap (λ (c : ℕ). field_bytes 0x41 (two_bytes c) ++ members_bytes (members_given q q.count 0 0)) (members_many q q.count 0 0)
