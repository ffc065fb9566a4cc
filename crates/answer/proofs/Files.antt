-- What the files of a call hold: the codes of a question make its path, the members of a narrowed question are formed.
-- Assumes nothing.
use mathlib.Core.Path.{◌≡◌, refl, sym, ap, ap₂, subst, ◌∙◌}
use mathlib.Core.Bool.{true}
use mathlib.Core.List.{List, [], ◌∷◌, ◌++◌}
use Rattle.std.proofs.lemmas.List.{append-nil, get_or-take}
use Prim.Native.Nat.{ℕ, suc, ◌+◌, ◌<◌, ◌≤◌}
use native.Mathlib.Omega.{arith}
use lib.ListN.{length, get_or, take, drop, replicate, get_or-replicate}
use Rattle.theory.specs.PathExpr.{Symbol}
use Rattle.theory.specs.Postfix.{path_of}
use Rattle.fields.specs.declared.Refusal.{Refusal}
use Rattle.theory.specs.Result.{got, refused}
use Rattle.fields.specs.Reading.{read}
use Rattle.std.specs.Prelude as std
use Rattle.std.specs.Prelude.{Ok, Err}
use Rattle.fields.specs.Contract.{number_of, place_of, read_said}
use Rattle.symbols.specs.Symbols.{symbol_numbered}
use Rattle.fields.proofs.Bools.{onward_got, told_refused}
use Rattle.fields.specs.Writing.{Bytes}
use Rattle.question.specs.Form.{question_form, question_symbols}
use Rattle.question.proofs.Paths.{accepted_question}
use Rattle.narrowed_question.specs.declared.Members.{Members}
use Rattle.narrowed_question.specs.Form.{Flat, narrowed_form}
use Rattle.narrowed_question.specs.Formed.{WellFormed}
use Rattle.narrowed_question.specs.ArrayMembers.{given}
use Rattle.narrowed_question.specs.Contract.{Packed, ReadsInto, members_in}
use Rattle.narrowed_question.proofs.MembersInArrays.{heads, packed_given}
use Rattle.narrowed_question.proofs.ReadThenWritten.{accepted_formed}
use Rattle.evaluation.specs.Grounded.{symbols_in, symbols_of, path?}
use Rattle.evaluation.proofs.Grounds.{is_path}
use Rattle.symbols.proofs.Numbers.{given_symbol}
use Rattle.answer.specs.Contract.{Readable}

-- ---- a question
-- codes, with sets that are 0
codes_back : (ns ms cs r : List ℕ) (k : ℕ) → drop k ns ≡ cs ++ r → ((i : ℕ) → i < k + length cs → get_or ms i 0 ≡ 0) → symbols_in ns ms (length cs) k ≡ question_symbols cs
codes_back ns ms [] r k e z = refl
codes_back ns ms (c ∷ cs) r k e z =
    let (a, b) = heads ns k c (cs ++ r) e in
    ap₂ (λ (x : Symbol) (l : List Symbol). x ∷ l)
    (given_symbol (get_or ns k 0) (get_or ms k 0) ∙ ap₂ symbol_numbered a (z k (omega arith)))
    (codes_back ns ms cs r (suc k) b (λ i h. z i (omega arith)))

few_codes : (s cs : List ℕ) → read question_form s ≡ got cs → length cs ≤ 32
few_codes s cs e = let (p, q) = accepted_question s cs e in omega (arith, q.few, q.count)

-- the codes that were handed on, with as many of 32 sets that are 0, are the question's symbols
abbrev zeros : List ℕ → List ℕ
zeros ns = take (length ns) (replicate 32 0)

pub codes_symbols : (s ns cs : List ℕ) → read question_form s ≡ got cs → ns ≡ cs → symbols_of ns (zeros ns) ≡ question_symbols cs
codes_symbols s ns cs e q =
    rw q (codes_back cs (zeros cs) cs [] 0 (sym (append-nil cs))
    (λ i h. get_or-take (length cs) (replicate 32 0) i 0 (omega arith) ∙ get_or-replicate 32 i 0 0 (omega (arith, few_codes s cs e))))

pub codes_path : (s ns cs : List ℕ) → read question_form s ≡ got cs → ns ≡ cs → path? (path_of (symbols_of ns (zeros ns))) ≡ true
codes_path s ns cs e q = let (p, a) = accepted_question s cs e in is_path (ap path_of (codes_symbols s ns cs e q) ∙ a.path)

-- ---- a narrowed question
module _ (s : List ℕ) (o : std.Result (Unit {0}) Refusal) (q : Members) (h : ReadsInto (read narrowed_form s) o q) where
  pub file_refused : (x : Refusal) → o ≡ Err x → read narrowed_form s ≡ refused (number_of x) (place_of x)
  file_refused x e = told_refused _ (read narrowed_form s) (number_of x) (place_of x) (sym (ap (read_said (λ u. q.count)) e) ∙ h.outcome)

  module _ (e : o ≡ Ok tt) where
    -- the members in the arrays are those of the file
    pub file_given : (ms : List Flat) → read narrowed_form s ≡ got ms → WellFormed ms → given q ≡ ms
    file_given ms a f = packed_given q ms f (subst (λ (l : List Flat). Packed l q) (ap members_in a) (rw e at h.members))

    pub file_accepted : Bytes s → (read narrowed_form s ≡ got (given q)) × Readable q
    file_accepted bytes =
        let (ms, a, b) = onward_got (λ ms. got (length ms)) (read narrowed_form s) q.count (sym h.outcome ∙ ap (read_said (λ u. q.count)) e) in
        let f = accepted_formed s bytes ms a in
        let g = file_given ms a f in
        (a ∙ ap got (sym g), subst WellFormed (sym g) f)
