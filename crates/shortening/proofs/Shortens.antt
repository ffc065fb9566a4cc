-- The promises of a shortened question hold of every question that is taken.
-- Assumes nothing.
use mathlib.Core.Path.{◌≡◌, refl, sym, ap, ◌∙◌, subst}
use mathlib.Core.List.{List, [], ◌∷◌, ◌++◌, map}
use mathlib.Core.Option.{some}
use Prim.Native.Nat.{ℕ, ◌+◌, ◌≤◌}
use native.Mathlib.Omega.{arith}
use lib.Dec.{T}
use lib.ListN.{length, length-append}
use lib.Seq.{sets}
use Rattle.theory.specs.PathExpr.{Direction, Label, below?, Op, union, conjunction, branch_right, branch_left, PathExpr, step, join, op, closure}
use Rattle.theory.specs.PathExpr.{Symbol, s_step, s_join, s_op, s_closure, postfix, code, step_code, codes, plain?, links?}
use Rattle.theory.specs.Postfix.{path_of}
use Rattle.theory.specs.Simplification.{normal_form}
use Rattle.theory.proofs.Tests.{and_left, and_right}
use Rattle.theory.proofs.Simplification.{weight, no_heavier, reaches, irreducible, normal_stays, one_result, twice, never_longer, same_pairs, normal_plain, normal_links}
use Rattle.fields.specs.declared.Source.TheVariants as source
use Rattle.theory.specs.Result.{Result, got, refused}
use Rattle.fields.specs.Call.{accepts, output}
use Rattle.fields.specs.declared.Size.{Size}
use Rattle.fields.specs.Call as fields·Call
use Rattle.fields.specs.Reading.{read}
use Rattle.fields.specs.Writing.{Bytes, field_bytes}
use Rattle.fields.proofs.Calls.{not_accepted}
use Rattle.fields.proofs.Filing.{Filed, filed, file_written, file_enough}
use Rattle.symbols.specs.Symbols.{numbered, symbol_numbered}
use Rattle.symbols.specs.Writing.{tag_of, body_of, symbol_bytes, symbols_bytes}
use Rattle.symbols.proofs.Numbers.{number_of, length_codes}
use Rattle.question.specs.Form.{question_form, question_symbols}
use Rattle.question.specs.Writing.{numbered_codes, question_bytes}
use Rattle.question.proofs.Paths.{Asks, accepted_question}
use Rattle.question.proofs.WrittenThenRead.{read_bytes, codes_path}
use Rattle.question.proofs.ReadThenWritten.{bytes_read}
use Rattle.question_writer.proofs.Measuring.{question_length}
use Rattle.shortening.specs.Call.{codes_of, shortened_codes, shortened_in, shorten_call}
use Rattle.shortening.specs.Shortens.{ShortenTook, short_file, Shortens}

-- ---- the bytes of a path's symbols: 5 of a step, 4 of any other
abbrev bytes : List Symbol → ℕ
bytes [] = 0
bytes (s ∷ ss) = length (symbol_bytes (numbered (code s) 0)) + bytes ss

bytes_append : (xs ys : List Symbol) → bytes (xs ++ ys) ≡ bytes xs + bytes ys
bytes_append [] ys = omega arith
bytes_append (x ∷ xs) ys = omega (arith, bytes_append xs ys)

bytes_are : (ss : List Symbol) → length (symbols_bytes (numbered_codes (map code ss))) ≡ bytes ss
bytes_are [] = refl
bytes_are (s ∷ ss) = omega (arith, length-append (symbol_bytes (numbered (code s) 0)) (symbols_bytes (numbered_codes (map code ss))), bytes_are ss)

bytes_step : (d : Direction) (l : Label) → T (below? l 64) → length (symbol_bytes (numbered (step_code d l) 0)) ≡ 5
bytes_step d l h = ap (λ (x : Symbol). length (field_bytes (tag_of x) (body_of (step_code d l) x))) (number_of (s_step d l) h).back

bytes_op : (o : Op) → length (symbol_bytes (numbered (code (s_op o)) 0)) ≡ 4
unfolding symbol_numbered
bytes_op union = refl
bytes_op conjunction = refl
bytes_op branch_right = refl
bytes_op branch_left = refl

bytes_path : (p : PathExpr) → T (links? 64 p) → bytes (postfix p) ≡ weight 5 4 4 4 p
unfolding symbol_numbered
bytes_path (step d l) h = omega (arith, bytes_step d l h)
bytes_path (join v p q) h =
    omega (
      arith,
      bytes_append (postfix p) (postfix q ++ (s_join v ∷ [])),
      bytes_append (postfix q) (s_join v ∷ []),
      bytes_path p (and_left (links? 64 p) (links? 64 q) h),
      bytes_path q (and_right (links? 64 p) (links? 64 q) h),
    )
bytes_path (op o p q) h =
    omega (
      arith,
      bytes_append (postfix p) (postfix q ++ (s_op o ∷ [])),
      bytes_append (postfix q) (s_op o ∷ []),
      bytes_op o,
      bytes_path p (and_left (links? 64 p) (links? 64 q) h),
      bytes_path q (and_right (links? 64 p) (links? 64 q) h),
    )
bytes_path (closure p) h = omega (arith, bytes_append (postfix p) (s_closure ∷ []), bytes_path p h)

file_bytes : (p : PathExpr) → T (links? 64 p) → length (question_bytes (codes p)) ≡ 4 + weight 5 4 4 4 p
file_bytes p h = omega (arith, question_length (codes p), bytes_are (postfix p), bytes_path p h)

-- ---- a question that asks for p
module _ {cs : List ℕ} {p : PathExpr} (a : Asks cs p) where
  abbrev nf : PathExpr
  nf = normal_form p

  plain : T (plain? nf)
  plain = subst T (normal_plain p) a.plain

  links : T (links? 64 nf)
  links = subst T (normal_links 64 p) a.links

  is : shortened_codes cs ≡ codes nf
  unfolding shortened_codes
  is = ap codes_of a.path

  reads : read question_form (question_bytes (shortened_codes cs)) ≡ got (shortened_codes cs)
  reads = rw is (read_bytes nf plain links (omega (arith, never_longer p, a.few)))

  asks : path_of (question_symbols (shortened_codes cs)) ≡ some nf
  asks = rw is (codes_path nf plain links)

  again : shortened_codes (shortened_codes cs) ≡ shortened_codes cs
  unfolding shortened_codes
  again = ap codes_of asks ∙ ap codes (twice p) ∙ sym is

  few_codes : length (shortened_codes cs) ≤ length cs
  few_codes = omega (arith, ap length is, length_codes nf, never_longer p, a.count)

  few_bytes : length (question_bytes (shortened_codes cs)) ≤ length (question_bytes cs)
  few_bytes = omega (
    arith,
    ap (λ (l : List ℕ). length (question_bytes l)) is,
    ap (λ (l : List ℕ). length (question_bytes l)) a.same_codes,
    file_bytes nf links,
    file_bytes p a.links,
    no_heavier 5 4 4 4 (omega arith) p,
  )

-- ---- a call that was accepted
module _ (question area : List ℕ) (z : Size) where
  by_read : (a : Result (List ℕ)) → read question_form question ≡ a → ShortenTook question area z
      → (cs : List ℕ) × (read question_form question ≡ got cs) × Filed (length (shortened_codes cs)) (question_bytes (shortened_codes cs)) area (shorten_call question area).areas z
  unfolding shorten_call shortened_in
  by_read (refused n p) e t = not_accepted source.Question n p z (rw e at t)
  by_read (got cs) e t = (cs, e, rw e (filed (length (shortened_codes cs)) (question_bytes (shortened_codes cs)) area z (rw e at t)))

  pub shortens : ShortenTook question area z → Shortens question (short_file question area z) z
  unfolding shorten_call shortened_in
  shortens t =
      let (cs, e, f) = by_read (read question_form question) refl t in
      let (p, a) = accepted_question question cs e in
      let short = shortened_codes cs in
      subst (λ (l : List ℕ). Shortens question l z) (sym (file_written f)) record {
        codes = cs;
        question_reads = e;
        p = p;
        path = a.path;
        short_codes = short;
        file_reads = reads a;
        q = normal_form p;
        short_path = asks a;
        symbols = f.counted;
        bytes = f.measured;
        reached = reaches p;
        none_fits = irreducible p;
        one_result = λ x l n. one_result l n;
        same_pairs = λ r s t. same_pairs r p s t;
        never_longer = few_codes a;
        no_more_bytes = λ h. omega (arith, few_bytes a, ap length (bytes_read question h cs e));
        twice = λ xs h. rw (reads a, again a) (file_enough (length short) (question_bytes short) xs h ∙ ap (λ (x : Size). output (accepts x) (sets xs 0 (question_bytes short))) (same_size f));
        unchanged = λ h n. ap question_bytes (is a ∙ ap codes (normal_stays p n) ∙ a.same_codes) ∙ bytes_read question h cs e;
      }
    where
      same_size : {count : ℕ} {bs xs ys : List ℕ} → Filed count bs xs ys z → fields·Call.size count (length bs) ≡ z
      same_size f = rw (← f.counted, ← f.measured)

-- an area as long as the question's file is long enough
pub enough : (question area : List ℕ) → Bytes question → (cs : List ℕ) → read question_form question ≡ got cs → length question ≤ length area
    → (z : Size) × ShortenTook question area z
unfolding shorten_call shortened_in
enough question area h cs e l =
    let (p, a) = accepted_question question cs e in
    let short = shortened_codes cs in
    let room : length (question_bytes short) ≤ length area = omega (arith, few_bytes a, ap length (bytes_read question h cs e)) in
    (fields·Call.size (length short) (length (question_bytes short)), rw e (ap (λ o. o.outcome) (file_enough (length short) (question_bytes short) area room)))
