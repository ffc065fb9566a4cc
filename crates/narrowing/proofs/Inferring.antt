-- From what inference says to what is due: 12 or 13, or the members; before that 11; and the same in the area of a file.
-- Assumes nothing.
use mathlib.Core.Path.{◌≡◌, sym, ap, subst, ◌∙◌}
use mathlib.Core.List.{List, [], Memᴰ as In}
use mathlib.Core.Option.{some}
use Prim.Native.Nat.{ℕ, ◌≤◌}
use native.Mathlib.Omega.{arith}
use lib.Dec.{T, leb, leb→le}
use lib.ListN.{length}
use Rattle.std.specs.Prelude as std
use Rattle.std.specs.Prelude.{Ok, Err, Option, Some, None}
use Rattle.theory.specs.PathExpr.{PathExpr, Symbol, size}
use Rattle.theory.specs.Postfix.{path_of, ended}
use Rattle.theory.specs.Sheet.{Sheet}
use Rattle.theory.specs.Inference.{Triple, triples}
use Rattle.theory.specs.Merging.{members}
use Rattle.theory.specs.Narrowing.{Narrowing, short?, part_fault, link_fault, refuse, parted_as, parted, narrow_symbols}
use Rattle.theory.specs.Result.{got}
use Rattle.theory.proofs.Lists.{every_in}
use Rattle.fields.specs.declared.Refusal.{Refusal}
use Rattle.fields.specs.declared.Refusal.TheVariants.{UnnamedLink}
use Rattle.fields.specs.declared.Size.{Size}
use Rattle.fields.specs.declared.Source.TheVariants as source
use Rattle.fields.specs.Call.{about, Gives}
use Rattle.question.specs.Form.{question_symbols}
use Rattle.rows.specs.Kept.{Kept}
use Rattle.rows.proofs.Words.{kept_in, kept_refl}
use Rattle.rules.specs.Requirements.{part}
use Rattle.triples.specs.declared.Span.{Span}
use Rattle.merge.specs.Arranging.{Suits}
use Rattle.merge.proofs.Sorting.{question_suits}
use Rattle.inference.specs.Questions.{Asking, Sheeted, Found, Infers}
use Rattle.narrowing.specs.declared.Counted.{Counted}
use Rattle.narrowing.specs.Call.{narrow_need, in_area}
use Rattle.narrowing.specs.Contract.{FirstUnnamed, Narrowable, work_said}
use Rattle.narrowing.specs.Internal.{Listed, Counts, Told, Puts, CountsBy, CountsNamed, CountsSymbols}

-- ---- 12 and 13
module _ {qs ws t : List ℕ} {K : ℕ} (h : Narrowable qs t K) (n : narrow_need ≤ length ws) where
  pub asking : Asking qs ws K
  unfolding narrow_need
  asking = h.asking ws (omega (arith, n))

  module _ {ws' : List ℕ} {r : std.Result Span Refusal} (i : Infers qs ws ws' t K r) where
    kept : Kept 0 narrow_need ws ws'
    unfolding narrow_need
    kept = kept_in i.kept (omega arith) (omega arith)

    abbrev parts_asked : List PathExpr
    parts_asked = ended (question_symbols qs) []

    parted_is : (S : Sheet) → parted S (question_symbols qs) ≡ refuse (part_fault S) 0 parts_asked (got (members (triples S h.path)))
    unfolding parted
    parted_is S = ap (parted_as S (question_symbols qs)) h.is

    found : {r' : std.Result Span Refusal} → r ≡ r' → (S : Sheet) → Sheeted t K S → (q : PathExpr) → path_of (question_symbols qs) ≡ some q → Found S parts_asked q qs ws' r'
    found w S g q e = subst (λ (x : std.Result Span Refusal). Found S parts_asked q qs ws' x) w (i.found S g q e)

    pub part_refused : (f : Refusal) → r ≡ Err f → CountsNamed qs ws ws' t K (Err f)
    part_refused f w =
        record {
          kept = kept;
          known = λ c e. let z : ◌≡◌ {A = ℕ} 0 1 = cc in absurd (omega arith);
          counts = λ S g. parted_is S ∙ found w S g h.path h.is (got (members (triples S h.path)));
        }

    module _ (x : Span) (w : r ≡ Ok x) where
      suits : (u : Triple) → In u (part qs ws' x.start x.end) → Suits u
      suits u m =
          let p : part qs ws' x.start x.end ≡ triples h.sheet h.path = (found w h.sheet h.sheeted h.path h.is).1 in
          let short : T (short? (part qs ws' x.start x.end)) = rw (i.nodes x w).short tt in
          question_suits h.sheet h.path h.plain h.linked
          (λ v k. leb→le (size v.path) 48 (every_in (λ y. leb (size y.path) 48) short (subst (λ (l : List Triple). In v l) (sym p) k)))
          u (subst (λ (l : List Triple). In u l) p m)

      pub listed : Listed qs ws' x
      unfolding narrow_need
      listed =
          let m = i.nodes x w in
          record {
            ordered = m.ordered;
            few = m.few;
            in_table = omega (arith, m.numbers, i.kept.len, n);
            sound = m.sound;
            suits = suits;
          }

      pub part_counted : {c : Counted} → Counts qs ws' (members (part qs ws' x.start x.end)) c → CountsNamed qs ws ws' t K (Ok c)
      part_counted {c} d =
          record {
            kept = kept;
            known = λ k e. let same : c ≡ k = cc in rw (← same) (record { members = members (part qs ws' x.start x.end); counts = d });
            counts = λ S g.
                let z = found w S g h.path h.is in
                (members (part qs ws' x.start x.end), parted_is S ∙ z.0 (got (members (triples S h.path))) ∙ ap (λ (l : List Triple). got (members l)) (sym z.1), d);
          }

-- ---- 11
links_first : (S : Sheet) (E : ℕ) (ss : List Symbol) → S.link_names ≡ E → narrow_symbols S ss ≡ refuse (link_fault E) 0 ss (parted S ss)
unfolding narrow_symbols
links_first S E ss e = ap (λ (n : ℕ). refuse (link_fault n) 0 ss (parted S ss)) e

module _ {qs t : List ℕ} {K E : ℕ} {r : Option ℕ} (f : FirstUnnamed E qs r) where
  pub symbols_unnamed : {ws : List ℕ} (i : ℕ) → r ≡ Some i → CountsSymbols qs ws ws t K E (Err (UnnamedLink i))
  symbols_unnamed {ws} i e =
      record {
        kept = kept_refl 0 narrow_need ws;
        known = λ c w. let z : ◌≡◌ {A = ℕ} 0 1 = cc in absurd (omega arith);
        counts = λ S g. links_first S E (question_symbols qs) g.named ∙ f.here i e (parted S (question_symbols qs));
      }

  pub symbols_named : r ≡ None → {ws ws' : List ℕ} {c : std.Result Counted Refusal} → CountsNamed qs ws ws' t K c → CountsSymbols qs ws ws' t K E c
  symbols_named e {ws' = ws'} {c} g =
      record {
        kept = g.kept;
        known = g.known;
        counts = λ S d.
            let same = links_first S E (question_symbols qs) d.named ∙ f.nowhere e (parted S (question_symbols qs)) in
            subst (λ (x : Narrowing). Told qs ws' x c) (sym same) (g.counts S d.sheeted);
      }

-- ---- what was counted, in the area
module _ {Of : Sheet → Type 0} {due : Sheet → Narrowing} {qs ws ws' : List ℕ} {r : std.Result Counted Refusal} (g : CountsBy Of due qs ws ws' r) where
  told : {r' : std.Result Counted Refusal} → r ≡ r' → (S : Sheet) → Of S → Told qs ws' (due S) r'
  told e S d = subst (λ (x : std.Result Counted Refusal). Told qs ws' (due S) x) e (g.counts S d)

  pub area_refused : {f : Refusal} → r ≡ Err f → {file : List ℕ} (S : Sheet) → Of S → Gives (in_area (about source.Work (due S)) file) (work_said (Err f)) file
  area_refused e S d = record { is = rw (told e S d) }

  module _ {c : Counted} (e : r ≡ Ok c) where
    pub area_filed : {file file' : List ℕ} {z : std.Result Size Refusal} → Puts qs ws' c file file' z → (S : Sheet) → Of S
        → Gives (in_area (about source.Work (due S)) file) (work_said z) file'
    area_filed p S d = let (ms, w, k) = told e S d in record { is = rw w (p.files ms k).is }
