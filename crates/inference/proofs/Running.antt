-- All symbols of a question, one after the other: how the loop starts, goes on and ends.
-- Assumes nothing.
use mathlib.Core.Path.{◌≡◌, refl, sym, ap, ap₂, ◌∙◌, subst}
use mathlib.Core.List.{List, [], ◌∷◌, ◌++◌}
use mathlib.Core.Option.{Option, some}
use Prim.Native.Nat.{ℕ, suc, ◌+◌, ◌-◌, ◌<◌, ◌≤◌}
use native.Mathlib.Numerals.{add-one}
use native.Mathlib.Omega.{arith}
use lib.ListN.{length, get_or, set, replicate, length-set}
use lib.Seq.{get_or-set_same, slice_empty}
use Rattle.theory.specs.PathExpr.{PathExpr, Symbol}
use Rattle.theory.specs.Postfix.{Stack, go_on, read, top_and, ended, path_of}
use Rattle.theory.specs.Sheet.{Sheet}
use Rattle.theory.specs.Inference.{Triple, triples}
use Rattle.theory.specs.Narrowing.{Narrowing, unless, refuse, part_fault}
use Rattle.theory.specs.Result.{refused}
use Rattle.theory.proofs.Postfix.{single, push_symbols}
use Rattle.fields.specs.declared.Refusal.{Refusal}
use Rattle.fields.specs.declared.Refusal.TheVariants.{TooMany, TooLong}
use Rattle.symbols.specs.Symbols.{symbol_numbered, operands}
use Rattle.fields.specs.Contract.{number_of, place_of}
use Rattle.question.specs.Form.{question_symbols}
use Rattle.rows.specs.Kept.{Kept}
use Rattle.rows.proofs.Words.{kept_refl, kept_trans}
use Rattle.triples.specs.Paths.{original}
use Rattle.triples.specs.declared.Span.{Span}
use Rattle.triples.specs.Parts.{span, triples_in}
use Rattle.std.specs.Prelude.{Result, Ok, Err}
use Rattle.rules.specs.declared.Excess.{Excess}
use Rattle.rules.specs.declared.Excess.TheVariants.{Many, Long}
use Rattle.rules.specs.Outcome.{outcome, fault_of, refusal_at, Ruled}
use Rattle.rules.proofs.RuleOutcome.{outcome_fault}
use Rattle.inference.specs.declared.Operand.{Operand}
use Rattle.inference.specs.Turns.{of_symbol, made_of, origin_of}
use Rattle.inference.specs.Questions.{symbols_of, Sheeted, Nodes, Found, Infers}
use Rattle.inference.proofs.Stacks.{Standing, standing_new, no_operand, Stacked, bottom, above, stacked_kept, stacked_set}
use Rattle.inference.proofs.Turning.{symbols_from, from_next, of_next, Asked, all_symbols, Running, Turn, turn_at}

-- what is inferred from the first `count` symbols; where those are all it is what is inferred
pub record InfersFirst (qs ws ws' t : List ℕ) (count K : ℕ) (r : Result Span Refusal) : Type 0 where
  pub kept : Kept 0 4097 ws ws'
  pub nodes : (x : Span) → r ≡ Ok x → Nodes qs ws' x.start x.end
  pub found : (S : Sheet) → Sheeted t K S → (q : PathExpr) → path_of (symbols_of qs count) ≡ some q → Found S (ended (symbols_of qs count) []) q qs ws' r

pub inferred : {qs ws ws' t : List ℕ} {K : ℕ} {r : Result Span Refusal} → InfersFirst qs ws ws' t (length qs) K r → Infers qs ws ws' t K r
inferred {qs} {ws' = ws'} {r = r} i =
    record {
      kept = i.kept;
      nodes = i.nodes;
      found = λ S a q m.
          subst (λ (ks : List Symbol). Found S (ended ks []) q qs ws' r) (all_symbols qs) (i.found S a q (ap path_of (all_symbols qs) ∙ m));
    }

pub running_start : {qs ws t : List ℕ} {count K : ℕ} (h : Asked qs ws count K) → Running qs ws ws t count K h.path (replicate 33 no_operand) 0 0 0
running_start {qs} {ws} {t} {count} h =
    record {
      kept = kept_refl 0 4097 ws;
      stack = [];
      deep = refl;
      stacked = bottom;
      sound = record { good = λ k l. absurd (omega arith) };
      small = omega arith;
      here = omega arith;
      fewer = omega arith;
      long = refl;
      so_far = refl;
      ahead = single (read (symbols_of qs count) []) h.path h.is;
      left = λ S r o. refl;
    }

module _ {qs ws₀ ws t : List ℕ} {count K depth used i : ℕ} {xs : List Operand} (h : Asked qs ws₀ count K) (g : Running qs ws₀ ws t count K h.path xs depth used i) where
  -- ---- a symbol, which takes n operands
  module _ (l : i < count) {k : Symbol} (is : k ≡ symbol_numbered (get_or qs i 0) 0) {n : ℕ} (takes : n ≡ operands k) {ws' : List ℕ} {r : Result ℕ Excess}
      (f : Ruled qs ws ws' used (made_of qs ws t K k i (get_or xs (depth - n) no_operand) (get_or xs (depth - n + 1) no_operand)) r) where
    abbrev b : ℕ
    b = depth - n

    abbrev u : Turn qs ws t K xs g.stack k depth used i b
    u = turn_at h g l is takes

    abbrev x : Operand
    x = get_or xs b no_operand

    abbrev given : List Triple
    given = of_symbol t K k (original qs x.from (i - x.from)) (triples_in qs ws x.nodes) (triples_in qs ws (get_or xs (b + 1) no_operand).nodes)

    abbrev ss : List Symbol
    ss = symbols_from qs count (i + 1)

    next : symbols_from qs count i ≡ k ∷ ss
    next = from_next qs count i l (omega (arith, h.inside)) ∙ ap (λ (y : Symbol). y ∷ ss) (sym is)

    abbrev st : Stack
    st = u.top ∷ u.below

    kept_more : Kept 0 4097 ws₀ ws'
    kept_more = kept_trans g.kept f.kept (omega arith) (omega arith) (omega arith) (omega (arith, g.small, h.few))

    part_ended : ended (symbols_from qs count i) g.stack ≡ u.top ∷ ended ss st
    part_ended = ap (λ (ks : List Symbol). ended ks g.stack) next ∙ ap (λ (o : Option Stack). top_and o (ended ss)) u.pushes

    -- the refusals, by the rule's outcome
    by_outcome : (S : Sheet) → Sheeted t K S → (o : Narrowing)
        → refuse (part_fault S) 0 (ended (symbols_of qs count) []) o ≡ unless (fault_of r) i (refuse (part_fault S) (i + 1) (ended ss st) o)
    by_outcome S a o =
        sym (g.left S a o)
        ∙ ap (λ (ps : List PathExpr). refuse (part_fault S) i ps o) part_ended
        ∙ ap (λ (n : ℕ). unless n i (refuse (part_fault S) (suc i) (ended ss st) o)) fault
        ∙ ap (λ (n : ℕ). unless (fault_of r) i (refuse (part_fault S) n (ended ss st) o)) (sym (add-one i))
      where
        fault : part_fault S u.top ≡ fault_of r
        fault = sym (outcome_fault S u.top) ∙ ap (λ (ts : List Triple). fault_of (outcome ts)) (sym (u.is S a)) ∙ ap fault_of (sym f.is)

    refuses : (x : Refusal) → ((o : Narrowing) → unless (fault_of r) i o ≡ refused (number_of x) (place_of x)) → InfersFirst qs ws₀ ws' t count K (Err x)
    refuses x e =
        record {
          kept = kept_more;
          nodes = λ s z. let n : ◌≡◌ {A = ℕ} 0 1 = cc in absurd (omega arith);
          found = λ S a q m o. by_outcome S a o ∙ e (refuse (part_fault S) (i + 1) (ended ss st) o);
        }

    pub running_stops : (x : Excess) → r ≡ Err x → InfersFirst qs ws₀ ws' t count K (Err (refusal_at x i))
    running_stops Many e = refuses (TooMany i) (λ o. ap (λ (a : Result ℕ Excess). unless (fault_of a) i o) e)
    running_stops Long e = refuses (TooLong i) (λ o. ap (λ (a : Result ℕ Excess). unless (fault_of a) i o) e)

    pub running_more : {m o : ℕ} → r ≡ Ok m → o ≡ origin_of k i (get_or xs b no_operand)
        → Running qs ws₀ ws' t count K h.path (set xs b (record { nodes = span used (used + m); from = o })) (b + 1) (used + m) (i + 1)
    running_more {m} {o} e at =
        record {
          kept = kept_more;
          stack = st;
          deep = omega (arith, u.deep);
          stacked = above
              (subst (λ (y : Operand). Standing qs ws' t K (used + m) y u.top) placed (standing_new given f e u.is))
              (ap (λ (y : Operand). y.from) (sym placed) ∙ at ∙ u.origin)
              (stacked_set b new (omega (arith, u.deep)) (stacked_kept f.kept (omega arith) u.stacked));
          sound = f.sound m e;
          small = omega (arith, g.small, f.few m e);
          here = omega arith;
          fewer = omega (arith, g.fewer, u.takes);
          long = length-set xs b new ∙ g.long;
          so_far =
              push_symbols k g.stack st u.pushes
              ∙ ap₂ (λ (ks : List Symbol) (y : Symbol). ks ++ (y ∷ [])) g.so_far is
              ∙ sym (of_next qs i (omega (arith, h.inside)));
          ahead = sym (ap (λ (ks : List Symbol). read ks g.stack) next ∙ ap (λ (a : Option Stack). go_on a (read ss)) u.pushes) ∙ g.ahead;
          left = λ S c a. sym (by_outcome S c a ∙ ap (λ (p : Result ℕ Excess). unless (fault_of p) i (refuse (part_fault S) (i + 1) (ended ss st) a)) e);
        }
      where
        new : Operand
        new = record { nodes = span used (used + m); from = o }

        placed : new ≡ get_or (set xs b new) (length u.below) no_operand
        placed = sym (ap (λ (k : ℕ). get_or (set xs b new) k no_operand) (sym u.deep) ∙ get_or-set_same xs b new no_operand (omega (arith, g.long, g.fewer, u.takes, h.few)))

  -- ---- the end
  module _ (l : count ≤ i) where
    none_left : symbols_from qs count i ≡ []
    none_left = let e : i ≡ count = omega (arith, g.here) in ap (symbols_from qs count) e ∙ ap question_symbols (slice_empty count qs)

    alone : g.stack ≡ h.path ∷ []
    alone = let e = ap (λ (ks : List Symbol). read ks g.stack) (sym none_left) ∙ g.ahead in cc

    last : Stacked qs ws t K used xs (h.path ∷ []) → Standing qs ws t K used (get_or xs 0 no_operand) h.path
    last (above w e below) = w

    pub running_end : InfersFirst qs ws₀ ws t count K (Ok (get_or xs 0 no_operand).nodes)
    running_end =
        record {
          kept = g.kept;
          nodes = λ x z. let a : (get_or xs 0 no_operand).nodes ≡ x = cc in subst (λ (y : Span). Nodes qs ws y.start y.end) a nodes;
          found = λ S k q m. let e : h.path ≡ q = cc in (
            λ o. sym (g.left S k o) ∙ ap (λ (ks : List Symbol). refuse (part_fault S) i (ended ks g.stack) o) none_left,
            top.is S k ∙ ap (triples S) e,
          );
        }
      where
        top : Standing qs ws t K used (get_or xs 0 no_operand) h.path
        top = last (subst (Stacked qs ws t K used xs) alone g.stacked)

        nodes : Nodes qs ws (get_or xs 0 no_operand).nodes.start (get_or xs 0 no_operand).nodes.end
        nodes =
            record {
              ordered = top.lies.ordered;
              few = top.few;
              short = top.short;
              numbers = omega (arith, top.lies.below, g.small, g.here, h.few);
              sound = record { good = λ k m. g.sound.good k (omega (arith, top.lies.below)) };
            }
