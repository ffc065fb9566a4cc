-- The next symbol of a question: it finds its operands' parts on the stack, its rule's demands are met, and the rule's triples are those of the path that it makes.
-- Assumes nothing.
use mathlib.Core.Path.{◌≡◌, refl, sym, ap, ap₂, ◌∙◌, subst}
use mathlib.Core.List.{List, [], ◌∷◌, ◌++◌, map-append}
use mathlib.Core.Option.{some}
use Prim.Native.Nat.{ℕ, ◌+◌, ◌-◌, ◌*◌, ◌<◌, ◌≤◌}
use native.Mathlib.Numerals.{add-one}
use native.Mathlib.Omega.{arith}
use lib.Dec.{ltb→lt}
use lib.ListN.{length, get_or, take, drop}
use lib.Seq.{take-suc, slice-cons}
use Rattle.std.proofs.lemmas.List.{take_all}
use native.Mathlib.Nat.{le_refl}
use Rattle.theory.specs.PathExpr.{Direction, named, PathExpr, step, closure, Symbol, s_step, s_join, s_op, s_closure}
use Rattle.theory.specs.Postfix.{Stack, two_operands, push, read, ended, path_of}
use Rattle.theory.specs.Sheet.{Sheet}
use Rattle.theory.specs.Inference.{Triple, distinct, of_closure, triples}
use Rattle.theory.specs.Narrowing.{Narrowing, refuse, part_fault}
use Rattle.theory.proofs.Postfix.{symbols, Step, read_step}
use Rattle.symbols.specs.Symbols.{symbol_numbered, operands}
use Rattle.symbols.proofs.Numbers.{step_below}
use Rattle.question.specs.Form.{question_symbols}
use Rattle.rows.specs.Kept.{Kept}
use Rattle.triples.specs.Paths.{original, Sound}
use Rattle.rules.specs.Requirements.{Room}
use Rattle.inference.specs.declared.Operand.{Operand}
use Rattle.inference.specs.Turns.{of_symbol, made_of, origin_of, TurnAsks}
use Rattle.inference.specs.Questions.{symbols_of, Asking, Sheeted}
use Rattle.triples.specs.Paths.{Coded}
use Rattle.inference.proofs.Codes.{Binary, join_binary, op_binary, step_triples, closure_triples}
use Rattle.inference.proofs.Originals.{symbols_length, top_back, top_original, top_copied}
use Rattle.inference.proofs.Stacks.{Standing, no_operand, Stacked, above, one_found, two_found}

-- ---- the symbols
-- those from the i-th on
abbrev pub symbols_from : List ℕ → ℕ → ℕ → List Symbol
symbols_from qs count i = question_symbols (drop i (take count qs))

pub from_next : (qs : List ℕ) (count i : ℕ) → i < count → count ≤ length qs → symbols_from qs count i ≡ symbol_numbered (get_or qs i 0) 0 ∷ symbols_from qs count (i + 1)
from_next qs count i l h = rw (add-one i) (ap question_symbols (slice-cons i count qs 0 l h))

pub of_next : (qs : List ℕ) (i : ℕ) → i < length qs → symbols_of qs (i + 1) ≡ symbols_of qs i ++ (symbol_numbered (get_or qs i 0) 0 ∷ [])
of_next qs i l = rw (add-one i) (ap question_symbols (take-suc qs i 0 l) ∙ map-append _ (take i qs) (get_or qs i 0 ∷ []))

-- what is asked of the first `count` symbols
pub record Asked (qs ws : List ℕ) (count K : ℕ) : Type 0 where
  pub inside : count ≤ length qs
  pub few : count ≤ 32
  pub known : (k : ℕ) → k < count → Coded (get_or qs k 0)
  pub path : PathExpr
  pub is : path_of (symbols_of qs count) ≡ some path
  pub room : 4097 ≤ length ws
  pub kinds : K ≤ 64

pub all_symbols : (qs : List ℕ) → symbols_of qs (length qs) ≡ question_symbols qs
all_symbols qs = ap question_symbols (take_all (length qs) qs (le_refl (length qs)))

abbrev pub asked : {qs ws : List ℕ} {K : ℕ} → Asking qs ws K → Asked qs ws (length qs) K
asked {qs} h =
    record {
      inside = le_refl (length qs);
      few = h.few;
      known = h.known;
      path = h.path;
      is = ap path_of (all_symbols qs) ∙ h.is;
      room = h.room;
      kinds = h.kinds;
    }

-- ---- what holds at the loop's head: i symbols are read, and the rest makes the path and has what is left of the refusals
pub record Running (qs ws₀ ws t : List ℕ) (count K : ℕ) (path : PathExpr) (xs : List Operand) (depth used i : ℕ) : Type 0 where
  pub kept : Kept 0 4097 ws₀ ws
  pub stack : Stack
  pub deep : depth ≡ length stack
  pub stacked : Stacked qs ws t K used xs stack
  pub sound : Sound qs ws used
  pub small : used ≤ 128 * i
  pub here : i ≤ count
  pub fewer : depth ≤ i
  pub long : length xs ≡ 33
  pub so_far : symbols stack ≡ symbols_of qs i
  pub ahead : read (symbols_from qs count i) stack ≡ some (path ∷ [])
  pub left : (S : Sheet) → Sheeted t K S → (o : Narrowing) → refuse (part_fault S) i (ended (symbols_from qs count i) stack) o ≡ refuse (part_fault S) 0 (ended (symbols_of qs count) []) o

-- ---- symbol k takes the parts from b on, which leaves the stack `below`, and makes the path `top`
pub record Turn (qs ws t : List ℕ) (K : ℕ) (xs : List Operand) (st : Stack) (k : Symbol) (depth used i b : ℕ) : Type 0 where
  pub below : Stack
  pub top : PathExpr
  pub pushes : push k st ≡ some (top ∷ below)
  pub takes : depth ≡ b + operands k
  pub deep : b ≡ length below
  pub stacked : Stacked qs ws t K used xs below
  pub origin : origin_of k i (get_or xs b no_operand) ≡ length (symbols below)
  pub asks : TurnAsks qs ws K k used i (get_or xs b no_operand) (get_or xs (b + 1) no_operand)
  pub is : (S : Sheet) → Sheeted t K S → made_of qs ws t K k i (get_or xs b no_operand) (get_or xs (b + 1) no_operand) ≡ triples S top

module _ {qs ws₀ ws t : List ℕ} {count K depth used i : ℕ} {xs : List Operand} (h : Asked qs ws₀ count K) (g : Running qs ws₀ ws t count K h.path xs depth used i) (l : i < count) where
  abbrev c : ℕ
  c = get_or qs i 0

  abbrev x : Symbol
  x = symbol_numbered c 0

  one : Step x (symbols_from qs count (i + 1)) g.stack h.path
  one =
      read_step x (symbols_from qs count (i + 1)) g.stack h.path
      (ap (λ (ss : List Symbol). read ss g.stack) (sym (from_next qs count i l (omega (arith, h.inside)))) ∙ g.ahead)

  room : Room qs ws used 0
  room =
      let z : used + 0 ≡ used = omega arith in
      record {
        room = omega (arith, g.small, h.few, h.room, g.kept.len);
        numbers = omega (arith, g.small, h.few);
        sound = rw z g.sound;
        few = omega arith;
      }

  in_array : i ≤ length qs
  in_array = omega (arith, h.inside)

  abbrev T : Symbol → ℕ → Type 0
  T k b = Turn qs ws t K xs g.stack k depth used i b

  step_turn : (d : Direction) (j : ℕ) → x ≡ s_step d (named j) → T (s_step d (named j)) depth
  step_turn d j s =
      subst (T (s_step d (named j))) (sym g.deep) (record {
        below = g.stack;
        top = step d (named j);
        pushes = refl;
        takes = omega (arith, g.deep);
        deep = refl;
        stacked = g.stacked;
        origin = sym (ap length g.so_far ∙ symbols_length qs i in_array);
        asks = record { kinds = h.kinds; room = room; parts = ltb→lt j 64 (step_below c 0 d (named j) s) };
        is = λ S r. step_triples r d j;
      })

  closure_over : (p : PathExpr) (rest : Stack) → g.stack ≡ p ∷ rest → Stacked qs ws t K used xs (p ∷ rest) → T s_closure (depth - 1)
  closure_over p rest e (above w f below) =
      let o = (get_or xs (length rest) no_operand).from in
      let so_far : symbols (p ∷ rest) ≡ symbols_of qs i = ap symbols (sym e) ∙ g.so_far in
      let back : o ≤ i = top_back qs p rest o i in_array so_far f in
      let d : length rest ≡ depth - 1 = omega (arith, g.deep, ap length e) in
      subst (T s_closure) d (record {
        below = rest;
        top = closure p;
        pushes = ap (push s_closure) e;
        takes = omega (arith, g.deep, ap length e);
        deep = refl;
        stacked = below;
        origin = f;
        asks = record {
          kinds = h.kinds;
          room = room;
          parts = (
            back,
            record {
              room = room;
              lies = w.lies;
              few = w.few;
              norepeat = w.norepeat;
              copied = top_copied qs p rest o i in_array so_far f (λ k m. h.known k (omega arith));
              place = omega (arith, back, h.few);
              symbols = omega (arith, h.few);
            },
          );
        };
        is = λ S r.
            ap₂ (λ (p : PathExpr) (ts : List Triple). distinct (of_closure 64 p ts)) (top_original qs p rest o i in_array so_far f) (w.is S r)
            ∙ closure_triples r p;
      })

  closure_turn : x ≡ s_closure → T s_closure (depth - 1)
  closure_turn s =
      let (p, rest, e) = one_found closure g.stack one.next (ap (λ (y : Symbol). push y g.stack) (sym s) ∙ one.pushes) in
      closure_over p rest e (subst (Stacked qs ws t K used xs) e g.stacked)

  two_over : (k : Symbol) (b : Binary k) (q p : PathExpr) (rest : Stack) → g.stack ≡ q ∷ p ∷ rest → Stacked qs ws t K used xs (q ∷ p ∷ rest) → T k (depth - operands k)
  two_over k b q p rest e (above v₀ f₀ (above w f below)) =
      let v = subst (λ (n : ℕ). Standing qs ws t K used (get_or xs n no_operand) q) (sym (add-one (length rest))) v₀ in
      let o = (get_or xs (length rest) no_operand).from in
      let first = original qs o (i - o) in
      let d : length rest ≡ depth - operands k = omega (arith, b.takes, g.deep, ap length e) in
      subst (T k) d (record {
        below = rest;
        top = b.make p q;
        pushes = b.pushes g.stack ∙ ap (two_operands b.make) e;
        takes = omega (arith, b.takes, g.deep, ap length e);
        deep = refl;
        stacked = below;
        origin = b.starts i (get_or xs (length rest) no_operand) ∙ f;
        asks = record {
          kinds = h.kinds;
          room = room;
          parts = b.asks qs ws used i (get_or xs (length rest) no_operand) (get_or xs (length rest + 1) no_operand)
              (record { two = record { room = room; left = w.lies; right = v.lies }; left_short = w.short; right_short = v.short });
        };
        is = λ S r.
            ap₂ (λ (us vs : List Triple). distinct (of_symbol t K k first us vs)) (w.is S r) (v.is S r)
            ∙ b.gives t K S first p q;
      })

  two_turn : (k : Symbol) → Binary k → x ≡ k → T k (depth - operands k)
  two_turn k b s =
      let (q, p, rest, e) = two_found b.make g.stack one.next (sym (b.pushes g.stack) ∙ ap (λ (y : Symbol). push y g.stack) (sym s) ∙ one.pushes) in
      two_over k b q p rest e (subst (Stacked qs ws t K used xs) e g.stacked)

  turn : (k : Symbol) → x ≡ k → T k (depth - operands k)
  turn (s_step d (named j)) s = let z : depth ≡ depth - 0 = omega arith in subst (T (s_step d (named j))) z (step_turn d j s)
  turn (s_join v) s = two_turn (s_join v) (join_binary v) s
  turn (s_op o) s = two_turn (s_op o) (op_binary o) s
  turn s_closure s = closure_turn s

  -- what the code knows: the symbol, and how many operands it takes
  module _ {k : Symbol} (is : k ≡ symbol_numbered (get_or qs i 0) 0) {n : ℕ} (takes : n ≡ operands k) where
    pub enough : n ≤ depth
    enough = omega (arith, (turn k (sym is)).takes, takes)

    pub turn_at : Turn qs ws t K xs g.stack k depth used i (depth - n)
    turn_at = subst (λ (m : ℕ). T k (depth - m)) (sym takes) (turn k (sym is))
