-- A row that repeats an earlier one adds nothing.
-- Assumes nothing.
use mathlib.Core.Path.{◌≡◌, refl, sym, subst, ◌∙◌}
use mathlib.Core.Bool.{Bool, true, false, true≢false}
use mathlib.Core.List.{List, Memᴰ as In}
use Prim.Native.Nat.{ℕ, ◌+◌, ◌<◌, ◌≤◌}
use native.Mathlib.Omega.{arith}
use Rattle.theory.specs.Inference.{Triple, triple?}
use Rattle.algorithms.proofs.Growth.{adjoin_all_none}
use Rattle.theory.proofs.Triples.{triple_eq, triple_refl}
use Rattle.rows.proofs.Words.{kept_refl}
use Rattle.triples.specs.declared.Node.{Node}
use Rattle.triples.specs.Table.{Loaded}
use Rattle.triples.specs.Tests.{Decides}
use Rattle.triples.specs.Paths.{triple_of, Has}
use Rattle.triples.specs.Parts.{part_of, span}
use Rattle.rules.specs.declared.PairOperator.{PairOperator}
use Rattle.rules.specs.declared.PairOperator.TheVariants.{BranchLeft}
use Rattle.rules.specs.Outcome.{Adds}
use Rattle.rules.specs.Requirements.{part, row_of, AddNewRow}
use Rattle.rules.specs.Repeated.{Alike, StandsAlike, Repeats}
use Rattle.rules.proofs.TwoLists.{left_rows}
use Rattle.rules.proofs.Pairs.{from_is}

-- ---- two nodes
pub not_alike : (qs ws : List ℕ) (i j : ℕ) → Alike qs ws i j false
not_alike qs ws i j = record { same_from = λ e. absurd (true≢false (sym e)); same_path = λ e. absurd (true≢false (sym e)) }

pub alike_paths : {qs ws : List ℕ} {i j : ℕ} {x y : Node} {r : Bool} → Loaded ws i x → Loaded ws j y → x.from.0 ≡ y.from.0 → Decides ((triple_of qs ws i).path ≡ (triple_of qs ws j).path) r
    → Alike qs ws i j r
alike_paths {qs} lx ly e d = record { same_from = λ _. sym (from_is qs lx) ∙ e ∙ from_is qs ly; same_path = d.holds }

-- ---- the search
pub has_below : {qs ws : List ℕ} {used i j : ℕ} → Has qs ws used i → j < i → Has qs ws used j
has_below h l = record { in_use = omega (arith, h.in_use); in_table = h.in_table; sound = h.sound }

pub none_alike : (qs ws : List ℕ) (p i : ℕ) → StandsAlike qs ws p i false
none_alike qs ws p i = record { found = λ e. absurd (true≢false (sym e)) }

pub one_alike : {qs ws : List ℕ} {p i j : ℕ} {r : Bool} → p ≤ j → j < i → Alike qs ws i j r → r ≡ true → StandsAlike qs ws p i true
one_alike {qs} {ws} {i = i} {j} l b a t = record { found = λ _. (j, l, b, subst (Alike qs ws i j) t a) }

-- ---- a row that was made
pub not_found : (qs ws : List ℕ) (o : PairOperator) (p i : ℕ) → Repeats qs ws o p i false
not_found qs ws o p i = record { found = λ e. absurd (true≢false (sym e)) }

pub found_row : {qs ws : List ℕ} {o : PairOperator} {p i : ℕ} {r : Bool} → o ≡ BranchLeft → StandsAlike qs ws p i r → Repeats qs ws o p i r
found_row {qs} {ws} {i = i} m a =
    record {
      found = λ e.
          let (j, l, b, k) = a.found e in
          record { node = j; least = l; below = b; same_rows = λ ys. rw m (left_rows (triple_of qs ws i) (triple_of qs ws j) ys (k.same_from refl) (k.same_path refl)) };
    }

-- ---- the row
pub row_repeated : {qs ws : List ℕ} {o : PairOperator} {s count p i q e : ℕ} {r : Bool} → AddNewRow qs ws o s count p i (span q e) → Repeats qs ws o p i r → r ≡ true
    → Adds qs ws ws s count count (row_of qs ws o i q e)
row_repeated {qs} {ws} {o} {s} {count} {p} {i} {q} {e} h f t =
    let w = f.found t in
    let inside : (x : Triple) → In x (row_of qs ws o i q e)
    → In x (part_of qs ws s count) = λ x m. h.stand w.node w.least w.below x (subst (λ (l : List Triple). In x l) (w.same_rows (part qs ws q e)) m) in
    record {
      kept = kept_refl (s + count) (s + 129) ws;
      sound = h.row.room.sound;
      few = λ _. sym (adjoin_all_none triple? triple_eq triple_refl (part_of qs ws s count) (row_of qs ws o i q e) inside);
      many = λ l. absurd (omega (arith, h.row.room.few));
      bound = omega (arith, h.row.room.few);
    }
