-- One member: the pairs of its route whose ends are of two sets' kinds are the member's.
-- Assumes nothing.
use mathlib.Core.Path.{◌≡◌, ap, ap₂, ◌∙◌}
use mathlib.Core.Bool.{Bool, ◌&&◌, ◌||◌}
use mathlib.Core.List.{List}
use mathlib.Core.Logic.{⊎_elim}
use Prim.Native.Nat.{ℕ, ◌/◌, ◌<◌, ◌≤◌}
use native.Mathlib.Omega.{arith}
use Rattle.theory.specs.KindSet.{has}
use Rattle.theory.specs.PathExpr.{PathExpr}
use Rattle.theory.specs.Register.{kind}
use Rattle.theory.specs.Merging.{member}
use Rattle.theory.specs.Evaluation.{member_answer}
use Rattle.register.specs.Form.{register_in}
use Rattle.rows.proofs.Words.{le_or_lt}
use Rattle.rows.proofs.Masks.{mask_at}
use Rattle.relation.specs.Pairs.{pair_at, Made}
use Rattle.relation.proofs.Making.{made_is}
use Rattle.evaluation.specs.Grounded.{Grounded}
use Rattle.evaluation.proofs.Grounds.{limits, rows_hold}
use Rattle.evaluation.proofs.Tables.{evaluate_past}
use Rattle.kind_rows.specs.Kinds.{KindRows, in_set}
use Rattle.kind_rows.proofs.Tables.{set_has}
use Rattle.chains.specs.Routed.{routed, Leads}

pub added : {s : List ℕ} {n w : ℕ} {kinds answer answer' : List ℕ} (ground : Grounded s n w) (xs bases masks : List ℕ) (m from to : ℕ) (p : PathExpr) → KindRows (register_in s) n w kinds
    → Leads (register_in s) xs bases masks n w m p
    → Made 0 n w (λ i t. pair_at answer 0 w i t || (routed xs bases masks n w m i t && (in_set kinds w from i && in_set kinds w to t))) answer answer'
    → Made 0 n w (λ i t. pair_at answer 0 w i t || member_answer (register_in s) i t (member from p to)) answer answer'
added {s} {n} {w} {kinds} {answer} ground xs bases masks m from to p k l made = made_is made (λ i t hi ht. ap (λ (x : Bool). pair_at answer 0 w i t || x) (ends i t hi ht))
  where
    set_is : (set t : ℕ) → t < n → t / 64 < w → in_set kinds w set t ≡ has set (kind (register_in s) t)
    set_is set t h ht = set_has ground set k t ht ∙ mask_at (λ t. has set (kind (register_in s) t)) n t h

    ends : (i t : ℕ) → i < n → t / 64 < w → routed xs bases masks n w m i t && (in_set kinds w from i && in_set kinds w to t) ≡ member_answer (register_in s) i t (member from p to)
    ends i t hi ht =
        ⊎_elim
        (λ (h : n ≤ t). rw (l i t hi ht, evaluate_past (register_in s) (limits ground).formed p i t (omega (arith, ground.count))))
        (λ (h : t < n). ap₂ ◌&&◌ (l i t hi ht) (ap₂ ◌&&◌ (set_is from i hi (omega (arith, rows_hold ground))) (set_is to t h ht)))
        (le_or_lt n t)
