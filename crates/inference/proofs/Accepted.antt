-- A question whose file is accepted may be inferred.
-- Assumes nothing.
use mathlib.Core.Path.{◌≡◌, refl}
use mathlib.Core.List.{List}
use Prim.Native.Nat.{ℕ, ◌-◌, ◌≤◌}
use native.Mathlib.Omega.{arith}
use lib.ListN.{length, get_or, take, replicate}
use lib.Seq.{take_at}
use Rattle.theory.specs.Result.{got}
use Rattle.fields.specs.Padded.{padded}
use Rattle.fields.specs.Reading.{read}
use Rattle.symbols.proofs.Numbers.{code_number}
use Rattle.question.specs.Form.{question_form}
use Rattle.question.proofs.Paths.{accepted_question}
use Rattle.inference.specs.Questions.{Asking}

-- its codes are the first of the array
pub taken_codes : (n : ℕ) (cs : List ℕ) → take (length cs) (padded n cs) ≡ cs
unfolding padded
taken_codes n cs = take_at cs (replicate (n - length cs) 0) (length cs) refl

pub asks : (s cs : List ℕ) → read question_form s ≡ got cs → (ws : List ℕ) (K : ℕ) → 4097 ≤ length ws → K ≤ 64 → Asking cs ws K
asks s cs e ws K room kinds =
    let (p, a) = accepted_question s cs e in
    record {
      few = omega (arith, a.few, a.count);
      known = λ k l. record { is = code_number (get_or cs k 0) (a.known k l) };
      path = p;
      is = a.path;
      room = room;
      kinds = kinds;
    }
