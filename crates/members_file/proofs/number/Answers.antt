-- `members_file::number` meets its contract: each symbol keeps its code, but a join with a set that is not empty.
-- Assumes nothing.
use Rattle.symbols.proofs.Numbers.{decoded}
use Rattle.triples.proofs.Comparing.{unlike}
use Rattle.members_file.proofs.Symbols.{kept_code, set_join}
use Rattle.members_file.proofs.number.Goals.{in-Join, in_default, else-matches-via-then-matches+else-set-ne0, else-matches-via-else-matches}
use Rattle.members_file.proofs.number.Goals as goal

pub returns-then-set-ne0 : goal.returns-then-set-ne0
returns-then-set-ne0 c =
    elim c.match-matches.branch [
      | in-Join w ↦ set_join _ _ (decoded c.decode.ensures w.in-Join.is) c.if-set-ne0.true
      | in_default w ↦ unlike w.matches-is c.if-matches.true
    ]

pub returns : goal.returns
returns c =
    elim c.else-matches.branch [
      | else-matches-via-then-matches+else-set-ne0 w ↦ kept_code _ _ _ c.decode.ensures (λ v e. w.if-set-ne0.false)
      | else-matches-via-else-matches w ↦ elim c.match-matches.branch [
        | in-Join u ↦ unlike w.if-matches.false u.matches-is
        | in_default u ↦ kept_code _ _ _ c.decode.ensures (λ v e. absurd (u.in_default.not-Join v e))
      ]
    ]
