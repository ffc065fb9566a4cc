-- `answer::add_member` meets its contract: the pairs of its route between the two sets are the member's.
-- Assumes nothing.
use Rattle.kind_rows.proofs.Tables.{of_records}
use Rattle.evaluation.proofs.Grounds.{grounded}
use Rattle.answer.proofs.Masked.{added}
use Rattle.answer.proofs.add_member.Goals as goal

pub add_pairs-requires : goal.add_pairs-requires
add_pairs-requires c =
    let t = c.args.table.now in
    (c.requires.room.1, t.filled.room, of_records t.filled)

pub returns : goal.returns
returns c =
    let a = c.args in
    let t = a.table.now in
    let v = c.member_route.ensures in
    let r = c.member_route.new.route in record {
      held = v.held;
      adds = λ x e. record { pairs = added (grounded t.ground) _ r.bases r.masks r.links a.from a.to x t.filled (v.leads x e) c.add_pairs.ensures; kept = v.kept };
    }
