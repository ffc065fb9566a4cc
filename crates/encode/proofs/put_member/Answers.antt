-- `encode::put_member` meets its contract: a member is its field 42, which tells n, and the fields of its n symbols.
-- Assumes nothing.
use Rattle.encode.proofs.Parts.{member_wrote}
use Rattle.encode.proofs.put_member.Goals as goal

pub returns : goal.returns
returns c =
    member_wrote _ _ c.args.n c.args.k c.args.from c.args.to c.put_open-a.ensures c.put_symbols.ensures
