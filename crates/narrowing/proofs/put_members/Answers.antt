-- `narrowing::put_members` meets its contract: the bytes counted are the length of the file, so that 14 is told just where it has no room.
-- Assumes nothing.
use Rattle.narrowing.proofs.Filing.{put_short, filing, put_filed}
use Rattle.narrowing.proofs.put_members.Goals as goal

pub returns-then-file-size : goal.returns-then-file-size
returns-then-file-size c = put_short c.if-file-size.true

pub put_file-bytes-requires : goal.put_file-bytes-requires
put_file-bytes-requires c = filing c.requires c.if-file-size.false

pub returns : goal.returns
returns c = put_filed c.if-file-size.false c.put_file-bytes.ensures
