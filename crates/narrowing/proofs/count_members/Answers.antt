-- `narrowing::count_members` meets its contract: the triples in the order of `arrange` group into exactly the members, of which `measure` tells number and bytes.
-- Assumes nothing.
use Prim.Native.Nat.{ℕ}
use lib.ListN.{length-replicate}
use Rattle.narrowing.proofs.Filing.{arranging, front, measuring, counted}
use Rattle.narrowing.proofs.count_members.Goals as goal

pub arrange-requires : goal.arrange-requires
arrange-requires c = arranging c.requires _ (front c.requires _ (length-replicate {A = ℕ} 128 0))

pub measure-size-requires : goal.measure-size-requires
measure-size-requires c = measuring c.requires (front c.requires _ (length-replicate {A = ℕ} 128 0)) c.arrange.ensures _

pub returns : goal.returns
returns c = counted c.requires (front c.requires _ (length-replicate {A = ℕ} 128 0)) c.arrange.ensures _ c.measure-size.ensures
