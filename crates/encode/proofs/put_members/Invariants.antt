-- `encode::put_members` meets its contract: after i members the bytes of the others are what is left of the file; with at most 48 symbols to a member, k stays in the arrays.
use Rattle.encode.proofs.Members.{Placed}
use Rattle.encode.proofs.put_members.Given as goal

abbrev pub invariant-loop-i : goal.invariant-loop-i
invariant-loop-i l = Placed l.initial.out l.initial.a l.q l.out l.a l.i l.k
