-- std's digits of a number of 64 bits are its decimal digits, of which it has at most 20.
-- Assumes nothing.
use Rattle.std.proofs.Common.{◌≡◌, ℕ, ◌^◌, ◌<◌, sym, arith, rules}
use Rattle.std.proofs.lemmas.Fmt.{decimal_from_appends, length-decimal-le}
use Rattle.std.specs.Fmt.{decimal as digits}
use Rattle.printing.specs.Text.{last_digits, decimal}

pub decimal_same : (n : ℕ) → n < 2 ^ 64 → digits n ≡ decimal n
unfolding decimal
decimal_same n h = sym (decimal_from_appends last_digits (search rules) 20 n h (length-decimal-le 20 n (omega arith) (omega arith) h))
