-- a loop that writes a list piece by piece
pub mod Filling
-- a loop over numbers, of which each has its piece
pub mod Pieces
-- the lines of pairs
pub mod Lines
-- digits
pub mod Decimal
-- how long a text can be
pub mod Room
-- answers that agree have one text
pub mod Same
-- what std's chains give of the numbers below n
pub mod Chains
