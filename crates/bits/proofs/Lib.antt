pub mod Bits
pub mod TrailingZeros
