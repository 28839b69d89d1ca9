-- The four bytes of a number, handed on from `numbers`. Assumes nothing.
pub use Rattle.numbers.proofs.Words.{word_back}
