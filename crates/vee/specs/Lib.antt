-- What a reader has to believe of the plan test: `PlanTest`, over `Judging` of `projection`. `TestOf` is the same test, computed, with the
-- numbers of `Tables`. `Walked` is what inner functions' contracts cite. No proofs are here.
pub mod Tables
pub mod PlanTest
pub mod TestOf
pub mod Walked
