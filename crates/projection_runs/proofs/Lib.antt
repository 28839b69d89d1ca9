-- The modules of proofs that belong to no one function. Other crates cite the ones that are `pub`: `runs_well`, `is_play`, `on_the_way`,
-- `play_along` and `not_later` of `OnRuns`; `aim_is`, `aiming` and `aims` of `TheAim`; `few_of_run` and `rooms_ready` of `Going`. `ABoard` has
-- worked cases.
pub mod ABoard
pub mod Alike
pub mod TheAim
pub mod OnRuns
pub mod Going
