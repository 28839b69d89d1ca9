-- The theorems of the promise, for later crates to cite: `yes_finishes`, `yes_promised` and `yes_exactly_the_good` of
-- `TestYes`; `yes_ends` of `Ends`, how the programs end; `executor` of `Executor`; `happening_accepted`, `happened_promised`
-- and `finishes` of `Play`; `at_durations` of `Lasting`; `some_players` of `Players`; `exactly_the_good` of `LetThrough`, with
-- `good_given` of `GoodSheets` and `through_good`; `untied_forbidden` of `Untied`; `event_starts` and `event_chained` of `Chains`;
-- `ring_reported` of `Rings`; `which_call` and `refused_changes_none` of `Calls`; and computed, the day of the haul of document 01, in `Day`, and two trucks in a chain with a
-- ring, in `AChain`, of which `instances` has the theorems. The others lead up to these.
pub mod AChain
pub mod Day
pub mod Nets
pub mod Gathering
pub mod Boards
pub mod Standing
pub mod Executor
pub mod Happening
pub mod Making
pub mod Players
pub mod Play
pub mod Lasting
pub mod After
pub mod Orders
pub mod Sheets
pub mod GoodSheets
pub mod LetThrough
pub mod Keeping
pub mod TestYes
pub mod DemandThree
pub mod Answers
pub mod Ends
pub mod Untied
pub mod Chains
pub mod Calls
pub mod Rings
