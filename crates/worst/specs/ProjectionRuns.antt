-- Document 02, §13, "Worst finishing minute": the run of a projection, from the fresh board, is in `projection_runs`; this page hands it
-- on. Assumes nothing.
pub use Rattle.projection_runs.specs.ProjectionRuns.{is_offered, offered, aim, aimed, falls, next_event, after, run_of, events_of_run}
unfoldable pub use Rattle.projection_runs.specs.ProjectionRuns.{run_from, events_from}
