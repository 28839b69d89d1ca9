-- An event's fields together. No reader of the rules needs this page. Assumes nothing.
use Rattle.std.specs.Prelude.{List, ℕ}
use Rattle.events.specs.Fields.{event_minute, event_point, event_set}
use Rattle.events.specs.declared.Event.{Event}

abbrev pub event_in : List ℕ → Event
event_in s = record { minute = event_minute s; point = event_point s; set = event_set s }
