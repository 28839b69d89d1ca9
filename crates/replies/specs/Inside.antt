-- What the functions behind the reply compute. A reader of the rules can leave this page out: the open functions' contracts do
-- not cite it. Assumes nothing.
use Rattle.std.specs.Prelude.{Bool, not, ◌||◌, map, ℕ, ltb, get_or, if◌then◌else◌}
use Rattle.points.specs.Sets.{member, from}
use Rattle.plan.specs.Limits.{most_points}
use Rattle.board.specs.declared.Board.{Board}
use Rattle.windows.specs.declared.Windows.{Windows}
use Rattle.replies.specs.declared.State.{State}
use Rattle.replies.specs.declared.State.TheVariants.{Done, Watched, Shut, Held, Offered}
use Rattle.replies.specs.declared.Place.{Place}
use Rattle.replies.specs.declared.Outcome.{Outcome}
use Rattle.replies.specs.declared.Reply.{Reply}

-- a point's state, from what the board, the links and the windows say of it
unfoldable pub state_from : Bool → ℕ → Bool → Bool → ℕ → Bool → ℕ → ℕ → State
state_from done minute watches opens holder offers latest low =
    if done then Done minute
    else (if watches then Watched
    else (if not opens then Shut holder
    else (if not offers || ltb latest low then Held
    else Offered low)))

-- a point's place
abbrev pub place_from : Board → ℕ → Windows → Bool → ℕ → ℕ → Place
place_from b watches w offers latest q =
    record {
      state = state_from (member b.done q) (get_or b.minutes q 0) (member watches q) (member w.opens q) (get_or w.holders q 0) offers latest (get_or w.lows q 0);
    }

-- a reply with its list
abbrev pub list_from : Outcome → Board → ℕ → Windows → Bool → ℕ → Reply
list_from o b watches w offers latest = record { outcome = o; latest = latest; places = map (place_from b watches w offers latest) (from 0 most_points) }
