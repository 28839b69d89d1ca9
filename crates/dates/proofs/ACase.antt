-- Known dates, computed by the checker: a page of its own, since it is quick, and `Sums` builds on it, so that a wrong
-- calendar is refused here first, with the row that is wrong. Assumes nothing.
use mathlib.Core.Path.{refl}
use Rattle.dates.specs.Gregorian.{leap, days_in, is_date, next_day, days_later, is_origin, shown, next_minute}
use Rattle.dates.specs.Counting.{days_of, before}
use Rattle.dates.specs.Known.{those, AsKnown}

-- The tables hold.
pub as_known : AsKnown
unfolding leap days_in is_date next_day days_later is_origin shown next_minute days_of before those
as_known =
    record {
      leap_so = refl;
      all_origins = refl;
      none = refl;
      next_so = refl;
      shown_so = refl;
      others_so = refl;
      farther_so = refl;
      numbered_so = refl;
    }
