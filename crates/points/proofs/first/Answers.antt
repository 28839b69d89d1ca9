-- `points::first` meets its contract. Assumes nothing.
use Rattle.points.proofs.Laws.{trailing_first}
use Rattle.points.proofs.first.Goals as goal

pub returns : goal.returns
returns c = trailing_first _
