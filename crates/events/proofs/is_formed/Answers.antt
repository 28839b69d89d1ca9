-- `events::is_formed` meets its contract. Assumes nothing.
use borrow.Author.Tests.{eq-eqb, ne_eqb}
use Rattle.events.proofs.is_formed.Goals as goal

pub returns-then-bytes-ne-RECORD_BYTES : goal.returns-then-bytes-ne-RECORD_BYTES
returns-then-bytes-ne-RECORD_BYTES c = rw (ne_eqb _ _ c.if-bytes-ne-RECORD_BYTES.true)

pub returns : goal.returns
returns c = rw (eq-eqb _ _ c.if-bytes-ne-RECORD_BYTES.false, c.subset.ensures, c.from.ensures, c.first_points-all.ensures, c.event_in-e.ensures.0, c.word_at.ensures)
