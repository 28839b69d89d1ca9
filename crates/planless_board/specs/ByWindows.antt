-- What the links l and the windows w say of a board b: the reply, and an event s taken. The definitions stand in `replies` and
-- `board`, and are handed on. No reader of the rules needs this page. Assumes nothing.
unfoldable pub use Rattle.replies.specs.ByWindows.{reply_by}
pub use Rattle.board.specs.ByWindows.{next_by, event_by, taken_by}
