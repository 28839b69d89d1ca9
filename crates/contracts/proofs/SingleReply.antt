-- What each open function ensures permits a single reply for each argument, lent rooms included, and none asks anything. A contract
-- that is an equation does so by one law; that of the plan test does by `one_answer`, that of the lighter plan by `one_lighter`, and those of the
-- engine as `Rooms` and `Begins` say; for those over lent rooms of `ponds` see `Ponds`. Assumes nothing.
use mathlib.Core.Path.{◌≡◌, sym, ◌∙◌}
use Rattle.vee.proofs.Single.{one_answer}
use Rattle.lighter.proofs.Theorems.{one_lighter}
use Rattle.contracts.specs.Rows.{SingleReplies}
use Rattle.contracts.proofs.Begins.{one_started, same_rooms}
use Rattle.contracts.proofs.Ponds.{one_lightened, begun_same, one_take, one_said}
use Rattle.contracts.proofs.Rooms.{one_board, one_reply, one_taken, one_room}

-- an equation permits one
same : {A : Type 0} {x r r' : A} → r ≡ x → r' ≡ x → r ≡ r'
same e f = e ∙ sym f

pub single_replies : SingleReplies
single_replies =
    record {
      has = (λ κ a. tt, λ κ a r r' o o' x y. same x y);
      with = (λ κ a. tt, λ κ a r r' o o' x y. same x y);
      without = (λ κ a. tt, λ κ a r r' o o' x y. same x y);
      count = (λ κ a. tt, λ κ a r r' o o' x y. same x y);
      first = (λ κ a. tt, λ κ a r r' o o' x y. same x y);
      below = (λ κ a. tt, λ κ a r r' o o' x y. same x y);
      members = (λ κ a. tt, λ κ a r r' o o' x y. same x y);
      subset = (λ κ a. tt, λ κ a r r' o o' x y. same x y);
      read = (λ κ a. tt, λ κ a r r' o o' x y. same x y);
      check = (λ κ a. tt, λ κ a r r' o o' x y. same x y);
      write = (λ κ a. tt, λ κ a r r' o o' x y. same x.0 y.0);
      write_leaves = λ κ a r r' o o' x y. same x.1 y.1;
      split = (λ κ a. tt, λ κ a r r' o o' x y. same x y);
      points_of_lem = (λ κ a. tt, λ κ a r r' o o' x y. same x y);
      links_of = (λ κ a. tt, λ κ a r r' o o' x y. same x y);
      link_to_lem = (λ κ a. tt, λ κ a r r' o o' x y. same x y);
      is_watched = (λ κ a. tt, λ κ a r r' o o' x y. same x y);
      used = (λ κ a. tt, λ κ a r r' o o' x y. same x y);
      new = (λ κ a. tt, λ κ a r r' o o' x y. same x y);
      import = (λ κ a. tt, λ κ a r r' o o' x y. same x y);
      begin_text = (λ κ a. tt, λ κ a r r' o o' x y. same x y);
      feed = (λ κ a. tt, λ κ a r r' o o' x y. same x y);
      finish = (λ κ a. tt, λ κ a r r' o o' x y. same x y);
      pack = (λ κ a. tt, λ κ a r r' o o' x y. same x.0 y.0);
      pack_leaves = λ κ a r r' o o' x y. same x.1 y.1;
      record_line_lem = (λ κ a. tt, λ κ a r r' o o' x y. same x y);
      bound_kept_lem = (λ κ a. tt, λ κ a r r' o o' x y. same x y);
      both_in_lem = (λ κ a. tt, λ κ a r r' o o' x y. same x y);
      fresh = (λ κ a. tt, λ κ a r r' o o' x y. same x y);
      minute_of_lem = (λ κ a. tt, λ κ a r r' o o' x y. same x y);
      take_event = (λ κ a. tt, λ κ a r r' o o' x y. same x y);
      take_all = (λ κ a. tt, λ κ a r r' o o' x y. same x.0 y.0);
      take_all_leaves = λ κ a r r' o o' x y. same x.1 y.1;
      is_sound = (λ κ a. tt, λ κ a r r' o o' x y. same x y);
      is_finished = (λ κ a. tt, λ κ a r r' o o' x y. same x y);
      reply_of_lem = (λ κ a. tt, λ κ a r r' o o' x y. same x.0 y.0);
      begin = (λ κ a. tt, λ κ a r r' o o' x y. one_started _ r r' _ _ _ _ _ _ _ _ _ _ _ _ _ _ _ x y);
      begin_leaves_rows = λ κ a r r' o o' x y. (same_rooms _ r r' _ _ _ _ _ _ _ _ _ _ _ _ _ _ _ x y).rows_same;
      begin_leaves_into = λ κ a r r' o o' x y. (same_rooms _ r r' _ _ _ _ _ _ _ _ _ _ _ _ _ _ _ x y).into_same;
      begin_leaves_out = λ κ a r r' o o' x y. (same_rooms _ r r' _ _ _ _ _ _ _ _ _ _ _ _ _ _ _ x y).out_same;
      begin_leaves_ends = λ κ a r r' o o' x y. (same_rooms _ r r' _ _ _ _ _ _ _ _ _ _ _ _ _ _ _ x y).ends_same;
      begin_leaves_kept = λ κ a r r' o o' x y. (same_rooms _ r r' _ _ _ _ _ _ _ _ _ _ _ _ _ _ _ x y).kept_same;
      board_of_lem = (λ κ a. tt, λ κ a r r' o o' x y. one_board _ r r' x y);
      reply = (λ κ a. tt, λ κ a r r' o o' x y. one_reply _ _ _ _ r r' x y);
      take = (λ κ a. tt, λ κ a r r' o o' x y. one_taken _ _ _ _ _ _ _ r r' _ _ x y);
      take_leaves = λ κ a r r' o o' x y. one_room _ _ _ _ _ _ _ r r' _ _ x y;
      ended = (λ κ a. tt, λ κ a r r' o o' x y. same x y);
      verdict_of_lem = (λ κ a. tt, λ κ a r r' o o' x y. same x.0 y.0);
      judge = λ p b list r r'. same;
      judge_list = (λ κ a. tt, λ κ a r r' o o' x y. same x y);
      test = (λ κ a. tt, λ κ a r r' o o' x y. one_answer x.0 y.0);
      worst_of_lem = (λ κ a. tt, λ κ a r r' o o' x y. same x y);
      day_of_lem = (λ κ a. tt, λ κ a r r' o o' x y. same x.0 y.0);
      day_of_leaves = λ κ a r r' o o' x y. same x.1 y.1;
      close = (λ κ a. tt, λ κ a r r' o o' x y. same x y);
      lighter_of = (λ κ a. tt, λ κ a r r' o o' x y. one_lighter x y);
      is_origin_lem = (λ κ a. tt, λ κ a r r' o o' x y. same x y);
      shown = (λ κ a. tt, λ κ a r r' o o' x y. same x y);
      most_text_lem = (λ κ a. tt, λ κ a r r' o o' x y. same x y);
      write_calendar = (λ κ a. tt, λ κ a r r' o o' x y. same x.0 y.0);
      write_calendar_leaves = λ κ a r r' o o' x y. same x.1 y.1;
      blank = (λ κ a. tt, λ κ a r r' o o' x y. same x y);
      plan_line_lem = (λ κ a. tt, λ κ a r r' o o' x y. same x y);
      numbers_line_lem = (λ κ a. tt, λ κ a r r' o o' x y. same x y);
      event_line_lem = (λ κ a. tt, λ κ a r r' o o' x y. same x y);
      reply_line_lem = (λ κ a. tt, λ κ a r r' o o' x y. same x y);
      test_line_lem = (λ κ a. tt, λ κ a r r' o o' x y. same x y);
      board_line_lem = (λ κ a. tt, λ κ a r r' o o' x y. same x y);
      point_line_lem = (λ κ a. tt, λ κ a r r' o o' x y. same x y);
      tail_line_lem = (λ κ a. tt, λ κ a r r' o o' x y. same x y);
      end_line_lem = (λ κ a. tt, λ κ a r r' o o' x y. same x y);
      ponds_check = (λ κ a. tt, λ κ a r r' o o' x y. same x y);
      ponds_test = (λ κ a. tt, λ κ a r r' o o' x y. same x.0 y.0);
      ponds_test_leaves = λ κ a r r' o o' x y. same x.1 y.1;
      ponds_worst = (λ κ a. tt, λ κ a r r' o o' x y. same x.0 y.0);
      ponds_worst_leaves = λ κ a r r' o o' x y. same x.1 y.1;
      ponds_day = (λ κ a. tt, λ κ a r r' o o' x y. same x.0 y.0);
      ponds_day_leaves = λ κ a r r' o o' x y. same x.1 y.1;
      ponds_import = (λ κ a. tt, λ κ a r r' o o' x y. same x.0 y.0);
      ponds_import_leaves = λ κ a r r' o o' x y. same x.1 y.1;
      ponds_close = (λ κ a. tt, λ κ a r r' o o' x y. same x.0 y.0);
      ponds_close_leaves = λ κ a r r' o o' x y. same x.1 y.1;
      ponds_lighter = (λ κ a. tt, λ κ a r r' o o' x y. (one_lightened _ _ _ x y).0);
      ponds_lighter_leaves = λ κ a r r' o o' x y. (one_lightened _ _ _ x y).1;
      ponds_lighter_leaves_numbers = λ κ a r r' o o' x y. (one_lightened _ _ _ x y).2;
      ponds_verdict = (λ κ a. tt, λ κ a r r' o o' x y. same x.0 y.0);
      ponds_verdict_leaves = λ κ a r r' o o' x y. same x.1 y.1;
      ponds_calendar = (λ κ a. tt, λ κ a r r' o o' x y. same x.0 y.0);
      ponds_calendar_leaves = λ κ a r r' o o' x y. same x.1 y.1;
      ponds_begin = (λ κ a. tt, λ κ a r r' o o' x y. same x.answer y.answer);
      ponds_begin_leaves_links = λ κ a r r' o o' x y. (begun_same _ _ _ _ _ _ _ _ _ _ _ _ _ _ _ _ _ _ _ r r' x y).0;
      ponds_begin_leaves_rows = λ κ a r r' o o' x y. (begun_same _ _ _ _ _ _ _ _ _ _ _ _ _ _ _ _ _ _ _ r r' x y).1.rows_same;
      ponds_begin_leaves_into = λ κ a r r' o o' x y. (begun_same _ _ _ _ _ _ _ _ _ _ _ _ _ _ _ _ _ _ _ r r' x y).1.into_same;
      ponds_begin_leaves_out = λ κ a r r' o o' x y. (begun_same _ _ _ _ _ _ _ _ _ _ _ _ _ _ _ _ _ _ _ r r' x y).1.out_same;
      ponds_begin_leaves_ends = λ κ a r r' o o' x y. (begun_same _ _ _ _ _ _ _ _ _ _ _ _ _ _ _ _ _ _ _ r r' x y).1.ends_same;
      ponds_begin_leaves_kept = λ κ a r r' o o' x y. (begun_same _ _ _ _ _ _ _ _ _ _ _ _ _ _ _ _ _ _ _ r r' x y).1.kept_same;
      ponds_take = (λ κ a. tt, λ κ a r r' o o' x y. (one_take _ _ _ _ _ _ _ r r' _ _ x y).0);
      ponds_take_leaves = λ κ a r r' o o' x y. (one_take _ _ _ _ _ _ _ r r' _ _ x y).1;
      ponds_reply = (λ κ a. tt, λ κ a r r' o o' x y. same x.0 y.0);
      ponds_reply_leaves = λ κ a r r' o o' x y. one_said _ _ _ _ _ _ x.1 y.1;
      ponds_board = (λ κ a. tt, λ κ a r r' o o' x y. same x.0 y.0);
      ponds_board_leaves = λ κ a r r' o o' x y. same x.1 y.1;
    }
