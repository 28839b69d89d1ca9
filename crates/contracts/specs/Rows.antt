-- Document 01, "How firm the contracts are": for each open function of the libraries, in the order of docs/CONTRACTS.md, that it
-- asks nothing and that what it ensures permits a single reply for each argument. A row is over the function's own contract, as the
-- checker reads it in the source (`Pre`, `Post`), so a contract that is lost or weakened is seen here. Assumes nothing.
use Rattle.std.specs.Prelude.{◌≡◌, List, ℕ}
use Rattle.points.proofs.has.Reads as has_code
use Rattle.points.proofs.with.Reads as with_code
use Rattle.points.proofs.without.Reads as without_code
use Rattle.points.proofs.count.Reads as count_code
use Rattle.points.proofs.first.Reads as first_code
use Rattle.points.proofs.below.Reads as Below-code
use Rattle.points.proofs.members.Reads as members_code
use Rattle.points.proofs.subset.Reads as subset_code
use Rattle.plan_file.proofs.read.Reads as read_code
use Rattle.plan.proofs.check.Reads as check_code
use Rattle.plan_file.proofs.write.Reads as write_code
use Rattle.numbers.proofs.split.Reads as split_code
use Rattle.plan.proofs.points_of.Reads as points_of_code
use Rattle.plan.proofs.links_of.Reads as links_of_code
use Rattle.plan.proofs.link_to.Reads as link_to_code
use Rattle.plan.proofs.is_watched.Reads as is_watched_code
use Rattle.plan.proofs.used.Reads as used_code
use Rattle.plan.proofs.Refusal.new.Reads as new_code
use Rattle.office.proofs.import.Reads as import_code
use Rattle.office_text.proofs.begin.Reads as begin_text_code
use Rattle.office_text.proofs.feed.Reads as feed_code
use Rattle.office.proofs.finish.Reads as finish_code
use Rattle.bounds.proofs.bound_kept.Reads as bound_kept_code
use Rattle.bounds.proofs.both_in.Reads as both_in_code
use Rattle.board.proofs.fresh.Reads as fresh_code
use Rattle.board.proofs.minute_of.Reads as minute_of_code
use Rattle.board.proofs.Board.take.Reads as take_event_code
use Rattle.board.proofs.Board.take_all.Reads as take_all_code
use Rattle.board.proofs.is_sound.Reads as is_sound_code
use Rattle.board.proofs.is_finished.Reads as is_finished_code
use Rattle.replies.proofs.reply_of.Reads as reply_of_code
use Rattle.rooms.proofs.begin.Reads as begin_code
use Rattle.engine.proofs.board_of.Reads as board_of_code
use Rattle.engine.proofs.reply.Reads as reply_code
use Rattle.engine.proofs.take.Reads as take_code
use Rattle.verdict.proofs.ended.Reads as ended_code
use Rattle.verdict.proofs.verdict_of.Reads as verdict_of_code
use Rattle.lent.proofs.judge_list.Reads as judge_list_code
use Rattle.vee.proofs.test.Reads as test_code
use Rattle.worst.proofs.worst_of.Reads as worst_of_code
use Rattle.worst.proofs.day_of.Reads as day_of_code
use Rattle.closure.proofs.close.Reads as close_code
use Rattle.lines.proofs.blank.Reads as blank_code
use Rattle.listing.proofs.pack.Reads as pack_code
use Rattle.listed.proofs.record_line.Reads as record_line_code
use Rattle.lighter.proofs.lighter_of.Reads as lighter_of_code
use Rattle.dates.proofs.is_origin.Reads as is_origin_code
use Rattle.dates.proofs.shown.Reads as shown_code
use Rattle.calendar.proofs.most_text.Reads as most_text_code
use Rattle.calendar.proofs.write_calendar.Reads as write_calendar_code
use Rattle.text.proofs.plan_line.Reads as plan_line_code
use Rattle.text.proofs.numbers_line.Reads as numbers_line_code
use Rattle.text.proofs.event_line.Reads as event_line_code
use Rattle.text.proofs.reply_line.Reads as reply_line_code
use Rattle.text.proofs.test_line.Reads as test_line_code
use Rattle.text.proofs.board_line.Reads as board_line_code
use Rattle.text.proofs.point_line.Reads as point_line_code
use Rattle.text.proofs.tail_line.Reads as tail_line_code
use Rattle.text.proofs.end_line.Reads as end_line_code
use Rattle.ponds.proofs.ponds_check.Reads as ponds_check_code
use Rattle.ponds.proofs.ponds_test.Reads as ponds_test_code
use Rattle.ponds.proofs.ponds_worst.Reads as ponds_worst_code
use Rattle.ponds.proofs.ponds_day.Reads as ponds_day_code
use Rattle.ponds.proofs.ponds_import.Reads as ponds_import_code
use Rattle.ponds.proofs.ponds_close.Reads as ponds_close_code
use Rattle.ponds.proofs.ponds_lighter.Reads as ponds_lighter_code
use Rattle.ponds.proofs.ponds_verdict.Reads as ponds_verdict_code
use Rattle.ponds.proofs.ponds_calendar.Reads as ponds_calendar_code
use Rattle.ponds.proofs.ponds_begin.Reads as ponds_begin_code
use Rattle.ponds.proofs.ponds_take.Reads as ponds_take_code
use Rattle.ponds.proofs.ponds_reply.Reads as ponds_reply_code
use Rattle.ponds.proofs.ponds_board.Reads as ponds_board_code
use Rattle.plan.specs.declared.Plan.{Plan}
use Rattle.bounds.specs.declared.Bound.{Bound}
use Rattle.board.specs.declared.Board.{Board}
use Rattle.lent.specs.Judgement.{judge_of}
use Rattle.lent.specs.declared.Judged.{Judged}

-- a function asks nothing of its arguments a
abbrev pub Asks : {K A : Type 0} → (K → A → Type 0) → Type 0
Asks {K} {A} Pre = (κ : K) (a : A) → Pre κ a

-- two replies r and r' that its contract permits for the same arguments are the same; o and o' are what lent rooms hold then
abbrev pub Replies : {K A R O : Type 0} → (K → A → R → O → Type 0) → Type 0
Replies {K} {A} {R} {O} Post = (κ : K) (a : A) (r r' : R) (o o' : O) → Post κ a r o → Post κ a r' o' → r ≡ r'

-- and so is what the room that it writes to holds, byte for byte
abbrev pub Leaves : {K A R O : Type 0} → (K → A → R → O → Type 0) → (O → List ℕ) → Type 0
Leaves {K} {A} {R} {O} Post held =
    (κ : K) (a : A) (r r' : R) (o o' : O) → Post κ a r o → Post κ a r' o' → held o ≡ held o'

-- it takes any arguments, and has a single reply
abbrev pub Single : {K A R O : Type 0} → (K → A → Type 0) → (K → A → R → O → Type 0) → Type 0
Single Pre Post = Asks Pre × Replies Post

pub record SingleReplies : Type 0 where
  -- points
  pub has : Single has_code.Pre has_code.Post
  pub with : Single with_code.Pre with_code.Post
  pub without : Single without_code.Pre without_code.Post
  pub count : Single count_code.Pre count_code.Post
  pub first : Single first_code.Pre first_code.Post
  pub below : Single Below-code.Pre Below-code.Post
  pub members : Single members_code.Pre members_code.Post
  pub subset : Single subset_code.Pre subset_code.Post
  -- plan
  pub read : Single read_code.Pre read_code.Post
  pub check : Single check_code.Pre check_code.Post
  pub write : Single write_code.Pre write_code.Post
  pub write_leaves : Leaves write_code.Post (λ o. o.1.0.now)
  pub split : Single split_code.Pre split_code.Post
  pub points_of_lem : Single points_of_code.Pre points_of_code.Post
  pub links_of : Single links_of_code.Pre links_of_code.Post
  pub link_to_lem : Single link_to_code.Pre link_to_code.Post
  pub is_watched : Single is_watched_code.Pre is_watched_code.Post
  pub used : Single used_code.Pre used_code.Post
  pub new : Single new_code.Pre new_code.Post
  -- office
  pub import : Single import_code.Pre import_code.Post
  pub begin_text : Single begin_text_code.Pre begin_text_code.Post
  pub feed : Single feed_code.Pre feed_code.Post
  pub finish : Single finish_code.Pre finish_code.Post
  -- listing
  pub pack : Single pack_code.Pre pack_code.Post
  pub pack_leaves : Leaves pack_code.Post (λ o. o.1.0.now)
  -- listed
  pub record_line_lem : Single record_line_code.Pre record_line_code.Post
  -- bounds
  pub bound_kept_lem : Single bound_kept_code.Pre bound_kept_code.Post
  pub both_in_lem : Single both_in_code.Pre both_in_code.Post
  -- board
  pub fresh : Single fresh_code.Pre fresh_code.Post
  pub minute_of_lem : Single minute_of_code.Pre minute_of_code.Post
  pub take_event : Single take_event_code.Pre take_event_code.Post
  pub take_all : Single take_all_code.Pre take_all_code.Post
  pub take_all_leaves : Leaves take_all_code.Post (λ o. o.1.1.1.0.now)
  pub is_sound : Single is_sound_code.Pre is_sound_code.Post
  pub is_finished : Single is_finished_code.Pre is_finished_code.Post
  -- replies
  pub reply_of_lem : Single reply_of_code.Pre reply_of_code.Post
  -- engine; `begin` is that of `rooms`, passed on
  pub begin : Single begin_code.Pre begin_code.Post
  pub begin_leaves_rows : Leaves begin_code.Post (λ o. o.1.0.now)
  pub begin_leaves_into : Leaves begin_code.Post (λ o. o.1.1.0.now)
  pub begin_leaves_out : Leaves begin_code.Post (λ o. o.1.1.1.0.now)
  pub begin_leaves_ends : Leaves begin_code.Post (λ o. o.1.1.1.1.0.now)
  pub begin_leaves_kept : Leaves begin_code.Post (λ o. o.1.1.1.1.1.0.now)
  pub board_of_lem : Single board_of_code.Pre board_of_code.Post
  pub reply : Single reply_code.Pre reply_code.Post
  pub take : Single take_code.Pre take_code.Post
  pub take_leaves : Leaves take_code.Post (λ o. o.1.1.1.1.1.0.now)
  -- verdict
  pub ended : Single ended_code.Pre ended_code.Post
  pub verdict_of_lem : Single verdict_of_code.Pre verdict_of_code.Post
  -- lent
  -- `judge` is proved by a walk of its own, and the checker exports no contract of it by name: the row says its words again
  pub judge : (p : Plan) (b : Board) (list : List Bound) (r r' : Judged) → r ≡ judge_of p b list → r' ≡ judge_of p b list → r ≡ r'
  pub judge_list : Single judge_list_code.Pre judge_list_code.Post
  -- vee
  pub test : Single test_code.Pre test_code.Post
  -- worst
  pub worst_of_lem : Single worst_of_code.Pre worst_of_code.Post
  pub day_of_lem : Single day_of_code.Pre day_of_code.Post
  pub day_of_leaves : Leaves day_of_code.Post (λ o. o.1.1.0.now)
  -- closure
  pub close : Single close_code.Pre close_code.Post
  -- lighter
  pub lighter_of : Single lighter_of_code.Pre lighter_of_code.Post
  -- dates
  pub is_origin_lem : Single is_origin_code.Pre is_origin_code.Post
  pub shown : Single shown_code.Pre shown_code.Post
  -- calendar
  pub most_text_lem : Single most_text_code.Pre most_text_code.Post
  pub write_calendar : Single write_calendar_code.Pre write_calendar_code.Post
  pub write_calendar_leaves : Leaves write_calendar_code.Post (λ o. o.1.1.1.0.now)
  -- text
  pub blank : Single blank_code.Pre blank_code.Post
  pub plan_line_lem : Single plan_line_code.Pre plan_line_code.Post
  pub numbers_line_lem : Single numbers_line_code.Pre numbers_line_code.Post
  pub event_line_lem : Single event_line_code.Pre event_line_code.Post
  pub reply_line_lem : Single reply_line_code.Pre reply_line_code.Post
  pub test_line_lem : Single test_line_code.Pre test_line_code.Post
  pub board_line_lem : Single board_line_code.Pre board_line_code.Post
  pub point_line_lem : Single point_line_code.Pre point_line_code.Post
  pub tail_line_lem : Single tail_line_code.Pre tail_line_code.Post
  pub end_line_lem : Single end_line_code.Pre end_line_code.Post
  -- ponds: for programs in C and in Rust
  pub ponds_check : Single ponds_check_code.Pre ponds_check_code.Post
  pub ponds_test : Single ponds_test_code.Pre ponds_test_code.Post
  pub ponds_test_leaves : Leaves ponds_test_code.Post (λ o. o.1.0.now)
  pub ponds_worst : Single ponds_worst_code.Pre ponds_worst_code.Post
  pub ponds_worst_leaves : Leaves ponds_worst_code.Post (λ o. o.1.0.now)
  pub ponds_day : Single ponds_day_code.Pre ponds_day_code.Post
  pub ponds_day_leaves : Leaves ponds_day_code.Post (λ o. o.1.1.0.now)
  pub ponds_import : Single ponds_import_code.Pre ponds_import_code.Post
  pub ponds_import_leaves : Leaves ponds_import_code.Post (λ o. o.1.0.now)
  pub ponds_close : Single ponds_close_code.Pre ponds_close_code.Post
  pub ponds_close_leaves : Leaves ponds_close_code.Post (λ o. o.1.0.now)
  pub ponds_lighter : Single ponds_lighter_code.Pre ponds_lighter_code.Post
  pub ponds_lighter_leaves : Leaves ponds_lighter_code.Post (λ o. o.1.0.now)
  pub ponds_lighter_leaves_numbers : Leaves ponds_lighter_code.Post (λ o. o.1.1.0.now)
  pub ponds_verdict : Single ponds_verdict_code.Pre ponds_verdict_code.Post
  pub ponds_verdict_leaves : Leaves ponds_verdict_code.Post (λ o. o.1.1.0.now)
  pub ponds_calendar : Single ponds_calendar_code.Pre ponds_calendar_code.Post
  pub ponds_calendar_leaves : Leaves ponds_calendar_code.Post (λ o. o.1.1.1.1.1.1.1.0.now)
  pub ponds_begin : Single ponds_begin_code.Pre ponds_begin_code.Post
  pub ponds_begin_leaves_links : Leaves ponds_begin_code.Post (λ o. o.1.0.now)
  pub ponds_begin_leaves_rows : Leaves ponds_begin_code.Post (λ o. o.1.1.0.now)
  pub ponds_begin_leaves_into : Leaves ponds_begin_code.Post (λ o. o.1.1.1.0.now)
  pub ponds_begin_leaves_out : Leaves ponds_begin_code.Post (λ o. o.1.1.1.1.0.now)
  pub ponds_begin_leaves_ends : Leaves ponds_begin_code.Post (λ o. o.1.1.1.1.1.0.now)
  pub ponds_begin_leaves_kept : Leaves ponds_begin_code.Post (λ o. o.1.1.1.1.1.1.0.now)
  pub ponds_take : Single ponds_take_code.Pre ponds_take_code.Post
  pub ponds_take_leaves : Leaves ponds_take_code.Post (λ o. o.1.1.1.1.1.0.now)
  pub ponds_reply : Single ponds_reply_code.Pre ponds_reply_code.Post
  pub ponds_reply_leaves : Leaves ponds_reply_code.Post (λ o. o.1.1.1.1.0.now)
  pub ponds_board : Single ponds_board_code.Pre ponds_board_code.Post
  pub ponds_board_leaves : Leaves ponds_board_code.Post (λ o. o.1.0.now)
