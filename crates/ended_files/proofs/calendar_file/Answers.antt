-- `ended_files::calendar_file` meets its contract. Assumes nothing.
use mathlib.Core.Path.{refl, sym, ◌∙◌}
use Prim.Native.Nat.{ℕ}
use Rattle.std.specs.Prelude.{Err}
use Rattle.plan.specs.ReplyNumbers.{refusal}
use Rattle.plan.specs.declared.Plan.{Plan}
use Rattle.board.specs.declared.Board.{Board}
use Rattle.calendar.specs.Calendars.{calendar_of, written_of}
use Rattle.calendar.proofs.Lengths.{few_by}
use Rattle.hulls.specs.Rooms.{board_in}
use Rattle.links.proofs.Linking.{known}
use Rattle.halves.proofs.OfFile.{of_refused}
use Rattle.ended_files.proofs.OfFiles.{by_board, read_accepted, sheet_read}
use Rattle.ended_files.proofs.calendar_file.Goals as goal

pub returns-in-Err : goal.returns-in-Err
returns-in-Err c =
    let a = c.args in
    let e = sym c.in-Err.is ∙ c.read.ensures in
    let o = a.out.now in
    let k = a.kept.now in
    record {
      reply = of_refused a.file.now (λ (p : Plan). calendar_of p (board_in k) a.origin o) (λ (number place : ℕ). Err (refusal number place)) _ e;
      bytes = of_refused a.file.now (λ (p : Plan). written_of p (board_in k) a.origin o) (λ (number place : ℕ). o) _ e;
    }

pub links_by-links-requires : goal.links_by-links-requires
links_by-links-requires c = known _ _ refl (read_accepted _ c.in-Ok.plan (sym c.in-Ok.is ∙ c.read.ensures))

pub write_by-requires : goal.write_by-requires
write_by-requires c = few_by (sheet_read _ c.in-Ok.plan (sym c.in-Ok.is ∙ c.read.ensures) c.links_by-links.ensures c.ponds_of.ensures)

pub returns : goal.returns
returns c =
    let a = c.args in
    let p = c.in-Ok.plan in
    let e = sym c.in-Ok.is ∙ c.read.ensures in
    let bo = c.board_in-board.ensures in
    let k = c.write_by.ensures in
    let w = sheet_read _ p e c.links_by-links.ensures c.ponds_of.ensures in
    record {
      reply = by_board a.file.now (λ (p : Plan) (k : Board). calendar_of p k a.origin a.out.now) (λ (number place : ℕ). Err (refusal number place)) p e _ _ bo _ (k.reply p w);
      bytes = by_board a.file.now (λ (p : Plan) (k : Board). written_of p k a.origin a.out.now) (λ (number place : ℕ). a.out.now) p e _ _ bo _ (k.bytes p w);
    }
