-- `ended_files::verdict_file` meets its contract. Assumes nothing.
use mathlib.Core.Path.{sym, ◌∙◌}
use Rattle.plan.specs.declared.Plan.{Plan}
use Rattle.board.specs.declared.Board.{Board}
use Rattle.verdict.specs.Verdicts.{verdict_of}
use Rattle.verdict.specs.declared.Verdict.TheVariants.{Refused}
use Rattle.ended_files.proofs.OfFiles.{by_board}
use Rattle.ended_files.proofs.verdict_file.Goals as goal

pub returns-in-Ok : goal.returns-in-Ok
returns-in-Ok c =
    let a = c.args in
    by_board a.file.now (λ (p : Plan) (k : Board). verdict_of p k) Refused c.in-Ok.plan (sym c.in-Ok.is ∙ c.read.ensures) _ _ c.board_in.ensures _ c.verdict_of.ensures.verdict
