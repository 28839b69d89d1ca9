-- `filed::files::test_file` meets its contract. Assumes nothing.
use mathlib.Core.Path.{sym, ◌∙◌}
use Rattle.vee.specs.TestOf.{test_of}
use Rattle.vee.specs.declared.Answer.TheVariants.{Refused}
use Rattle.vee.proofs.Executable.{test_is}
use Rattle.halves.proofs.OfFile.{of_read}
use Rattle.filed.proofs.files.test_file.Goals as goal

pub returns-in-Ok : goal.returns-in-Ok
returns-in-Ok c = test_is c.test.ensures.answer ∙ of_read _ test_of Refused c.in-Ok.plan (sym c.in-Ok.is ∙ c.read.ensures)
