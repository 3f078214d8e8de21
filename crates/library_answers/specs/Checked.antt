-- What is told of a check and of certificates that are made, by the texts of the call.
use Rattle.std.specs.Prelude.{ℕ, Bool, List}
use Rattle.ir_ast.specs.declared.module.Module.{Module}
use Rattle.ir_text.specs.Read as text
use Rattle.certs.specs.declared.certs.Certs.{Certs}
use Rattle.certificate.specs.Text as certificate
use Rattle.module_check.specs.Accepted.{IsAccepted, shaped}
use Rattle.command_line.specs.declared.options.Refusals.TheVariants.{First}
use Rattle.command_line.specs.declared.options.Why.TheVariants.{NotWanted}
use Rattle.check_commands.specs.Checks.{OfCerts, OfMake}
use Rattle.reports.specs.Said.{OfCertified}
use Rattle.reports.specs.declared.files.Files.{Files}
use Rattle.library_answers.specs.declared.answer.Answer.{Answer}
use Rattle.library_answers.specs.Texts.{AreShapedTexts, AreTexts}
use Rattle.library_answers.specs.Told.{IsAnswered, IsPlaced}

-- the texts are of a module and of certificates with which it is accepted
abbrev pub AreAcceptedTexts : (wide : Bool) (of_module cert : List ℕ) → Type 0
AreAcceptedTexts wide of_module cert =
    (m : Module) × (certs : Certs) × text.IsTextIn wide of_module m × certificate.IsCert cert m certs × IsAccepted (shaped m certs) certs.sections

-- a caller is told what `dgc check` says of files with these texts, and where the first refusal is if an instruction is named
abbrev pub IsCheckOf : (wide : Bool) (of_module cert old new : List ℕ) → Answer → Type 0
IsCheckOf wide of_module cert old new answer =
    (files : Files) × AreTexts wide of_module cert files × IsAnswered (OfCertified (OfCerts First) files.of_module files.certificate) old new answer
    × IsPlaced files.of_module files.certificate answer.place

-- a caller is told what `dgc make` says of files with these texts
abbrev pub IsMakeOf : (wide : Bool) (of_module shapes old new : List ℕ) → Answer → Type 0
IsMakeOf wide of_module shapes old new answer =
    (files : Files) × AreShapedTexts wide of_module shapes files × IsAnswered (OfMake NotWanted files.of_module files.shapes) old new answer
