-- What is said of a module that is accepted with its certificates.
use Rattle.ir_ast.specs.declared.module.Module.{Module}
use Rattle.certs.specs.declared.certs.Certs.{Certs}
use Rattle.command_line.specs.declared.options.Refusals.{Refusals}
use Rattle.command_line.specs.declared.options.Refusals.TheVariants.{First, OfBlocks}
use Rattle.module_check.specs.Accepted.{IsAccepted, shaped}
use Rattle.reports.specs.Said.{Said, OfAccepted, accepted_told, accepted_not_told, not_checked}
use Rattle.check_commands.specs.Checks.{OfCerts, accepted, not_accepted, all_not_checked}

-- what is said where it is accepted is what is said of it and its certificates
pub of_accepted : (refusals : Refusals) (m : Module) (certs : Certs) (said : Said) → IsAccepted (shaped m certs) certs.sections → OfAccepted (shaped m certs) said → OfCerts refusals m certs said
of_accepted refusals m certs said is accepted_told = accepted is
of_accepted First m certs said is accepted_not_told = not_accepted said not_checked
of_accepted (OfBlocks limit) m certs said is accepted_not_told = not_accepted said all_not_checked
