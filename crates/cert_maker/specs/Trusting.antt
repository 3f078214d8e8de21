-- What is made of a module that trusts the functions outside that it calls.
use Rattle.std.specs.Prelude.{ℕ, List, Result}
use Rattle.ir_ast.specs.declared.module.Module.{Module}
use Rattle.layout.specs.Functions.{with_certified}
use Rattle.module_check.specs.Accepted.{CertifiedProgram}
use Rattle.module_check.specs.Trusts.{to_trust}
use Rattle.cert_maker.specs.Made.{IsMadeOf}
use Rattle.cert_maker.specs.declared.made.NotMade.{NotMade}

-- the module with these functions in place of those that it trusts
abbrev pub with_trusted : Module → (functions : List ℕ) → Module
with_trusted m functions = with_certified m m.shapes (record m.trusted { functions = functions })

-- a module with its own shapes and numbers of layouts, which trusts the functions outside that it calls where the wide forms may stand, and no other ones
abbrev pub trusting : Module → Module
trusting m = with_trusted m (to_trust m)

-- what is made of it; the module is given back as it was
abbrev pub IsMadeTrusting : Module → Result CertifiedProgram NotMade → Type 0
IsMadeTrusting m made = IsMadeOf (trusting m) m made
