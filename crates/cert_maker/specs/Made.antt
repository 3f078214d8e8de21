-- When certificates are made, and why none are.
use Rattle.std.specs.Prelude.{◌≡◌, List, length, true, Result, IfOk, IfErr, IfSome}
use Rattle.ir_ast.specs.declared.module.Module.{Module}
use Rattle.layout.specs.Layouts.{AreLayouts, IsLayoutFault, LaidOut}
use Rattle.layout.specs.declared.fault.LayoutFault.{LayoutFault}
use Rattle.layout.specs.declared.fault.LayoutFault.TheVariants as layout
use Rattle.certs.specs.declared.certs.Certs.{Certs}
use Rattle.certs.specs.Fits.{fits}
use Rattle.certs.specs.declared.section.Section.{Section}
use Rattle.block_rules.specs.declared.block_fault.Refusal.{Refusal}
use Rattle.module_check.specs.Accepted.{CertifiedProgram, IsAccepted, IsFirstInModule, IsFirstRefusal, IsModuleCertified}
use Rattle.pools.specs.declared.word_kind.WordKind.{WordKind}
use Rattle.certs.specs.Plain.{plain}
use Rattle.cert_maker.specs.declared.made.MakeFault.{MakeFault}
use Rattle.cert_maker.specs.declared.made.MakeFault.TheVariants.{Layout, NoAnswer, Memory}
use Rattle.cert_maker.specs.declared.made.NotMade.{NotMade}
use Rattle.cert_maker.specs.declared.made.Refused.{Refused}
use Rattle.cert_maker.specs.declared.tried.Rejection.{Rejection}
use Rattle.cert_maker.specs.declared.tried.Rejection.TheVariants as tried
use Rattle.cert_maker.specs.declared.tried.MakeFailure.{MakeFailure}
use Rattle.cert_maker.specs.declared.tried.MakeFailure.TheVariants as make_failure

-- this holds of the layouts' fault, if it is one
abbrev pub IfLayout : MakeFault → (LayoutFault → Type 0) → Type 0
IfLayout (Layout fault) P = P fault
IfLayout _ P = Unit {0}

-- the fault of a module without layouts
abbrev pub fault_of_layout : LayoutFault → MakeFault
fault_of_layout layout.Memory = Memory
fault_of_layout fault = Layout fault

-- they are certificates of a program's module, and with them each of its functions is certified
pub record AreGood (program : LaidOut) (certs : Certs) : Type 0 where
  pub fit : fits program.of_module certs.sections ≡ true
  pub certified : IsModuleCertified program certs.sections (length program.of_module.functions)

-- with these certificates this is the first instruction of a program that is refused
abbrev pub IsFirstIn : LaidOut → List Section → Refusal → Type 0
IsFirstIn program certs refusal = IsFirstInModule program certs (length program.of_module.functions) refusal

-- with these certificates some instruction of a program is refused
abbrev pub AreRefused : LaidOut → List Section → Type 0
AreRefused program certs = (refusal : Refusal) × IsFirstIn program certs refusal

-- they are certificates of a program's module, and with them this is the first instruction that is refused
pub record AreTried (program : LaidOut) (refused : Refused) : Type 0 where
  pub fit : fits program.of_module refused.certs.sections ≡ true
  pub first : IsFirstIn program refused.certs.sections refused.refusal

-- where an instruction is refused with some certificates, they are certificates of the module and it is the first one
abbrev pub IsTried : LaidOut → Rejection → Type 0
IsTried program (tried.Refused refused) = AreTried program refused
IsTried program _ = Unit {0}

-- where an instruction is refused, it is one of those that are with the plain certificates
abbrev pub IsOfPlain : LaidOut → Rejection → Type 0
IsOfPlain program (tried.Refused _) = AreRefused program (plain program.of_module)
IsOfPlain program _ = Unit {0}

-- the fault of a module that has layouts
abbrev pub fault_of_make_failure : MakeFailure → MakeFault
fault_of_make_failure make_failure.NoAnswer = NoAnswer
fault_of_make_failure make_failure.Memory = Memory

-- these are certificates of a module, and its first instruction that is refused with them
pub record IsRefusedWith (m : Module) (refused : Refused) : Type 0 where
  pub fit : fits m refused.certs.sections ≡ true
  pub first : IsFirstRefusal m refused.certs.sections refused.refusal

-- a module has layouts, and with its plain certificates some instruction is refused
abbrev pub IsPlainlyRefused : Module → Type 0
IsPlainlyRefused m = (refusal : Refusal) × IsFirstRefusal m (plain m) refusal

-- what is made of a module with its shapes and with what it trusts, where this is the module that is given back
pub record IsMadeOf (m own : Module) (made : Result CertifiedProgram NotMade) : Type 0 where
  -- certificates of the module, with its shapes and with what it trusts, with which it is accepted
  pub kept : IfOk made (λ accepted. accepted.program.of_module ≡ m)
  pub fits : IfOk made (λ accepted. fits m accepted.certs.sections ≡ true)
  pub shapes : IfOk made (λ accepted. accepted.certs.shapes ≡ m.shapes)
  pub foreign : IfOk made (λ accepted. accepted.certs.foreign ≡ m.trusted)
  pub certified : IfOk made (λ accepted. IsAccepted m accepted.certs.sections)
  -- there is no answer only where the module is not accepted with the plain certificates
  pub none : IfErr made (λ unmade. unmade.fault ≡ NoAnswer → IsAccepted m (plain m) → ⊥)
  pub plain : IfErr made (λ unmade. unmade.fault ≡ NoAnswer → IsPlainlyRefused m)
  -- a layout's fault is the first one of the module, and one that has layouts has none
  pub layout : IfErr made (λ unmade. IfLayout unmade.fault (IsLayoutFault m))
  pub only_so : (words : List (List WordKind)) → AreLayouts m words → IfErr made (λ unmade. IfLayout unmade.fault (λ _. ⊥))
  pub refused : IfErr made (λ unmade. IfSome unmade.refused (IsRefusedWith m))
  pub given_back : IfErr made (λ unmade. unmade.of_module ≡ own)

-- the module itself is given back
abbrev pub IsMade : Module → Result CertifiedProgram NotMade → Type 0
IsMade m made = IsMadeOf m m made
