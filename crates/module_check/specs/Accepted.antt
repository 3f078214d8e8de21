-- When a module is accepted with its certificates, and which instruction is the first that is refused.
use Rattle.std.proofs.Common.{◌≡◌, sym, subst}
use Rattle.std.specs.Prelude.{◌<◌, ℕ, List, Option, length}
use Rattle.ir_ast.specs.declared.module.Module.{Module}
use Rattle.pools.specs.declared.word_kind.WordKind.{WordKind}
use Rattle.layout.specs.Functions.{with_certified}
use Rattle.layout.specs.Layouts.{AreLayouts, AreSizes, IsLayoutFault, LaidOut}
use Rattle.layout.specs.declared.fault.LayoutFault.{LayoutFault}
use Rattle.layout.specs.declared.fault.LayoutFault.TheVariants as layout
use Rattle.certs.specs.declared.certs.Certs.{Certs}
use Rattle.certs.specs.declared.section.Section.{Section}
use Rattle.block_rules.specs.Certified.{IfRefused}
use Rattle.block_rules.specs.Functions.{IsFirstInFunction, IsFunctionCertified, blocks_in}
use Rattle.block_rules.specs.declared.block_fault.Refusal.{Refusal}
use Rattle.block_rules.specs.declared.block_fault.BlockFault.{BlockFault}
use Rattle.block_rules.specs.declared.block_fault.BlockFault.TheVariants as block
use Rattle.module_check.specs.declared.verdict.Reason.{Reason}
use Rattle.module_check.specs.declared.verdict.Reason.TheVariants.{Refused, Layout, Memory}

-- a program with certificates
pub record CertifiedProgram : Type 0 where
  pub program : LaidOut
  pub certs : Certs

-- the module that is checked with certificates: it has their shapes, and what they trust, in place of its own
abbrev pub shaped : Module → Certs → Module
shaped m certs = with_certified m certs.shapes certs.foreign

-- the first `count` functions of a module are certified
abbrev pub IsModuleCertified : LaidOut → List Section → (count : ℕ) → Type 0
IsModuleCertified program certs count = (func : ℕ) → func < count → IsFunctionCertified program certs func

-- the program is laid out, and each of its functions is certified
pub record IsProgramCertified (program : LaidOut) (certs : List Section) : Type 0 where
  pub laid_out : AreLayouts program.of_module program.layouts
  pub sized : AreSizes program.of_module program.sizes
  pub certified : IsModuleCertified program certs (length program.of_module.functions)

-- so is a program whose layouts are those of its module
pub certified_program : (program : LaidOut) (m : Module) (certs : List Section) → program.of_module ≡ m → AreLayouts m program.layouts → AreSizes m program.sizes
    → IsModuleCertified program certs (length program.of_module.functions) → IsProgramCertified program certs
certified_program program m certs same laid_out sized certified = record {
  laid_out = subst (λ q. AreLayouts q program.layouts) (sym same) laid_out;
  sized = subst (λ q. AreSizes q program.sizes) (sym same) sized;
  certified = certified;
}

-- an instruction of one of the first `count` functions of a module is refused, the blocks before it in its function and
-- the functions before that are certified
pub record IsFirstInModule (program : LaidOut) (certs : List Section) (count : ℕ) (refusal : Refusal) : Type 0 where
  pub within : refusal.func < count
  pub refused : IsFirstInFunction program certs refusal.func (blocks_in program refusal.func) refusal
  pub before : IsModuleCertified program certs refusal.func

-- the fault of a module is its first refusal, if it is a refusal
abbrev pub IsModuleFault : LaidOut → List Section → (count : ℕ) → BlockFault → Type 0
IsModuleFault program certs count fault = IfRefused fault (IsFirstInModule program certs count)

-- the verdict of a fault of a block
abbrev pub reason_of_block : BlockFault → Reason
reason_of_block (block.Refused refusal) = Refused refusal
reason_of_block block.Memory = Memory

-- the verdict of a fault of the layouts
abbrev pub reason_of_layout : LayoutFault → Reason
reason_of_layout layout.Memory = Memory
reason_of_layout fault = Layout fault

-- the module has layouts, and with them and these certificates each of its functions is certified
pub record IsAccepted (of_module : Module) (certs : List Section) : Type 0 where
  pub layouts : List (List WordKind)
  pub sizes : List (Option ℕ)
  pub laid_out : AreLayouts of_module layouts
  pub sized : AreSizes of_module sizes
  pub certified : IsModuleCertified (record { of_module = of_module; layouts = layouts; sizes = sizes }) certs (length of_module.functions)

-- so is the module of a certified program
pub accepted_program : (program : LaidOut) (m : Module) (certs : List Section) → program.of_module ≡ m → AreLayouts m program.layouts → AreSizes m program.sizes
    → IsModuleCertified program certs (length program.of_module.functions) → IsAccepted m certs
accepted_program program m certs same laid_out sized certified =
    subst (λ q. IsAccepted q certs) same (record {
      layouts = program.layouts;
      sizes = program.sizes;
      laid_out = subst (λ q. AreLayouts q program.layouts) (sym same) laid_out;
      sized = subst (λ q. AreSizes q program.sizes) (sym same) sized;
      certified = certified;
    })

-- the module has layouts, and with them and these certificates this is its first refused instruction
pub record IsFirstRefusal (of_module : Module) (certs : List Section) (refusal : Refusal) : Type 0 where
  pub layouts : List (List WordKind)
  pub sizes : List (Option ℕ)
  pub laid_out : AreLayouts of_module layouts
  pub sized : AreSizes of_module sizes
  pub first : IsFirstInModule (record { of_module = of_module; layouts = layouts; sizes = sizes }) certs (length of_module.functions) refusal

-- why no instruction of a module is checked: its layouts have this fault, or memory was refused
abbrev pub IsLayoutReason : Module → Reason → Type 0
IsLayoutReason of_module (Refused refusal) = ⊥
IsLayoutReason of_module (Layout fault) = IsLayoutFault of_module fault
IsLayoutReason of_module Memory = Unit

-- why a module is not accepted
abbrev pub IsVerdictOf : Module → List Section → Reason → Type 0
IsVerdictOf of_module certs (Refused refusal) = IsFirstRefusal of_module certs refusal
IsVerdictOf of_module certs (Layout fault) = IsLayoutFault of_module fault
IsVerdictOf of_module certs Memory = Unit

-- the first fault of a laid out program is the verdict on its module
pub verdict_of_fault : (program : LaidOut) (m : Module) (certs : List Section) (fault : BlockFault) → program.of_module ≡ m → AreLayouts m program.layouts → AreSizes m program.sizes
    → IsModuleFault program certs (length program.of_module.functions) fault → IsVerdictOf m certs (reason_of_block fault)
verdict_of_fault program m certs (block.Refused refusal) same laid_out sized first =
    subst (λ q. IsFirstRefusal q certs refusal) same (record {
      layouts = program.layouts;
      sizes = program.sizes;
      laid_out = subst (λ q. AreLayouts q program.layouts) (sym same) laid_out;
      sized = subst (λ q. AreSizes q program.sizes) (sym same) sized;
      first = first;
    })
verdict_of_fault program m certs block.Memory same laid_out sized first = tt
