-- A module that is accepted is not refused.
use Rattle.std.proofs.Common.{◌≡◌, Err, List, length, refl, sym, subst}
use Rattle.ir_ast.specs.declared.module.Module.{Module}
use Rattle.certs.specs.declared.section.Section.{Section}
use Rattle.layout.specs.Layouts.{LaidOut, AreLayouts, AreSizes}
use Rattle.block_rules.specs.declared.block_fault.BlockFault.{BlockFault}
use Rattle.block_rules.specs.declared.block_fault.BlockFault.TheVariants as block
use Rattle.block_check.specs.Exact.{certified_only}
use Rattle.module_check.specs.declared.verdict.Reason.TheVariants.{Memory}
use Rattle.module_check.specs.Accepted.{IsAccepted, IsModuleCertified, IsModuleFault, reason_of_block}
use Rattle.module_check.specs.OneLayout.{one_layouts, one_sizes}

-- the program of an accepted module is the one with which it is certified
certified_with : (program : LaidOut) (certs : List Section) → AreLayouts program.of_module program.layouts → AreSizes program.of_module program.sizes → IsAccepted program.of_module certs
    → IsModuleCertified program certs (length program.of_module.functions)
certified_with program certs laid_out sized accepted =
    let layouts = one_layouts program.of_module accepted.layouts program.layouts accepted.laid_out laid_out in
    let sizes = one_sizes program.of_module accepted.sizes program.sizes accepted.sized sized in
    let with_layouts : IsModuleCertified (record { of_module = program.of_module; layouts = program.layouts; sizes = accepted.sizes }) certs (length program.of_module.functions) =
    subst (λ words. IsModuleCertified (record { of_module = program.of_module; layouts = words; sizes = accepted.sizes }) certs (length program.of_module.functions)) layouts accepted.certified in
    subst (λ words. IsModuleCertified (record { of_module = program.of_module; layouts = program.layouts; sizes = words }) certs (length program.of_module.functions)) sizes with_layouts

-- the only fault in the functions of a program that goes with acceptance is out of memory
pub only_memory : (program : LaidOut) (m : Module) (certs : List Section) (fault : BlockFault) → program.of_module ≡ m → AreLayouts m program.layouts → AreSizes m program.sizes
    → IsModuleFault program certs (length program.of_module.functions) fault → IsAccepted m certs → reason_of_block fault ≡ Memory
only_memory program m certs (block.Refused refusal) same laid_out sized first other =
    let all = certified_with program certs (subst (λ x. AreLayouts x program.layouts) (sym same) laid_out) (subst (λ x. AreSizes x program.sizes) (sym same) sized) (subst (λ x. IsAccepted x certs) (sym same) other) in
    let certified = all refusal.func first.within refusal.block first.refused.within in
    let bad = certified_only {T = Unit {0}} program certs refusal.func refusal.block (Err (block.Refused refusal)) first.refused.refused certified in
    absurd cc
only_memory program m certs block.Memory same laid_out sized first accepted = refl
