-- What is made of a module, and why nothing is.
use Rattle.std.proofs.Common.{◌≡◌, ◌≢◌, ◌∙◌, List, Option, Some, None, length, refl, sym, subst, true}
use Rattle.std.specs.Prelude.{IfSome}
use Rattle.ir_ast.specs.declared.module.Module.{Module}
use Rattle.layout.specs.Layouts.{AreLayouts, AreSizes, IsLayoutFault, LaidOut}
use Rattle.layout.specs.declared.fault.LayoutFault.{LayoutFault}
use Rattle.layout.specs.declared.fault.LayoutFault.TheVariants as layout
use Rattle.certs.specs.Fits.{fits}
use Rattle.certs.specs.declared.certs.Certs.{Certs}
use Rattle.block_rules.specs.declared.block_fault.BlockFault.TheVariants as block
use Rattle.module_check.specs.Accepted.{IsAccepted, IsFirstRefusal}
use Rattle.module_check.specs.Exclusive.{only_memory}
use Rattle.cert_maker.specs.Made.{AreGood, AreRefused, AreTried, IfLayout, IsPlainlyRefused, IsRefusedWith, fault_of_layout, fault_of_make_failure}
use Rattle.certs.specs.Plain.{plain}
use Rattle.cert_maker.specs.declared.made.MakeFault.{MakeFault}
use Rattle.cert_maker.specs.declared.made.MakeFault.TheVariants as fault
use Rattle.cert_maker.specs.declared.made.Refused.{Refused}
use Rattle.cert_maker.specs.declared.tried.MakeFailure.{MakeFailure}
use Rattle.cert_maker.specs.declared.tried.MakeFailure.TheVariants.{NoAnswer, Memory}

is_no_answer : (make_failure : MakeFailure) → fault_of_make_failure make_failure ≡ fault.NoAnswer → make_failure ≡ NoAnswer
is_no_answer NoAnswer e = refl
is_no_answer Memory e = absurd cc

-- ---- the module has no layouts

module _ (m : Module) (of_layout : LayoutFault) (made : MakeFault) (is : made ≡ fault_of_layout of_layout) where
  -- then it is not that there is no answer
  pub layouts_answer : made ≡ fault.NoAnswer → ⊥
  layouts_answer answered = by of_layout (sym is ∙ answered)
    where
      by : (x : LayoutFault) → fault_of_layout x ≡ fault.NoAnswer → ⊥
      by layout.ShapesWanted e = absurd cc
      by (layout.HoldsItself struct) e = absurd cc
      by (layout.TooManyWords struct) e = absurd cc
      by (layout.NoSuchLayout struct) e = absurd cc
      by layout.Memory e = absurd cc

  -- the fault is that of the layouts
  pub layouts_fault : (of_layout ≢ layout.Memory → IsLayoutFault m of_layout) → IfLayout made (IsLayoutFault m)
  layouts_fault has = subst (λ (x : MakeFault). IfLayout x (IsLayoutFault m)) (sym is) (by of_layout has)
    where
      by : (x : LayoutFault) → (x ≢ layout.Memory → IsLayoutFault m x) → IfLayout (fault_of_layout x) (IsLayoutFault m)
      by layout.ShapesWanted h = h (λ e. cc)
      by (layout.HoldsItself struct) h = h (λ e. cc)
      by (layout.TooManyWords struct) h = h (λ e. cc)
      by (layout.NoSuchLayout struct) h = h (λ e. cc)
      by layout.Memory h = tt

  -- and a module with layouts has none
  pub layouts_memory : of_layout ≡ layout.Memory → IfLayout made (λ _. ⊥)
  layouts_memory memory = subst (λ (x : MakeFault). IfLayout x (λ _. ⊥)) (sym is) (subst (λ (x : LayoutFault). IfLayout (fault_of_layout x) (λ _. ⊥)) (sym memory) tt)

-- ---- it has layouts

-- why there are no certificates is then no fault of them
pub no_layout_fault : (P : LayoutFault → Type 0) (make_failure : MakeFailure) (made : MakeFault) → made ≡ fault_of_make_failure make_failure → IfLayout made P
no_layout_fault P make_failure made is = subst (λ (x : MakeFault). IfLayout x P) (sym is) (by make_failure)
  where
    by : (x : MakeFailure) → IfLayout (fault_of_make_failure x) P
    by NoAnswer = tt
    by Memory = tt

module _ (program : LaidOut) (m : Module) (same : program.of_module ≡ m) (laid_out : AreLayouts m program.layouts) (sized : AreSizes m program.sizes) where
  laid_here : AreLayouts program.of_module program.layouts
  laid_here = subst (λ (x : Module). AreLayouts x program.layouts) (sym same) laid_out

  sized_here : AreSizes program.of_module program.sizes
  sized_here = subst (λ (x : Module). AreSizes x program.sizes) (sym same) sized

  -- with certificates that are good for the program the module is accepted
  pub accepted_with : (certs : Certs) → AreGood program certs → IsAccepted m certs.sections
  accepted_with certs good =
      subst (λ (x : Module). IsAccepted x certs.sections) same (record { layouts = program.layouts; sizes = program.sizes; laid_out = laid_here; sized = sized_here; certified = good.certified })

  -- which fit it
  pub fit_with : (certs : Certs) → AreGood program certs → fits m certs.sections ≡ true
  fit_with certs good = subst (λ (x : Module). fits x certs.sections ≡ true) same good.fit

  -- what is refused of the program is refused of the module
  pub refused_with : (refused : Option Refused) → IfSome refused (AreTried program) → IfSome refused (IsRefusedWith m)
  refused_with None h = tt
  refused_with (Some tried) h = record {
    fit = subst (λ (x : Module). fits x tried.certs.sections ≡ true) same h.fit;
    first = subst (λ (x : Module). IsFirstRefusal x tried.certs.sections tried.refusal) same
        (record { layouts = program.layouts; sizes = program.sizes; laid_out = laid_here; sized = sized_here; first = h.first });
  }

  -- where there is no answer
  module _ (make_failure : MakeFailure) (made : MakeFault) (is : made ≡ fault_of_make_failure make_failure) (has : make_failure ≡ NoAnswer → AreRefused program (plain program.of_module)) (answered : made ≡ fault.NoAnswer) where
    refused_here : AreRefused program (plain program.of_module)
    refused_here = has (is_no_answer make_failure (sym is ∙ answered))

    -- the module is not accepted with the plain certificates
    pub none_accepted : IsAccepted m (plain m) → ⊥
    none_accepted accepted =
        let here = subst (λ (x : Module). IsAccepted x (plain x)) (sym same) accepted in
        let bad = only_memory program program.of_module (plain program.of_module) (block.Refused refused_here.0) refl laid_here sized_here refused_here.1 here in
        absurd cc

    -- and they are refused
    pub plainly_refused : IsPlainlyRefused m
    plainly_refused =
        subst IsPlainlyRefused same (refused_here.0, record { layouts = program.layouts; sizes = program.sizes; laid_out = laid_here; sized = sized_here; first = refused_here.1 })
