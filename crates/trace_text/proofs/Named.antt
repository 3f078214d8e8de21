-- Printed names of functions and layouts name them.
use Rattle.std.proofs.Common.{◌≡◌, ℕ, zero, suc, ◌<◌, List, [], ◌∷◌, length, Option, Some, None, refl, ap, ◌∙◌, arith}
use Rattle.std.specs.Prelude.{slice_get}
use Rattle.ir_ast.specs.declared.function.Function.{Function}
use Rattle.layout.specs.Layouts.{LaidOut}
use Rattle.name_text.specs.Readings.{IsShort}
use Rattle.name_text.specs.declared.blank.Blank.TheVariants as blank
use Rattle.name_text.specs.Spelled.{global_spelled, layout_spelled}
use Rattle.trace_text.specs.Names.{function_of_word, function_named, layout_of_word, layout_named}
use Rattle.trace_text.specs.Print.{function_text, layout_text, name_of_function, name_at, struct_name}
use Rattle.trace_text.specs.Traces.{AreNamed, symbol_name}

-- each function and each layout is the one that its printed name names
pub record AreRead (p : LaidOut) : Type 0 where
  pub functions : (function : ℕ) → function < length p.of_module.functions → function_of_word p.of_module (function_text p.of_module function) ≡ Some function
  pub layouts : (layout : ℕ) → layout < length p.layouts → layout_of_word p.of_module (layout_text p.of_module layout) ≡ Some layout

there : (fs : List Function) (n : ℕ) → n < length fs → slice_get fs n ≡ None → ⊥
there [] n less e = omega (arith, less)
there (f ∷ fs) zero less e = cc
there (f ∷ fs) (suc n) less e = there fs n (omega (arith, less)) e

module _ (p : LaidOut) (named : AreNamed p) where
  function_by : (function : ℕ) (f : Option Function) → function < length p.of_module.functions → slice_get p.of_module.functions function ≡ f → IsShort blank.Kept (symbol_name p.of_module f)
      → function_named p.of_module (Some (symbol_name p.of_module f)) ≡ Some function → function_of_word p.of_module (name_of_function p.of_module f) ≡ Some function
  function_by function None less is short so = absurd (there p.of_module.functions function less is)
  function_by function (Some f) less is short so = ap (function_named p.of_module) (global_spelled blank.Kept (name_at p.of_module.symbols f.symbol) short.0 short.1) ∙ so

  pub are_read : AreRead p
  are_read = record {
    functions = λ function less. function_by function (slice_get p.of_module.functions function) less refl (named.short_function function less) (named.function function less);
    layouts = λ layout less.
        let short = named.short_layout layout less in
        ap (layout_named p.of_module) (layout_spelled blank.Kept (struct_name p.of_module (slice_get p.of_module.structs layout)) short.0 short.1) ∙ named.layout layout less;
  }
