-- The types and the instructions of a printed module are read as they are needed.
use Rattle.std.proofs.Common.{◌≡◌, ℕ, true, List, [], ◌∷◌, ◌++◌, refl, subst}
use Rattle.lemmas.specs.Lists.{IsIn}
use Rattle.ir_ast.specs.declared.function.Function.{Function}
use Rattle.ir_ast.specs.declared.function.LocalSort.{LocalSort}
use Rattle.ir_ast.specs.declared.function.LocalSort.TheVariants as local
use Rattle.ir_ast.specs.declared.module.Module.{Module}
use Rattle.ir_tokens.specs.declared.token.Kind.{Kind}
use Rattle.ir_tokens.specs.declared.token.Kind.TheVariants as k
use Rattle.ir_tokens.specs.Bytes.{Text}
use Rattle.ir_forms.specs.Cursor.{kind}
use Rattle.ir_print_law.specs.Stands.{Stands}
use Rattle.ir_forms.specs.Written.{has_opaque}
use Rattle.ir_print_law.specs.Definitions.{defined_structs}
use Rattle.ir_print_law.proofs.State.{Ready}
use Rattle.ir_print_law.proofs.ArgumentsAgain.{EndsLine, ends_line}
use Rattle.ir_print_law.proofs.EndsAgain.{end_reads}
use Rattle.ir_print_law.proofs.InstructionsAgain.{named_op_reads, plain_reads}
use Rattle.ir_print_law.proofs.Parts.{Sets}
use Rattle.ir_print_law.proofs.Parts as parts
use Rattle.ir_print_law.proofs.PhisAgain.{phi_reads}
use Rattle.ir_print_law.proofs.PrintedTypes.{type_shown, any_type_reads, passed_type_reads, held_type_reads, struct_body_reads}
use Rattle.ir_print_law.proofs.WholeTypes.{shape_comes}
use Rattle.ir_print_law.proofs.Defining.{value_set}
use Rattle.ir_print_law.proofs.Reading.{IsValueSort}
use Rattle.ir_print_law.proofs.Known.{Far, AreNamed, LocalsKnown, known}
use Rattle.ir_print_law.proofs.Needs.{TypesRead}
use Rattle.ir_print_law.proofs.OpNeeds.{begins_body_line, EndsOp, OpsRead, far_set}

-- ---- types

pub types_given : (m : Module) → TypesRead m
types_given m = record {
  types_shown = type_shown;
  any = λ v shape written i gap rest s own is blanks ends ready.
      any_type_reads v shape i gap rest s own.2 own.1 blanks ends (subst (λ (y : Text). Ready v s i (gap ++ (y ++ rest))) (type_shown m shape written own.0 own.1) ready);
  passed = λ v shape written i gap rest s own is blanks ends ready.
      passed_type_reads v shape i gap rest s own.2 own.1 is blanks ends (subst (λ (y : Text). Ready v s i (gap ++ (y ++ rest))) (type_shown m shape written own.0 own.1) ready);
  held = λ v shape written i gap rest s own is blanks ends ready.
      held_type_reads v shape i gap rest s own.2 own.1 is blanks ends (subst (λ (y : Text). Ready v s i (gap ++ (y ++ rest))) (type_shown m shape written own.0 own.1) ready);
  struct_body_read = λ v shape written i gap rest s own is blanks ready.
      struct_body_reads v shape i gap rest s own.2 own.1 is blanks (subst (λ (y : Text). Ready v s i (gap ++ (y ++ rest))) (type_shown m shape written own.0 own.1) ready);
  type_comes = λ shape written place gap rest own blanks seam at.
      shape_comes m.wide (has_opaque m.types) (defined_structs m) shape place gap rest own.2 blanks seam (subst (λ (y : Text). Stands place (gap ++ (y ++ rest))) (type_shown m shape written own.0 own.1) at);
}

-- ---- instructions

line_of : (x : Kind) → begins_body_line x ≡ true → ends_line x ≡ true
line_of k.LocalName e = refl
line_of k.LocalNumber e = refl
line_of k.Call e = refl
line_of k.Store e = refl
line_of k.Ret e = refl
line_of k.Br e = refl
line_of k.Switch e = refl
line_of k.Unreachable e = refl
line_of k.LabelName e = refl
line_of k.LabelNumber e = refl
line_of k.CloseBrace e = refl
line_of _ e = absurd cc

line_ends : (rest : Text) → EndsOp rest → EndsLine rest
line_ends rest ends = (ends.0, λ i at. line_of (kind i.cursor) (ends.1 i at), ends.2)

value_sort : (sort : LocalSort) → parts.IsValueSort sort → IsValueSort sort
value_sort local.Unknown e = absurd cc
value_sort (local.Value shown) e = tt
value_sort (local.Slot held) e = tt
value_sort (local.Element block place) e = tt
value_sort (local.Block number) e = absurd cc

module _ (m : Module) (f : Function) (named : AreNamed m f) where
  sets : (key : Text) (value : ℕ) (far : Far) → far.pending ≡ (key, value) ∷ [] → IsIn key far.seen → (IsIn key far.labels → ⊥) → Sets (known m f named far) (known m f named (far_set key far)) value
  sets key value far pending there apart = λ i sort is h.
      let c = h.3 in (
        h.0,
        h.1,
        value_set f far.seen far.values far.labels i.locals i.local_uses key value sort (value_sort sort is) there apart
            (subst (λ (p : List (Text × ℕ)). LocalsKnown f far.seen far.values far.labels p i.locals i.local_uses) pending h.2),
        record { values_are = c.values_are; unnamed_is = c.unnamed_is; none_missing = c.none_missing; structs_are = c.structs_are; globals_are = c.globals_are; declares_are = c.declares_are; functions_are = c.functions_are },
      )

  pub ops_given : OpsRead m f named
  ops_given = record {
    phi_read = λ x key value far i gap rest own pending there apart blanks ends ready.
        phi_reads (known m f named far) (known m f named (far_set key far)) x value i gap rest 0 own (sets key value far pending there apart) (line_ends rest ends) blanks ready;
    named_read = λ x key value far site i gap rest own gives pending there apart blanks ends ready.
        named_op_reads (known m f named far) (known m f named (far_set key far)) site value x i gap rest 0 blanks own gives (sets key value far pending there apart) (line_ends rest ends) ready;
    plain_read = λ x far site i gap rest own gives blanks ends ready. plain_reads (known m f named far) site x i gap rest 0 blanks own gives (line_ends rest ends) ready;
    end_read = λ x far i gap rest own blanks ends ready. end_reads (known m f named far) x i gap rest 0 own blanks (line_ends rest ends) ready;
  }
