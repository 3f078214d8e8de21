-- Where a text begins and where it ends: no name is used that is not defined.
use Rattle.std.proofs.Common.{◌≡◌, ℕ, zero, suc, Bool, true, false, not, ◌&&◌, List, [], ◌∷◌, length, Option, None, Ok, refl, sym, ap, ap₂, subst, ◌∙◌, arith, inl, inr}
use Rattle.std.specs.Prelude.{option_map}
use Rattle.lemmas.specs.Bools.{or_second}
use Rattle.lemmas.specs.Lists.{IsIn, in_first}
use Rattle.ir_ast.specs.declared.items_of_module.SymbolSort.{SymbolSort}
use Rattle.ir_ast.specs.declared.module.Module.{Module}
use Rattle.ir_tokens.specs.declared.token.Kind.TheVariants as k
use Rattle.ir_tokens.specs.declared.token.Token.{Token}
use Rattle.ir_tokens.specs.Bytes.{Text}
use Rattle.ir_tokens.specs.Tokens.{IsLexed, lexed_of, lex_from, past_gap}
use Rattle.ir_tokens.specs.Laws.{found}
use Rattle.ir_forms.specs.Cursor.{kind, kind_first, here, bad_from, bad_here}
use Rattle.ir_forms.specs.Names.{is_outside}
use Rattle.ir_forms.specs.Place.{Place}
use Rattle.ir_forms.specs.declared.uses.StructUse.{StructUse}
use Rattle.ir_forms.specs.declared.uses.SymbolUse.{SymbolUse}
use Rattle.ir_forms.specs.declared.input.Input.{Input}
use Rattle.ir_text.specs.Late as late
use Rattle.ir_text.specs.Late.{late_fault, first_of_faults, earliest, operand_fault}
use Rattle.ir_text.specs.Read.{start_in}
use Rattle.ir_print_law.specs.Stands.{Stands}
use Rattle.ir_print_law.specs.Definitions.{IsUsed, defined_structs, defined_globals, declared_functions, defined_functions, functions_of}
use Rattle.ir_print_law.proofs.WholeFunctionEnds.{none_found, nobody}
use Rattle.ir_print_law.proofs.Known.{Far, Holds, IsStructUse, IsSymbolUse, StructsKnown, SymbolsKnown}
use Rattle.ir_print_law.proofs.AnewTables.{place_is_there}
use Rattle.ir_print_law.proofs.Named.{sort_by_place, sort_at}
use Rattle.ir_print_law.proofs.Operands.{named_at}
use Rattle.ir_print_law.proofs.Used.{outside_used, declared_only, right_use}

-- ---- the end of a text

-- what a use wants is there
use_right : (m : Module) (far : Far) (i : Input) (u : SymbolUse) → SymbolsKnown m far.symbols far.globals far.functions i.symbols i.symbol_uses → i.wide ≡ m.wide → far.globals ≡ defined_globals m
    → far.functions ≡ functions_of m → IsSymbolUse m i.symbols.names u → late.is_right_symbol i u ≡ true
use_right m far i u h forms globals functions used =
    ap₂ (λ (s : Option SymbolSort) (name : Text). late.may_use i.wide u.is_call s name) (sym (sort_by_place i.symbols used.0 u.symbol used.2))
    (named_at i.symbols.names u.symbol used.0 (place_is_there used.0 i.symbols.names u.symbol used.2))
    ∙ by u.is_call used.1 where
      sort : Option SymbolSort
      sort = sort_at i.symbols used.0

      called : IsIn used.0 (functions_of m) → late.is_right true sort ≡ true
      called is = h.are_functions used.0 (subst (λ (x : List Text). IsIn used.0 x) (sym functions) is)

      by : (is_call : Bool) → IsUsed m is_call used.0 → late.may_use i.wide is_call sort used.0 ≡ true
      by true is = or_second (is_outside sort used.0 && (i.wide && not true)) (late.is_right true sort) (called is)
      by false (inl is) = or_second (is_outside sort used.0 && (i.wide && not false)) (late.is_right false sort) (h.are_globals used.0 (subst (λ (x : List Text). IsIn used.0 x) (sym globals) is))
      by false (inr is) =
          let right = called (in_first used.0 (declared_functions m) (defined_functions m) is.1) in
          outside_used i.wide sort used.0 (forms ∙ is.0, declared_only sort right (h.no_defined used.0 is.1), is.2)

struct_right : (m : Module) (far : Far) (i : Input) (u : StructUse) → StructsKnown m far.structs i.struct_names i.struct_uses → far.structs ≡ defined_structs m
    → IsStructUse m i.struct_names.names u → late.is_right_struct i u ≡ true
struct_right m far i u h structs used =
    ap late.is_struct (sym (sort_by_place i.struct_names used.0 u.name used.2)) ∙ h.known used.0 (subst (λ (x : List Text). IsIn used.0 x) (sym structs) used.1)

-- where all names are defined, there is no fault
pub no_fault : (m : Module) (far : Far) (i : Input) → Holds m nobody far i → i.wide ≡ m.wide → far.structs ≡ defined_structs m → far.globals ≡ defined_globals m → far.functions ≡ functions_of m → late_fault i ≡ None
no_fault m far i h forms structs globals functions =
    let no_operand = none_found (IsSymbolUse m i.symbols.names) (late.is_function_operand i) i.symbol_uses
    (λ u used. right_use u.is_call (late.is_right true (late.sort_of i u)) (late.is_right_symbol i u) (use_right m far i u h.1 forms globals functions used)) h.1.uses_so in
    let no_symbol = none_found (IsSymbolUse m i.symbols.names) (λ (u : SymbolUse). not (late.is_right_symbol i u)) i.symbol_uses
    (λ u used. ap not (use_right m far i u h.1 forms globals functions used)) h.1.uses_so in
    let no_struct = none_found (IsStructUse m i.struct_names.names) (λ (u : StructUse). not (late.is_right_struct i u)) i.struct_uses
    (λ u used. ap not (struct_right m far i u h.0 structs used)) h.0.uses_so in
    ap (λ (x : Option SymbolUse). first_of_faults (option_map operand_fault x) (earliest (earliest i.missing (late.wrong_symbol i)) (late.wrong_struct i))) no_operand
    ∙ ap (λ (x : Option ℕ). first_of_faults None (earliest (earliest x (late.wrong_symbol i)) (late.wrong_struct i))) h.3.none_missing
    ∙ ap (λ (x : Option SymbolUse). first_of_faults None (earliest (earliest None (option_map (λ (u : SymbolUse). u.start) x)) (late.wrong_struct i))) no_symbol
    ∙ ap (λ (x : Option StructUse). first_of_faults None (option_map (λ (u : StructUse). u.start) x)) no_struct

-- ---- the beginning of a text

pub text_is_lexed : (bytes : Text) → IsLexed bytes (lexed_of bytes)
text_is_lexed bytes = found bytes (Ok (lexed_of bytes)) refl

pub start_stands : (wide : Bool) (bytes : Text) → Stands (start_in wide bytes (lexed_of bytes)).cursor bytes
start_stands wide bytes = ([], length bytes, true, refl, omega arith, refl, refl)

end_by : (n total : ℕ) (first : Bool) (gap : Text) → past_gap false gap ≡ [] → ((lex_from n total first [] gap).tokens ≡ []) × ((lex_from n total first [] gap).bad ≡ None)
unfolding lex_from
end_by zero total first gap e = rw e (refl, refl)
end_by (suc n) total first gap e = rw e (refl, refl)

pub past_end : (past_gap false (10 ∷ []) ≡ []) × (past_gap false [] ≡ [])
unfolding past_gap
past_end = (refl, refl)

-- after the last line the text ends
pub ends_there : (c : Place) (gap : Text) → past_gap false gap ≡ [] → Stands c gap → (kind c ≡ k.End) × (bad_here c ≡ None)
unfolding kind bad_here
ends_there c gap e at =
    let l = end_by at.1 (length c.text) at.2 gap e in
    let none = at.5 ∙ l.0 in
    (ap (λ (ts : List Token). kind_first (here c.wide ts)) none, ap (λ (ts : List Token). bad_from c.wide ts c.bad) none ∙ at.6 ∙ l.1)
