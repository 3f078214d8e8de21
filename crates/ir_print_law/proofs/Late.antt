-- Each name that is used in the function's own text is right in the module, where it is right in the whole text.
use Rattle.std.proofs.Common.{◌≡◌, ℕ, Bool, true, false, not, List, [], ◌∷◌, inl, inr, Option, None, Some, refl, sym, ap, ap₂, subst, ◌∙◌}
use Rattle.std.specs.Prelude.{slice_get, find, option_map, option_and_then}
use Rattle.lemmas.specs.Lists.{IsIn}
use Rattle.ir_ast.specs.Names.{place_of, name_at}
use Rattle.ir_ast.specs.declared.items_of_module.SymbolSort.{SymbolSort}
use Rattle.ir_ast.specs.declared.module.Module.{Module}
use Rattle.ir_tokens.specs.Bytes.{Text}
use Rattle.ir_forms.specs.declared.input.Input.{Input}
use Rattle.ir_forms.specs.declared.uses.StructUse.{StructUse}
use Rattle.ir_forms.specs.declared.uses.SymbolUse.{SymbolUse}
use Rattle.ir_text.specs.Anew.{with_sorts, late_anew}
use Rattle.copies.specs.Tables.{tables_of}
use Rattle.ir_text.specs.Late.{is_right, may_use, is_right_symbol, is_function_operand, is_struct, is_right_struct, operand_fault, function_operand, wrong_symbol, wrong_struct}
use Rattle.ir_print_law.specs.Places.{symbol_in, AreRight}
use Rattle.ir_print_law.proofs.Tables.{Begins, stays, place_stays}
use Rattle.ir_print_law.proofs.Seats.{Seat}
use Rattle.ir_print_law.proofs.Function.{Ended}
use Rattle.ir_print_law.proofs.AnewTables.{place_is_there}
use Rattle.ir_print_law.proofs.Operands.{named_at}
use Rattle.ir_print_law.proofs.Used.{none_used, right_use}

none_found : {A : Type 0} (p : A → Bool) (xs : List A) → ((x : A) → IsIn x xs → p x ≡ false) → find p xs ≡ None
none_found p [] h = refl
none_found p (x ∷ xs) h = let here = h x (inl refl) in rw here (none_found p xs (λ y there. h y (inr there)))

-- the place of a name that means something is its place in the longer table
placed : {S : Type 0} (test : Option S → Bool) → test None ≡ false → (sorts : List S) (name : Text) (names more : List Text) (n : ℕ) → Begins names more → place_of name more ≡ Some n
    → (place : Option ℕ) → place_of name names ≡ place → test (option_and_then (slice_get sorts) place) ≡ true → (slice_get sorts n ≡ option_and_then (slice_get sorts) place) × (place ≡ Some n)
placed test none sorts name names more n b at None e is = absurd (let bad = sym none ∙ is in cc)
placed test none sorts name names more n b at (Some q) e is =
    let same : Some n ≡ Some q = sym at ∙ place_stays name names more q b e in
    let number : n ≡ q = cc in
    (ap (slice_get sorts) number, ap Some (sym number))

struct_stays : (sorts more : List (Option ℕ)) (n : ℕ) → Begins sorts more → (x : Option (Option ℕ)) → slice_get sorts n ≡ x → is_struct x ≡ true → is_struct (slice_get more n) ≡ true
struct_stays sorts more n b None at e = absurd cc
struct_stays sorts more n b (Some None) at e = absurd cc
struct_stays sorts more n b (Some (Some layout)) at e = ap is_struct (stays sorts more n (Some layout) b at)

module _ (s : Seat) (m : Module) (j o p : Input) (ended : Ended s j o p) (symbols : j.symbols.names ≡ m.symbols) (structs : j.struct_names.names ≡ m.struct_names) (sorts : j.struct_names.sorts ≡ m.struct_of) (right : AreRight m o) where
  begins_symbols : Begins m.symbols p.symbols.names
  begins_symbols = subst (λ (l : List Text). Begins l p.symbols.names) symbols ended.grown.2

  begins_structs : Begins m.struct_names p.struct_names.names
  begins_structs = subst (λ (l : List Text). Begins l p.struct_names.names) structs ended.grown.1

  begins_sorts : Begins m.struct_of p.struct_names.sorts
  begins_sorts = subst (λ (l : List (Option ℕ)). Begins l p.struct_names.sorts) sorts ended.grown.3

  symbol_right : (u : SymbolUse) → IsIn u p.symbol_uses → may_use p.wide u.is_call (slice_get m.sorts u.symbol) (name_at p.symbols.names u.symbol) ≡ true
  symbol_right u there =
      let r = ended.symbols.used u there in
      let own : may_use o.wide u.is_call (symbol_in m r.0) r.0 ≡ true = subst (λ (c : Bool). may_use o.wide c (symbol_in m r.0) r.0 ≡ true) r.3 (right.symbols r.0 r.1 r.2 r.4) in
      let at = placed (λ (x : Option SymbolSort). may_use o.wide u.is_call x r.0) (none_used o.wide u.is_call r.0) m.sorts r.0 m.symbols p.symbols.names u.symbol begins_symbols r.5 (place_of r.0 m.symbols) refl own in
      let its = named_at p.symbols.names u.symbol r.0 (place_is_there r.0 p.symbols.names u.symbol r.5) in
      ap₂ (λ (wide : Bool) (name : Text). may_use wide u.is_call (slice_get m.sorts u.symbol) name) (sym ended.forms) its ∙ ap (λ (x : Option SymbolSort). may_use o.wide u.is_call x r.0) at.0 ∙ own

  struct_right : (u : StructUse) → IsIn u p.struct_uses → is_struct (slice_get p.struct_names.sorts u.name) ≡ true
  struct_right u there =
      let r = ended.structs.used u there in
      let own = right.structs r.0 r.1 r.2 r.3 in
      let at = placed is_struct refl m.struct_of r.0 m.struct_names p.struct_names.names u.name begins_structs r.4 (place_of r.0 m.struct_names) refl own in
      struct_stays m.struct_of p.struct_names.sorts u.name begins_sorts (slice_get m.struct_of u.name) refl (ap is_struct at.0 ∙ own)

  -- no name has a fault
  pub nothing_late : late_anew (tables_of m) p ≡ None
  nothing_late =
      let i = with_sorts m.sorts p in
      let operand : function_operand i ≡ None = ap (option_map operand_fault) (none_found (is_function_operand i) p.symbol_uses (λ u there. right_use u.is_call (is_right true (slice_get m.sorts u.symbol)) (is_right_symbol i u) (symbol_right u there))) in
      let wrong : wrong_symbol i ≡ None = ap (option_map (λ (u : SymbolUse). u.start)) (none_found (λ u. not (is_right_symbol i u)) p.symbol_uses (λ u there. ap not (symbol_right u there))) in
      let missed : wrong_struct i ≡ None = ap (option_map (λ (u : StructUse). u.start)) (none_found (λ u. not (is_right_struct i u)) p.struct_uses (λ u there. ap not (struct_right u there))) in
      rw (operand, ended.missing, wrong, missed) refl
