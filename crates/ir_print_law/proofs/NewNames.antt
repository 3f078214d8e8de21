-- Names that are defined are read, and from there on it is known what they mean.
use Rattle.std.proofs.Common.{◌≡◌, ℕ, suc, ◌+◌, ◌<◌, ◌≤◌, ◌^◌, true, false, not, List, [], ◌∷◌, ◌++◌, length, slice_get, Some, refl, sym, ap, subst, ◌∙◌, arith, length-append}
use Rattle.lemmas.specs.Lists.{IsIn}
use Rattle.ir_print_law.proofs.NamesRead.{few}
use Rattle.ir_ast.specs.declared.function.Function.{Function}
use Rattle.ir_ast.specs.declared.items_of_module.SymbolSort.{SymbolSort}
use Rattle.ir_ast.specs.declared.module.Module.{Module}
use Rattle.ir_tokens.specs.Bytes.{Text}
use Rattle.ir_forms.specs.Cursor.{spelled}
use Rattle.ir_forms.specs.Intrinsics.{is_left_out}
use Rattle.ir_forms.specs.declared.input.Input.{Input}
use Rattle.ir_forms.specs.Names as names
use Rattle.name_text.specs.Names.{name_text}
use Rattle.name_text.specs.Readings.{AreBytes}
use Rattle.name_text.specs.declared.blank.Blank.TheVariants as blank
use Rattle.ir_print_law.specs.Stands.{IsSeam, AreBlanks}
use Rattle.name_text.specs.Reading.{name_spelled}
use Rattle.ir_print_law.proofs.Words.{local_comes, global_comes}
use Rattle.ir_print_law.proofs.Tables.{begins_itself, name_begins, name_length, name_there, number_within}
use Rattle.ir_print_law.proofs.State.{Ready}
use Rattle.ir_print_law.proofs.Known.{Far, AreNamed, StructsKnown, SymbolsKnown, known}
use Rattle.ir_print_law.proofs.Defining.{structs_defined, struct_is_new, symbol_is_new}
use Rattle.ir_print_law.proofs.WholeForms.{Goes}

-- a sign and a word take at least one byte
pub one_byte : (gap : Text) (b : ℕ) (word rest : Text) (s : ℕ) → suc (length rest + s) ≤ length (gap ++ b ∷ (word ++ rest)) + s
one_byte gap b word rest s = let a = length-append gap (b ∷ (word ++ rest)) in let w = length-append word rest in omega (arith, a, w)

module _ (m : Module) (f : Function) (named : AreNamed m f) (far : Far) where
  -- ---- structs

  abbrev pub far_struct : Text → Far
  far_struct name = record far { structs = far.structs ++ name ∷ [] }

  pub new_struct_goes : (name : Text) (i : Input) (gap rest : Text) (s : ℕ) → AreBytes name → (IsIn name far.structs → ⊥) → length far.struct_types < 2 ^ 32
      → AreBlanks gap → IsSeam rest → Ready (known m f named far) s i (gap ++ 37 ∷ (name_text blank.Kept name ++ rest))
      → Goes (known m f named (far_struct name)) s names.new_struct i rest (λ n o. slice_get o.struct_names.names n ≡ Some name)
  unfolding names.new_struct
  new_struct_goes name i gap rest s own none less blanks seam ready =
      let w = local_comes i.cursor gap name rest blanks own seam ready.stands in
      let e : spelled i.cursor ≡ name = w.2 ∙ name_spelled blank.Kept name own in
      let h = ready.holds in
      let r = ready.room in
      let one = one_byte gap 37 (name_text blank.Kept name) rest s in
      let room_structs = r.structs in
      let within = number_within (spelled i.cursor) i.struct_names.names in
      let number : names.struct_number i < 2 ^ 32 = omega (arith, room_structs, within) in
      let counted : length i.structs < 2 ^ 32 = subst (λ (x : List _). length x < 2 ^ 32) (sym h.3.structs_are) less in
      let new = struct_is_new m far.structs i.struct_names i.struct_uses (spelled i.cursor) h.0 (λ is. none (subst (λ (x : Text). IsIn x far.structs) e is)) in
      let longer = name_length (spelled i.cursor) i.struct_names.names in (
        names.struct_number i,
        names.with_struct i,
        (tt, i, (tt, i, (tt, i, (few (names.struct_number i) number, refl), (few (length i.structs) counted, refl)), (ap not new, refl)), (refl, refl)),
        record {
          stands = w.3;
          ordered = ready.ordered;
          forms = ready.forms;
          room = record {
            types = let a = r.types in omega (arith, a, one);
            structs = omega (arith, room_structs, one, longer);
            symbols = let a = r.symbols in omega (arith, a, one);
            locals = let a = r.locals in omega (arith, a, one);
          };
          holds = (
            subst (λ (x : Text). StructsKnown m (far.structs ++ x ∷ []) (names.with_struct i).struct_names i.struct_uses) e
                (structs_defined m far.structs i.struct_names i.struct_uses (spelled i.cursor) (length i.structs) h.0),
            h.1,
            h.2,
            record {
              values_are = h.3.values_are;
              unnamed_is = h.3.unnamed_is;
              none_missing = h.3.none_missing;
              structs_are = h.3.structs_are;
              globals_are = h.3.globals_are;
              declares_are = h.3.declares_are;
              functions_are = h.3.functions_are;
            },
          );
        },
        record { types = begins_itself i.types; structs = name_begins (spelled i.cursor) i.struct_names.names; symbols = begins_itself i.symbols.names; locals = begins_itself i.locals.names },
        name_there (spelled i.cursor) i.struct_names.names ∙ ap Some e,
      )

  -- ---- global names

  -- what is known of global names then
  abbrev pub SymbolsThen : (more_globals more_functions : List Text) → Text → SymbolSort → Input → Type 0
  SymbolsThen more_globals more_functions name sort i =
      SymbolsKnown m far.symbols far.globals far.functions i.symbols i.symbol_uses → spelled i.cursor ≡ name
      → SymbolsKnown m (far.symbols ++ name ∷ []) more_globals more_functions (names.with_symbol sort i).symbols i.symbol_uses

  abbrev pub far_symbol : (more_globals more_functions : List Text) → Text → Far
  far_symbol more_globals more_functions name = record far { symbols = far.symbols ++ name ∷ []; globals = more_globals; functions = more_functions }

  pub new_symbol_goes : (more_globals more_functions : List Text) (sort : SymbolSort) (name : Text) (i : Input) (gap rest : Text) (s : ℕ) → AreBytes name → is_left_out m.wide name ≡ false → (IsIn name far.symbols → ⊥)
      → SymbolsThen more_globals more_functions name sort i
      → AreBlanks gap → IsSeam rest → Ready (known m f named far) s i (gap ++ 64 ∷ (name_text blank.Kept name ++ rest))
      → Goes (known m f named (far_symbol more_globals more_functions name)) s (names.new_symbol sort) i rest (λ n o. slice_get o.symbols.names n ≡ Some name)
  unfolding names.new_symbol
  new_symbol_goes more_globals more_functions sort name i gap rest s own allowed none then blanks seam ready =
      let w = global_comes i.cursor gap name rest blanks own seam ready.stands in
      let e : spelled i.cursor ≡ name = w.2 ∙ name_spelled blank.Kept name own in
      let h = ready.holds in
      let r = ready.room in
      let one = one_byte gap 64 (name_text blank.Kept name) rest s in
      let room_symbols = r.symbols in
      let within = number_within (spelled i.cursor) i.symbols.names in
      let number : names.symbol_number i < 2 ^ 32 = omega (arith, room_symbols, within) in
      let kept : not (is_left_out i.wide (spelled i.cursor)) ≡ true = rw (ready.forms, e) (ap not allowed) in
      let new = symbol_is_new m far.symbols far.globals far.functions i.symbols i.symbol_uses (spelled i.cursor) h.1 (λ is. none (subst (λ (x : Text). IsIn x far.symbols) e is)) in
      let longer = name_length (spelled i.cursor) i.symbols.names in (
        names.symbol_number i,
        names.with_symbol sort i,
        (tt, i, (tt, i, (tt, i, (kept, refl), (few (names.symbol_number i) number, refl)), (ap not new, refl)), (refl, refl)),
        record {
          stands = w.3;
          ordered = ready.ordered;
          forms = ready.forms;
          room = record {
            types = let a = r.types in omega (arith, a, one);
            structs = let a = r.structs in omega (arith, a, one);
            symbols = omega (arith, room_symbols, one, longer);
            locals = let a = r.locals in omega (arith, a, one);
          };
          holds = (
            h.0,
            then h.1 e,
            h.2,
            record {
              values_are = h.3.values_are;
              unnamed_is = h.3.unnamed_is;
              none_missing = h.3.none_missing;
              structs_are = h.3.structs_are;
              globals_are = h.3.globals_are;
              declares_are = h.3.declares_are;
              functions_are = h.3.functions_are;
            },
          );
        },
        record { types = begins_itself i.types; structs = begins_itself i.struct_names.names; symbols = name_begins (spelled i.cursor) i.symbols.names; locals = begins_itself i.locals.names },
        name_there (spelled i.cursor) i.symbols.names ∙ ap Some e,
      )
