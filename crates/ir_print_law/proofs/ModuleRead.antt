-- A module that is read is printable.
use Rattle.std.proofs.Common.{◌≡◌, ℕ, Bool, ◌+◌, ◌≤◌, true, List, [], ◌∷◌, ◌++◌, length, Option, None, Some, refl, sym, ap, subst, ◌∙◌, arith, ◌⊎◌}
use Rattle.std.specs.Prelude.{nat_lt}
use Rattle.std.specs.List.{AllByRecursion}
use Rattle.lemmas.specs.All.{all_so}
use Rattle.grammar.specs.Many.{Listed}
use Rattle.ir_ast.specs.declared.block.Block.{Block}
use Rattle.ir_ast.specs.declared.function.Function.{Function}
use Rattle.ir_ast.specs.declared.function.Parameter.{Parameter}
use Rattle.ir_ast.specs.declared.items_of_module.SymbolSort.TheVariants as symbol
use Rattle.ir_ast.specs.declared.module.Module.{Module}
use Rattle.ir_tokens.specs.Bytes.{Text}
use Rattle.ir_tokens.specs.Tokens.{IsLexed}
use Rattle.ir_tokens.specs.declared.lexed.Lexed.{Lexed}
use Rattle.ir_tokens.specs.declared.token.Kind.{Kind}
use Rattle.ir_tokens.specs.declared.token.Kind.TheVariants as k
use Rattle.ir_forms.specs.Cursor.{kind}
use Rattle.ir_forms.specs.Table.{empty}
use Rattle.ir_forms.specs.declared.input.Input.{Input}
use Rattle.ir_forms.specs.Input.{Form, expect}
use Rattle.ir_forms.specs.Names.{first_missing}
use Rattle.ir_forms.specs.declared.decorating.Spot.TheVariants as spot
use Rattle.ir_text.specs.Blocks.{blocks}
use Rattle.ir_text.specs.ItemsOfText.{function_name_by, function_name, head_end, open_body, earlier, function_of, with_function, head, definition, item_by, item, at_end_of_text, items, whole}
use Rattle.ir_text.specs.Late.{late_fault}
use Rattle.ir_text.specs.Parameters.{parameters}
use Rattle.ir_text.specs.Read.{module_of, module_in, start_in, IsText}
use Rattle.name_text.specs.Readings.{AreBytes}
use Rattle.ir_print_law.specs.CoreForms.{FormsStay}
use Rattle.ir_print_law.specs.FunctionNames.{HasNames}
use Rattle.ir_print_law.specs.ModuleNames.{HasModuleNames}
use Rattle.ir_print_law.specs.OneTypes.{HasOneTypes}
use Rattle.ir_print_law.specs.Parts.{IsVoid}
use Rattle.ir_print_law.specs.Printable.{IsPrintable, IsFunction, IsPassed, IsStructType, IsGlobal, IsDeclare}
use Rattle.ir_print_law.proofs.Forms.{Keeps, Any}
use Rattle.ir_print_law.proofs.FunctionsRead.{function_is, function_keeps}
use Rattle.ir_print_law.proofs.ItemTypes.{defined_result_keeps}
use Rattle.ir_print_law.proofs.ItemsRead.{Grows, Grown, grows_not, grows_by, grown_not, grown_further, IsBetween, Goes, struct_type_goes, global_goes, declaration_goes}
use Rattle.ir_print_law.proofs.LinesRead.{source_passes, target_passes, group_passes, comdat_passes, metadata_passes}
use Rattle.ir_print_law.proofs.ModuleEnds.{structs_end, symbols_end}
use Rattle.ir_print_law.proofs.ModuleItems.{function_pending, new_function_keeps, function_added}
use Rattle.ir_print_law.proofs.ModuleNamed.{has_names}
use Rattle.ir_print_law.proofs.ModuleState.{no_one, Stands, Kept, kept_of, Leads, reading_of, Made, made_of, between, outside_of}
use Rattle.ir_print_law.proofs.ModuleTables.{no_structs, no_symbols}
use Rattle.ir_print_law.proofs.NumberTokens.{lexed_spell}
use Rattle.ir_print_law.proofs.OneTypes.{one_types}
use Rattle.ir_print_law.proofs.Outside.{Outside}
use Rattle.ir_print_law.proofs.Passes.{Passes, skip_passes}
use Rattle.ir_print_law.proofs.Tables.{AreOrdered, begins_itself}
use Rattle.ir_print_law.proofs.Uses.{struct_right, symbol_right, nothing_late}

-- A function that is read is good, and preserves what is known outside of its names.
abbrev pub FunctionKeeps : (Module → Function → Type 0) → Type 1
FunctionKeeps Good =
    (m : Module) (w : Outside m) (symbol returned : ℕ) (ps : List Parameter) (c : Option Text) (bs : List Block) (i i1 i2 i3 i4 i5 i6 o : Input)
    → (expect k.OpenRound).says i tt i1 → parameters.says i1 ps i2 → (expect k.CloseRound).says i2 tt i3 → (head_end spot.Defined).says i3 c i4
    → open_body.says i4 tt i5 → blocks.says i5 bs i6 → (expect k.CloseBrace).says i6 tt o
    → i.locals ≡ empty → i.local_uses ≡ [] → i.values ≡ 0 → i.unnamed ≡ 0
    → w.reading.Fore i
    → w.reading.Fore o
    × (first_missing o.locals o.local_uses ≡ None → w.reading.Back o
    → w.reading.Back i
    × (IsVoid m returned ⊎ IsPassed m returned
    → Good m (record { symbol = symbol; returned = returned; parameters = ps; collector = c; locals = o.locals.names; sorts = o.locals.sorts; blocks = bs })))

pub neither : (x y : Option ℕ) → earlier x y ≡ None → (x ≡ None) × (y ≡ None)
neither None y e = (refl, e)
neither (Some place) y e = absurd cc

-- a function with this head
abbrev pub read_function : (symbol returned : ℕ) → List Parameter → Option Text → List Block → Input → Function
read_function symbol returned ps c bs i = function_of (record { symbol = symbol; returned = returned; parameters = ps; collector = c }) bs i

-- the state after it
abbrev pub after_function : (symbol returned : ℕ) → List Parameter → Option Text → List Block → Input → Input
after_function symbol returned ps c bs i = with_function (record { symbol = symbol; returned = returned; parameters = ps; collector = c }) bs i

-- where reading goes on to its end from after a function, it does so from the function's brace, and no name is missing there
pub leads_function : (e : Input) (symbol returned : ℕ) (ps : List Parameter) (c : Option Text) (bs : List Block) (i : Input) → Leads e (after_function symbol returned ps c bs i)
    → (first_missing i.locals i.local_uses ≡ None) × Leads e i
unfolding with_function
leads_function e symbol returned ps c bs i b =
    let none = neither i.missing (first_missing i.locals i.local_uses) b.missing in (
      none.1,
      record {
        end = b.end;
        types = b.types;
        struct_names = b.struct_names;
        symbols = b.symbols;
        struct_uses = b.struct_uses;
        symbol_uses = b.symbol_uses;
        missing = none.0;
        forms = b.forms;
      },
    )

-- the items with one function more
abbrev pub with_made : Made → Function → Made
with_made made f = record made { functions = made.functions ++ f ∷ [] }

-- what is kept after it is what is between this one and the next
pub between_again : (symbol returned : ℕ) (ps : List Parameter) (c : Option Text) (bs : List Block) (i : Input) (made : Made) → made_of (kept_of i) ≡ made
    → kept_of (after_function symbol returned ps c bs i) ≡ between (with_made made (read_function symbol returned ps c bs i))
unfolding with_function
between_again symbol returned ps c bs i made e = ap (λ (x : Made). between (with_made x (read_function symbol returned ps c bs i))) e

module _ (Good : Module → Function → Type 0) (keeps : FunctionKeeps Good) (e : Input) where
  -- ---- defined functions

  named_by : (made : Made) (number : ℕ) (x : Kind) (i : Input) → length made.functions ≡ number → nat_lt number 65535 ≡ true
      → Keeps (IsBetween made) (λ n o. Stands (function_pending n) o × (kept_of o ≡ between made)) (Leads e) (function_name_by (symbol.Defined number) x) Any i
  named_by made number k.GlobalName i same few n o h f =
      new_function_keeps e (λ (x : Kept). x ≡ between made) i number (ap (λ (x : Kept). length x.functions) f.1 ∙ same) few n o h f
  named_by made number _ i same few n o h f = absurd h

  name_keeps : (made : Made) (number : ℕ) (i : Input) → length made.functions ≡ number → nat_lt number 65535 ≡ true
      → Keeps (IsBetween made) (λ n o. Stands (function_pending n) o × (kept_of o ≡ between made)) (Leads e) (function_name (symbol.Defined number)) Any i
  unfolding function_name
  name_keeps made number i same few n o h f = named_by made number (kind i.cursor) i same few n o h f

  definition_goes : Goes e (Good (module_of e)) definition
  unfolding definition head
  definition_goes i made a o h f =
      let m = module_of e in
      let same = h.2.1 in
      let number = length h.1.functions in
      let few : nat_lt number 65535 ≡ true = ap (λ (j : Input). nat_lt (length j.functions) 65535) (sym same) ∙ h.2.0 in
      let before : IsBetween made h.1 = subst (IsBetween made) same f in
      let counted : length made.functions ≡ number = sym (ap (λ (x : Kept). length x.functions) before.1) in
      let front = h.3 in
      let s1 = front.2 in
      let s2 = s1.3 in
      let s3 = s2.3 in
      let s4 = s3.3 in
      let s5 = s4.3 in
      let s6 = s5.3 in
      let s7 = s6.3 in
      let u1 = front.3 in
      let u2 = u1.3 in
      let u3 = u2.3 in
      let opened = subst (λ (j : Input). open_body.says j u1.0 u1.1) (sym s7.3.1) u1.2 in
      let end : after_function s3.0 s2.0 s5.0 s7.0 u2.0 u3.1 ≡ o = ap (λ x. with_function x u2.0 u3.1) s7.3.0 ∙ u3.3.1 in
      let f0 = read_function s3.0 s2.0 s5.0 s7.0 u2.0 u3.1 in
      let later = with_made made f0 in
      let r = reading_of e (λ (x : Kept). x ≡ between made) no_one in
      let b1 = skip_passes r h.1 s1.0 s1.1 s1.2 before in
      let b2 = defined_result_keeps r s1.1 s2.0 s2.1 s2.2 b1.0 in
      let b3 = name_keeps made number s2.1 counted few s3.0 s3.1 s3.2 b2.0 in
      let quiet = b3.0.1 in
      let b4 = keeps m (outside_of e made (function_pending s3.0)) s3.0 s2.0 s5.0 s7.0 u2.0 s3.1 s4.1 s5.1 s6.1 s7.1 u1.1 u2.1 u3.1 s4.2 s5.2 s6.2 s7.2 opened u2.2 u3.2
      (ap (λ (x : Kept). x.locals) quiet) (ap (λ (x : Kept). x.local_uses) quiet) (ap (λ (x : Kept). x.values) quiet) (ap (λ (x : Kept). x.unnamed) quiet)
      (b3.0.0, ap made_of quiet) in
      let there : IsBetween later (after_function s3.0 s2.0 s5.0 s7.0 u2.0 u3.1) =
      (function_added s3.0 s2.0 s5.0 s7.0 u2.0 u3.1 b4.0.0, between_again s3.0 s2.0 s5.0 s7.0 u2.0 u3.1 made b4.0.1) in (
        later,
        subst (IsBetween later) end there,
        λ back.
            let c5 = leads_function e s3.0 s2.0 s5.0 s7.0 u2.0 u3.1 (subst (Leads e) (sym end) back) in
            let c4 = b4.1 c5.0 c5.1 in
            let c2 = b2.1 (b3.1 c4.0).0 in
            let c1 = b1.1 c2.0 in (
              subst (Leads e) (sym same) c1.0,
              record {
                structs = grows_not (IsStructType m) made.structs;
                globals = grows_not (IsGlobal m) made.globals;
                declares = grows_not (IsDeclare m) made.declares;
                functions = grows_by (Good m) made.functions f0 (c4.1 c2.1);
              },
            ),
      )

  -- ---- all items

  passes_goes : {A : Type 0} (form : Form A) → ((made : Made) → Passes (reading_of e (λ (x : Kept). x ≡ between made) no_one) form) → Goes e (Good (module_of e)) form
  passes_goes form passes i made a o h f = let x = passes made i a o h f in (made, x.0, λ b. ((x.1 b).0, grown_not (module_of e) (Good (module_of e)) made))

  item_by_goes : (x : Kind) → Goes e (Good (module_of e)) (item_by x)
  item_by_goes k.LocalName = struct_type_goes e (Good (module_of e))
  item_by_goes k.GlobalName = global_goes e (Good (module_of e))
  item_by_goes k.Declare = declaration_goes e (Good (module_of e))
  item_by_goes k.Define = definition_goes
  item_by_goes k.SourceFilename = passes_goes (item_by k.SourceFilename) (λ made. source_passes (reading_of e (λ (x : Kept). x ≡ between made) no_one))
  item_by_goes k.Target = passes_goes (item_by k.Target) (λ made. target_passes (reading_of e (λ (x : Kept). x ≡ between made) no_one))
  item_by_goes k.Attributes = passes_goes (item_by k.Attributes) (λ made. group_passes (reading_of e (λ (x : Kept). x ≡ between made) no_one))
  item_by_goes k.Word = passes_goes (item_by k.Word) (λ made. comdat_passes (reading_of e (λ (x : Kept). x ≡ between made) no_one))
  item_by_goes k.Exclamation = passes_goes (item_by k.Exclamation) (λ made. metadata_passes (reading_of e (λ (x : Kept). x ≡ between made) no_one))
  item_by_goes k.MetadataName = passes_goes (item_by k.MetadataName) (λ made. metadata_passes (reading_of e (λ (x : Kept). x ≡ between made) no_one))
  item_by_goes k.MetadataNumber = passes_goes (item_by k.MetadataNumber) (λ made. metadata_passes (reading_of e (λ (x : Kept). x ≡ between made) no_one))
  item_by_goes _ = λ i made a o h f. absurd h

  item_goes : Goes e (Good (module_of e)) item
  unfolding item
  item_goes i made a o h f = item_by_goes (kind i.cursor) i made a o h f

  listed_go : (xs : List (Unit {0})) (i : Input) (made : Made) (o : Input) → Listed at_end_of_text item.says i xs o → IsBetween made i
      → (later : Made) × IsBetween later o × (Leads e o → Leads e i × Grown (module_of e) (Good (module_of e)) made later)
  listed_go [] i made o h f = (made, subst (IsBetween made) h.1 f, λ b. (subst (Leads e) (sym h.1) b, grown_not (module_of e) (Good (module_of e)) made))
  listed_go (a ∷ xs) i made o h f =
      let x = item_goes i made a h.1 h.2 f in
      let y = listed_go xs h.1 x.0 o h.3 x.1 in
      (y.0, y.1, λ b. let c = y.2 b in let d = x.2 c.0 in (d.0, grown_further (module_of e) (Good (module_of e)) made x.0 y.0 d.1 c.1))

  whole_goes : Goes e (Good (module_of e)) whole
  unfolding whole items
  whole_goes i made a o h f =
      let x = listed_go h.0 i made h.1 h.2 f in
      let same = h.3.1 in
      (x.0, subst (IsBetween x.0) same x.1, λ b. x.2 (subst (Leads e) (sym same) b))

-- ---- a whole module

-- before the first item
abbrev nothing_made : Made
nothing_made = record { structs = []; globals = []; declares = []; functions = [] }

starts : (wide : Bool) (bytes : Text) (lexed : Lexed) → AreBytes bytes → IsLexed bytes lexed → IsBetween nothing_made (start_in wide bytes lexed)
starts wide bytes lexed own is = (
  record {
    bytes = own;
    spell = lexed_spell bytes lexed is;
    place = refl;
    ordered = λ n x e. absurd cc;
    once = λ one other x e h. absurd cc;
    structs = no_structs;
    symbols = no_symbols wide;
    few_globals = omega arith;
    few_declares = omega arith;
    few_functions = omega arith;
  },
  refl,
)

-- the end of reading is its own end
pub ends : (o : Input) → Stands no_one o → late_fault o ≡ None → Leads o o
ends o end none =
    let late = nothing_late o none in
    record {
      end = end;
      types = begins_itself o.types;
      struct_names = begins_itself o.struct_names.names;
      symbols = begins_itself o.symbols.names;
      struct_uses = struct_right o late.2;
      symbol_uses = symbol_right o late.1;
      missing = late.0;
      forms = refl;
    }

all_grown : {A : Type 0} (P : A → Type 0) (xs ys : List A) → ys ≡ xs → Grows P [] xs → AllByRecursion P ys
all_grown P xs ys same h = subst (AllByRecursion P) (sym (same ∙ h.1)) h.2

no_more : (n most : ℕ) → n + 0 ≤ most → n ≤ most
no_more n most le = omega (arith, le)

-- what holds where the reading of a text ends
abbrev pub HasRead : (Module → Function → Type 0) → Input → Type 0
HasRead Good o = Stands no_one o × AllByRecursion (IsStructType (module_of o)) o.structs × AllByRecursion (IsGlobal (module_of o)) o.globals
    × AllByRecursion (IsDeclare (module_of o)) o.declares × AllByRecursion (Good (module_of o)) o.functions

read : (Good : Module → Function → Type 0) → FunctionKeeps Good → (wide : Bool) (bytes : Text) (lexed : Lexed) (o : Input) → AreBytes bytes → IsLexed bytes lexed
    → whole.says (start_in wide bytes lexed) tt o → late_fault o ≡ None → HasRead Good o × (o.wide ≡ wide)
read Good keeps wide bytes lexed o own is said none =
    let m = module_of o in
    let x = whole_goes Good keeps o (start_in wide bytes lexed) nothing_made tt o said (starts wide bytes lexed own is) in
    let later = x.0 in
    let back = x.2 (ends o x.1.0 none) in
    let grown = back.1 in
    let same = x.1.1 in (
      (
        x.1.0,
        all_grown (IsStructType m) later.structs o.structs (ap (λ (y : Kept). y.structs) same) grown.structs,
        all_grown (IsGlobal m) later.globals o.globals (ap (λ (y : Kept). y.globals) same) grown.globals,
        all_grown (IsDeclare m) later.declares o.declares (ap (λ (y : Kept). y.declares) same) grown.declares,
        all_grown (Good m) later.functions o.functions (ap (λ (y : Kept). y.functions) same) grown.functions,
      ),
      sym back.0.forms,
    )

end_printable : (Good : Module → Function → Type 0) → ((m : Module) (f : Function) → Good m f → IsFunction m f) → (o : Input) → HasRead Good o → IsPrintable (module_of o)
end_printable Good is_function o h = record {
  struct_names = structs_end o h.0;
  symbols = symbols_end o h.0;
  structs = h.1;
  globals = h.2;
  few_globals = no_more (length o.globals) 4096 h.0.few_globals;
  declares = h.3;
  few_declares = no_more (length o.declares) 65535 h.0.few_declares;
  functions = all_so (Good (module_of o)) (IsFunction (module_of o)) o.functions (is_function (module_of o)) h.4;
  few_functions = no_more (length o.functions) 65535 h.0.few_functions;
}

-- what holds of a module where reading ends holds of the module that is read
pub read_so : (Good : Module → Function → Type 0) → FunctionKeeps Good → (P : Module → Type 0) → ((o : Input) → HasRead Good o → P (module_of o))
    → (bytes : Text) (m : Module) → AreBytes bytes → IsText bytes m → P m
read_so Good keeps P so bytes m own is =
    let end = is.3 in
    let done = read Good keeps m.wide bytes is.1 end.0 own is.2 end.1 end.2 in
    subst P (ap (λ (wide : Bool). module_in wide end.0) done.1 ∙ end.3) (so end.0 done.0)

-- what is read is printable
pub read_is_printable : (bytes : Text) (m : Module) → AreBytes bytes → IsText bytes m → IsPrintable m
read_is_printable = read_so IsFunction (λ m w. function_is w) IsPrintable (end_printable IsFunction (λ m f h. h))

-- a function whose names are its own
abbrev IsNamedFunction : Module → Function → Type 0
IsNamedFunction m f = IsFunction m f × HasNames f

-- and its names mean its items
pub read_has_names : (bytes : Text) (m : Module) → AreBytes bytes → IsText bytes m → HasModuleNames m
read_has_names =
    read_so IsNamedFunction (λ m w. function_keeps w) HasModuleNames
    (λ o h. has_names o h.0 (all_so (IsNamedFunction (module_of o)) HasNames o.functions (λ f is. is.1) h.4))

-- and each type is once in its table
pub read_has_one_types : (bytes : Text) (m : Module) → AreBytes bytes → IsText bytes m → HasOneTypes m
read_has_one_types = read_so IsFunction (λ m w. function_is w) HasOneTypes (λ o h. one_types (module_of o) h.0.once)

-- and the further fields of a struct come before it in its table of types
pub read_is_ordered : (bytes : Text) (m : Module) → AreBytes bytes → IsText bytes m → AreOrdered m.types
read_is_ordered = read_so IsFunction (λ m w. function_is w) (λ m. AreOrdered m.types) (λ o h. h.0.ordered)

-- whether the wide forms may stand is at the end as it was before the first token
pub read_keeps_forms : FormsStay
read_keeps_forms wide bytes lexed o own is said none = (read IsFunction (λ m w. function_is w) wide bytes lexed o own is said none).1
