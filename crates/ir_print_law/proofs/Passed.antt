-- The states before and after one function, where a whole text is read.
use Rattle.std.proofs.Common.{◌≡◌, ℕ, Bool, ◌+◌, true, List, [], ◌∷◌, ◌++◌, length, Some, refl, sym, ap, subst, ◌∙◌, arith}
use Rattle.std.specs.Prelude.{nat_lt, slice_get}
use Rattle.std.proofs.lemmas.Slice.Eq.{bytes_eq-Decides}
use Rattle.grammar.specs.Grammar.{◌>>=◌}
use Rattle.grammar.specs.Many.{Listed, Before}
use Rattle.ir_ast.specs.declared.function.Function.{Function}
use Rattle.ir_ast.specs.declared.items_of_module.SymbolSort.TheVariants as symbol
use Rattle.ir_tokens.specs.Bytes.{Text}
use Rattle.ir_tokens.specs.Tokens.{IsLexed}
use Rattle.ir_tokens.specs.declared.lexed.Lexed.{Lexed}
use Rattle.ir_tokens.specs.declared.token.Kind.{Kind}
use Rattle.ir_tokens.specs.declared.token.Kind.TheVariants as k
use Rattle.ir_forms.specs.Cursor.{kind, sees, spelled}
use Rattle.ir_forms.specs.declared.input.Input.{Input}
use Rattle.ir_forms.specs.Input.{Form}
use Rattle.ir_forms.specs.Names.{new_symbol, with_symbol}
use Rattle.ir_text.specs.Anew.{named_head}
use Rattle.ir_text.specs.ItemsOfText.{function_name_by, function_name, open_body, body_after, with_function, head, definition, item_by, item, at_end_of_text}
use Rattle.ir_text.specs.Read.{module_of, start_in}
use Rattle.name_text.specs.Readings.{AreBytes}
use Rattle.ir_print_law.specs.Printable.{IsFunction, IsStructType, IsGlobal, IsDeclare}
use Rattle.ir_print_law.proofs.Forms.{Keeps, Any}
use Rattle.ir_print_law.proofs.FunctionsRead.{function_is}
use Rattle.ir_print_law.proofs.ItemTypes.{defined_result_keeps}
use Rattle.ir_print_law.proofs.ItemsRead.{Grown, grows_not, grows_by, grown_not, grown_further, IsBetween, Goes, struct_type_goes, global_goes, declaration_goes}
use Rattle.ir_print_law.proofs.LinesRead.{source_passes, target_passes, group_passes, comdat_passes, metadata_passes}
use Rattle.ir_print_law.proofs.ModuleItems.{function_pending, new_function_keeps, function_added}
use Rattle.ir_print_law.proofs.ModuleRead.{read_function, after_function, leads_function, with_made, between_again}
use Rattle.ir_print_law.proofs.ModuleState.{no_one, Stands, Kept, kept_of, Leads, reading_of, Made, made_of, between, outside_of}
use Rattle.ir_print_law.proofs.ModuleTables.{no_structs, no_symbols}
use Rattle.ir_print_law.proofs.NumberTokens.{lexed_spell}
use Rattle.ir_print_law.proofs.Passes.{Passes, skip_passes}
use Rattle.ir_print_law.proofs.Tables.{name_there, stays}

-- ---- one function

-- the name of a function is at its number after it is read
name_by : (number : ℕ) (x : Kind) (i : Input) (n : ℕ) (o : Input) → (function_name_by (symbol.Defined number) x).says i n o → slice_get o.symbols.names n ≡ Some (spelled i.cursor)
unfolding new_symbol
name_by number k.GlobalName i n o said =
    let rules = said.2 in
    let same : i ≡ said.1 = rules.2.2.1 ∙ rules.2.3.1 ∙ rules.3.1 in
    let there = name_there (spelled said.1.cursor) said.1.symbols.names in
    ap (λ (x : Input). slice_get x.symbols.names n) (sym said.3.1) ∙ ap (slice_get (with_symbol (symbol.Defined number) said.1).symbols.names) (sym said.3.0) ∙ there ∙ ap (λ (x : Input). Some (spelled x.cursor)) (sym same)
name_by number _ i n o said = absurd said

name_is : (number : ℕ) (i : Input) (n : ℕ) (o : Input) → (function_name (symbol.Defined number)).says i n o → slice_get o.symbols.names n ≡ Some (spelled i.cursor)
unfolding function_name
name_is number i n o said = name_by number (kind i.cursor) i n o said

-- What is told of a function that was read: it is the last one, its name is in the table at the end, and by this name it is read in its place.
pub record Told (e : Input) (made later : Made) (i o : Input) : Type 0 where
  pub f : Function
  pub last : later.functions ≡ made.functions ++ f ∷ []
  pub name : Text
  pub named : slice_get e.symbols.names f.symbol ≡ Some name
  pub placed : sees k.Define i.cursor ≡ true → (named_head (length made.functions) name >>= body_after).says i tt o

module _ (e : Input) where
  named_by : (made : Made) (number : ℕ) (x : Kind) (i : Input) → length made.functions ≡ number → nat_lt number 65535 ≡ true
      → Keeps (IsBetween made) (λ n o. Stands (function_pending n) o × (kept_of o ≡ between made)) (Leads e) (function_name_by (symbol.Defined number) x) Any i
  named_by made number k.GlobalName i same few n o h f =
      new_function_keeps e (λ (x : Kept). x ≡ between made) i number (ap (λ (x : Kept). length x.functions) f.1 ∙ same) few n o h f
  named_by made number _ i same few n o h f = absurd h

  name_keeps : (made : Made) (number : ℕ) (i : Input) → length made.functions ≡ number → nat_lt number 65535 ≡ true
      → Keeps (IsBetween made) (λ n o. Stands (function_pending n) o × (kept_of o ≡ between made)) (Leads e) (function_name (symbol.Defined number)) Any i
  unfolding function_name
  name_keeps made number i same few n o h f = named_by made number (kind i.cursor) i same few n o h f

  -- reading goes on past a function
  pub past_function : (i : Input) (made : Made) (o : Input) → definition.says i tt o → IsBetween made i
      → (later : Made) × IsBetween later o × (Leads e o → Leads e i × Grown (module_of e) (IsFunction (module_of e)) made later × Told e made later i o)
  unfolding definition head named_head
  past_function i made o h f =
      let m = module_of e in
      let same = h.2.1 in
      let number = length h.1.functions in
      let few : nat_lt number 65535 ≡ true = ap (λ (j : Input). nat_lt (length j.functions) 65535) (sym same) ∙ h.2.0 in
      let before : IsBetween made h.1 = subst (IsBetween made) same f in
      let counted : length made.functions ≡ number = sym (ap (λ (x : Kept). length x.functions) before.1) in
      let front = h.3 in
      let s1 = front.2 in
      let s2 = s1.3 in
      let s3 = s2.3 in
      let s4 = s3.3 in
      let s5 = s4.3 in
      let s6 = s5.3 in
      let s7 = s6.3 in
      let u1 = front.3 in
      let u2 = u1.3 in
      let u3 = u2.3 in
      let opened = subst (λ (j : Input). open_body.says j u1.0 u1.1) (sym s7.3.1) u1.2 in
      let end : after_function s3.0 s2.0 s5.0 s7.0 u2.0 u3.1 ≡ o = ap (λ x. with_function x u2.0 u3.1) s7.3.0 ∙ u3.3.1 in
      let f0 = read_function s3.0 s2.0 s5.0 s7.0 u2.0 u3.1 in
      let later = with_made made f0 in
      let r = reading_of e (λ (x : Kept). x ≡ between made) no_one in
      let b1 = skip_passes r h.1 s1.0 s1.1 s1.2 before in
      let b2 = defined_result_keeps r s1.1 s2.0 s2.1 s2.2 b1.0 in
      let b3 = name_keeps made number s2.1 counted few s3.0 s3.1 s3.2 b2.0 in
      let quiet = b3.0.1 in
      let b4 = function_is (outside_of e made (function_pending s3.0)) s3.0 s2.0 s5.0 s7.0 u2.0 s3.1 s4.1 s5.1 s6.1 s7.1 u1.1 u2.1 u3.1 s4.2 s5.2 s6.2 s7.2 opened u2.2 u3.2
      (ap (λ (x : Kept). x.locals) quiet) (ap (λ (x : Kept). x.local_uses) quiet) (ap (λ (x : Kept). x.values) quiet) (ap (λ (x : Kept). x.unnamed) quiet)
      (b3.0.0, ap made_of quiet) in
      let there : IsBetween later (after_function s3.0 s2.0 s5.0 s7.0 u2.0 u3.1) =
      (function_added s3.0 s2.0 s5.0 s7.0 u2.0 u3.1 b4.0.0, between_again s3.0 s2.0 s5.0 s7.0 u2.0 u3.1 made b4.0.1) in (
        later,
        subst (IsBetween later) end there,
        λ back.
            let c5 = leads_function e s3.0 s2.0 s5.0 s7.0 u2.0 u3.1 (subst (Leads e) (sym end) back) in
            let c4 = b4.1 c5.0 c5.1 in
            let c2 = b2.1 (b3.1 c4.0).0 in
            let c1 = b1.1 c2.0 in (
              subst (Leads e) (sym same) c1.0,
              record {
                structs = grows_not (IsStructType m) made.structs;
                globals = grows_not (IsGlobal m) made.globals;
                declares = grows_not (IsDeclare m) made.declares;
                functions = grows_by (IsFunction m) made.functions f0 (c4.1 c2.1);
              },
              record {
                f = f0;
                last = refl;
                name = spelled s2.1.cursor;
                named = stays s3.1.symbols.names e.symbols.names s3.0 (spelled s2.1.cursor) c4.0.symbols (name_is number s2.1 s3.0 s3.1 s3.2);
                placed = λ seen. subst (λ (func : ℕ). (named_head func (spelled s2.1.cursor) >>= body_after).says i tt o) (sym counted) (
                  front.0,
                  front.1,
                  (tt, s1.1, (tt, h.1, (seen, same), s1.2), (s2.0, s2.1, s2.2, (tt, s2.1, ((bytes_eq-Decides (spelled s2.1.cursor) (spelled s2.1.cursor)).1 refl, refl), s3))),
                  front.3,
                );
              },
            ),
      )

  -- ---- all items

  function_goes : Goes e (IsFunction (module_of e)) definition
  function_goes i made a o h f = let x = past_function i made o h f in (x.0, x.1, λ b. let y = x.2 b in (y.0, y.1))

  passes_goes : {A : Type 0} (form : Form A) → ((made : Made) → Passes (reading_of e (λ (x : Kept). x ≡ between made) no_one) form) → Goes e (IsFunction (module_of e)) form
  passes_goes form passes i made a o h f = let x = passes made i a o h f in (made, x.0, λ b. ((x.1 b).0, grown_not (module_of e) (IsFunction (module_of e)) made))

  item_by_goes : (x : Kind) → Goes e (IsFunction (module_of e)) (item_by x)
  item_by_goes k.LocalName = struct_type_goes e (IsFunction (module_of e))
  item_by_goes k.GlobalName = global_goes e (IsFunction (module_of e))
  item_by_goes k.Declare = declaration_goes e (IsFunction (module_of e))
  item_by_goes k.Define = function_goes
  item_by_goes k.SourceFilename = passes_goes (item_by k.SourceFilename) (λ made. source_passes (reading_of e (λ (x : Kept). x ≡ between made) no_one))
  item_by_goes k.Target = passes_goes (item_by k.Target) (λ made. target_passes (reading_of e (λ (x : Kept). x ≡ between made) no_one))
  item_by_goes k.Attributes = passes_goes (item_by k.Attributes) (λ made. group_passes (reading_of e (λ (x : Kept). x ≡ between made) no_one))
  item_by_goes k.Word = passes_goes (item_by k.Word) (λ made. comdat_passes (reading_of e (λ (x : Kept). x ≡ between made) no_one))
  item_by_goes k.Exclamation = passes_goes (item_by k.Exclamation) (λ made. metadata_passes (reading_of e (λ (x : Kept). x ≡ between made) no_one))
  item_by_goes k.MetadataName = passes_goes (item_by k.MetadataName) (λ made. metadata_passes (reading_of e (λ (x : Kept). x ≡ between made) no_one))
  item_by_goes k.MetadataNumber = passes_goes (item_by k.MetadataNumber) (λ made. metadata_passes (reading_of e (λ (x : Kept). x ≡ between made) no_one))
  item_by_goes _ = λ i made a o h f. absurd h

  item_goes : Goes e (IsFunction (module_of e)) item
  unfolding item
  item_goes i made a o h f = item_by_goes (kind i.cursor) i made a o h f

  -- up to some item
  pub items_before : (xs : List (Unit {0})) (i : Input) (made : Made) (o : Input) → Before at_end_of_text item.says i xs o → IsBetween made i → (later : Made) × IsBetween later o
  items_before [] i made o h f = (made, subst (IsBetween made) h f)
  items_before (a ∷ xs) i made o h f = let x = item_goes i made a h.1 h.2 f in items_before xs h.1 x.0 o h.3 x.1

  -- and from there to the end
  pub items_after : (xs : List (Unit {0})) (i : Input) (made : Made) (o : Input) → Listed at_end_of_text item.says i xs o → IsBetween made i
      → (later : Made) × IsBetween later o × (Leads e o → Leads e i × Grown (module_of e) (IsFunction (module_of e)) made later)
  items_after [] i made o h f = (made, subst (IsBetween made) h.1 f, λ b. (subst (Leads e) (sym h.1) b, grown_not (module_of e) (IsFunction (module_of e)) made))
  items_after (a ∷ xs) i made o h f =
      let x = item_goes i made a h.1 h.2 f in
      let y = items_after xs h.1 x.0 o h.3 x.1 in
      (y.0, y.1, λ b. let c = y.2 b in let d = x.2 c.0 in (d.0, grown_further (module_of e) (IsFunction (module_of e)) made x.0 y.0 d.1 c.1))

-- ---- the beginning and the end

-- before the first item
abbrev pub nothing_made : Made
nothing_made = record { structs = []; globals = []; declares = []; functions = [] }

pub starts : (wide : Bool) (bytes : Text) (lexed : Lexed) → AreBytes bytes → IsLexed bytes lexed → IsBetween nothing_made (start_in wide bytes lexed)
starts wide bytes lexed own is = (
  record {
    bytes = own;
    spell = lexed_spell bytes lexed is;
    place = refl;
    ordered = λ n x e. absurd cc;
    once = λ one other x e h. absurd cc;
    structs = no_structs;
    symbols = no_symbols wide;
    few_globals = omega arith;
    few_declares = omega arith;
    few_functions = omega arith;
  },
  refl,
)
