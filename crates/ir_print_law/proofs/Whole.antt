-- The printed text of a printable module is a text, and what is read is that module again.
use Rattle.std.proofs.Common.{◌≡◌, ℕ, ◌+◌, ◌≤◌, not, List, [], ◌∷◌, ◌++◌, length, is_some, Option, refl, sym, ap, subst, ◌∙◌, arith, append_assoc, length-append, inl, inr}
use Rattle.std.specs.List.{flat_map}
use Rattle.lemmas.specs.All.{all_first, all_second}
use Rattle.lemmas.specs.Lists.{in_first, in_second, last_in, IsIn}
use Rattle.ir_ast.specs.declared.items_of_module.StructType.{StructType}
use Rattle.ir_ast.specs.declared.items_of_module.Global.{Global}
use Rattle.ir_ast.specs.declared.items_of_module.Declare.{Declare}
use Rattle.ir_ast.specs.declared.function.Function.{Function}
use Rattle.ir_ast.specs.declared.module.Module.{Module}
use Rattle.ir_tokens.specs.Bytes.{Text}
use Rattle.ir_tokens.specs.Tokens.{lexed_of}
use Rattle.ir_text.specs.ItemsOfText.{whole, items}
use Rattle.ir_text.specs.Read.{IsTextIn, module_in, start_in}
use Rattle.ir_print.specs.Items.{struct_line, global_line, declare_line, function_text, text_of}
use Rattle.ir_print_law.specs.Definitions.{AreNew, defined_globals, declared_functions, defined_functions, functions_of}
use Rattle.ir_print_law.specs.Printable.{IsPrintable, IsSymbol}
use Rattle.ir_print_law.proofs.Tables.{begins_itself}
use Rattle.ir_print_law.specs.PartsAgain.{AreAlike}
use Rattle.ir_print_law.specs.Again.{IsStructAgain, IsGlobalAgain, IsDeclareAgain, IsFunctionAgain, IsAgain}
use Rattle.ir_print_law.proofs.State.{Ready}
use Rattle.ir_print_law.proofs.WholeFunctionEnds.{nobody, IsModuleLater}
use Rattle.ir_print_law.proofs.GlobalLists.{globals_go}
use Rattle.ir_print_law.proofs.Known.{known}
use Rattle.ir_print_law.proofs.Starts.{nobody_named, far_start, ready_at_start}
use Rattle.ir_print_law.proofs.StructLists.{structs_go}
use Rattle.ir_print_law.proofs.SameText.{same_text}
use Rattle.ir_print_law.proofs.WholeEnds.{no_fault, text_is_lexed, ends_there, past_end}

-- a name that was seen is none of the new ones
new_seen : (seen ys : List Text) (k : Text) → AreNew seen ys → IsIn k seen → IsIn k ys → ⊥
new_seen seen [] k h is there = there
new_seen seen (y ∷ ys) k h is (inl e) = h.0 (subst (λ (x : Text). IsIn x seen) e is)
new_seen seen (y ∷ ys) k h is (inr there) = new_seen (seen ++ y ∷ []) ys k h.1 (in_first k seen (y ∷ []) is) there

new_apart : (seen xs ys : List Text) (k : Text) → AreNew seen (xs ++ ys) → IsIn k xs → IsIn k ys → ⊥
new_apart seen [] ys k h is there = is
new_apart seen (x ∷ xs) ys k h (inl e) there = new_seen (seen ++ x ∷ []) (xs ++ ys) k h.1 (subst (λ (y : Text). IsIn y (seen ++ x ∷ [])) (sym e) (last_in x seen)) (in_second k xs ys there)
new_apart seen (x ∷ xs) ys k h (inr is) there = new_apart (seen ++ x ∷ []) xs ys k h.1 is there

-- names are new after those that come before them, too
new_later : (seen xs ys : List Text) → AreNew seen (xs ++ ys) → (front : List Text) × AreNew front ys
new_later seen [] ys h = (seen, h)
new_later seen (x ∷ xs) ys h = new_later (seen ++ x ∷ []) xs ys h.1

no_more : (n most : ℕ) → n ≤ most → 0 + n ≤ most
no_more n most le = omega (arith, le)

structs_long : (m : Module) (ss : List StructType) → length ss ≤ length (flat_map (struct_line m) ss)
structs_long m [] = omega arith
structs_long m (s ∷ ss) = let a = length-append (struct_line m s) (flat_map (struct_line m) ss) in let b = structs_long m ss in omega (arith, a, b)

-- The text is read as a module that is this one again, and has the same text.
pub prints_again : (m : Module) → IsPrintable m → length (text_of m) ≤ 16777216 → (n : Module) × IsTextIn m.wide (text_of m) n × IsAgain m n × (text_of m ≡ text_of n)
unfolding whole items
prints_again m is fits =
    let bytes = text_of m in
    let structs = flat_map (struct_line m) m.structs in
    let globals = flat_map (global_line m) m.globals in
    let declares = flat_map (declare_line m) m.declares in
    let functions = flat_map (function_text m) m.functions in
    let parts = append_assoc (structs ++ globals) declares functions ∙ append_assoc structs globals (declares ++ functions) in
    let named = nobody_named m is in
    let ready = ready_at_start m named bytes fits in
    let i = start_in m.wide (text_of m) (lexed_of (text_of m)) in
    let size = ap length parts ∙ length-append structs (globals ++ (declares ++ functions)) in
    let long = structs_long m m.structs in
    let own = all_first (IsSymbol m.wide) (defined_globals m) (functions_of m) is.symbols.0 in
    let others = all_second (IsSymbol m.wide) (defined_globals m) (functions_of m) is.symbols.0 in
    let apart = new_later [] (defined_globals m) (functions_of m) is.symbols.1 in
    let h = structs_go m is (nobody_named m is) m.globals m.declares m.functions m.structs far_start (start_in m.wide (text_of m) (lexed_of (text_of m))) [] refl past_end.1 past_end.0 is.structs is.struct_names.0 is.struct_names.1
    (omega (arith, fits, size, long)) refl
    (λ names ts j gap blanks past out ready_j.
    globals_go m is (nobody_named m is) m.declares m.functions m.globals (record far_start { structs = names; struct_types = ts }) j gap blanks past past_end.0 is.globals is.declares is.functions own others is.symbols.1
    (λ name g. absurd g) refl (λ name there g. new_apart [] (defined_globals m) (functions_of m) name is.symbols.1 g there)
    (λ name there d. new_apart apart.0 (declared_functions m) (defined_functions m) name apart.1 d there) (no_more (length m.globals) 4096 is.few_globals) (no_more (length m.declares) 65535 is.few_declares) (no_more (length m.functions) 65535 is.few_functions) out ready_j)
    (subst (λ (t : Text). Ready (known m nobody (nobody_named m is) far_start) 0 (start_in m.wide (text_of m) (lexed_of (text_of m))) t) parts ready) in
    let o = h.1 in
    let now = h.2 in
    let w = h.12 in
    let end = ends_there o.cursor h.7 h.10 h.9.stands in
    let counted = h.9.holds.3 in
    let n = module_in m.wide o in
    let later : IsModuleLater o n = record { types = begins_itself o.types; structs = begins_itself o.struct_names.names; symbols = begins_itself o.symbols.names } in
    let fault = no_fault m now o h.9.holds h.9.forms w.more_structs w.more_globals w.more_functions in
    let again : IsAgain m n = record {
      structs = subst (λ (l : List StructType). AreAlike (IsStructAgain m n) m.structs l) (sym (counted.structs_are ∙ w.more_struct_types)) (h.13 n later);
      globals = subst (λ (l : List Global). AreAlike (IsGlobalAgain m n) m.globals l) (sym (counted.globals_are ∙ w.more_items)) (h.14 n later);
      declares = subst (λ (l : List Declare). AreAlike (IsDeclareAgain m n) m.declares l) (sym (counted.declares_are ∙ w.more_declares)) (h.15 n later);
      functions = subst (λ (l : List Function). AreAlike (IsFunctionAgain m n) m.functions l) (sym (counted.functions_are ∙ w.more_defines)) (h.16 n later);
    } in
    (module_in m.wide h.1, (fits, lexed_of (text_of m), text_is_lexed (text_of m), (o, (h.0, o, h.8, (ap (λ (b : Option ℕ). not (is_some b)) end.1, refl)), fault, refl)), again, same_text m n again)
