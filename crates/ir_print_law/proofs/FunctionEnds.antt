-- What is known of a function's names where it ends.
use Rattle.std.proofs.Common.{◌≡◌, ℕ, suc, List, [], ◌∷◌, ◌++◌, length, map, drop, None, refl, sym, ap, subst, ◌∙◌, inl, inr}
use Rattle.std.specs.List.{flat_map}
use Rattle.lemmas.specs.Lists.{IsIn}
use Rattle.ir_ast.specs.declared.function.Function.{Function}
use Rattle.ir_ast.specs.declared.function.LocalSort.{LocalSort}
use Rattle.ir_forms.specs.declared.table.Table.{Table}
use Rattle.ir_forms.specs.declared.uses.Wanted.{Wanted}
use Rattle.ir_forms.specs.declared.uses.Wanted.TheVariants as wants
use Rattle.ir_tokens.specs.Bytes.{Text}
use Rattle.ir_print.specs.Names.{name_at}
use Rattle.ir_print_law.specs.Definitions.{AreDefined, block_keys, value_keys_of, defined_keys, value_keys, label_keys, used_keys}
use Rattle.ir_print_law.proofs.Blocks.{with_blocks, with_parameters}
use Rattle.ir_print_law.proofs.DefinedLocals.{used}
use Rattle.ir_print_law.proofs.DefinedNames.{are_defined}
use Rattle.ir_print_law.proofs.LocalNames.{Locals, keys_at}
use Rattle.ir_print_law.proofs.Progresses.{blocks_names, blocks_values, blocks_labels, parameters_names, parameters_values, parameters_labels}
use Rattle.ir_print_law.proofs.Reading.{Progress}

-- before a function
abbrev pub nothing : Progress
nothing = record { names = []; values = []; labels = [] }

-- all that a function defines
abbrev pub whole_of : Function → Progress
whole_of f = with_blocks (with_parameters nothing f.parameters) f.blocks

names_are : (f : Function) → keys_at f.locals (whole_of f).names ≡ defined_keys f
names_are f =
    blocks_names f.locals (with_parameters nothing f.parameters) f.blocks ∙ ap (λ (l : List Text). l ++ flat_map (block_keys f.locals) f.blocks) (parameters_names f.locals nothing f.parameters)

pub values_are : (f : Function) → keys_at f.locals (whole_of f).values ≡ value_keys f
values_are f =
    blocks_values f.locals (with_parameters nothing f.parameters) f.blocks ∙ ap (λ (l : List Text). l ++ flat_map (value_keys_of f.locals) f.blocks) (parameters_values f.locals nothing f.parameters)

pub labels_are : (f : Function) → keys_at f.locals (whole_of f).labels ≡ label_keys f
labels_are f =
    blocks_labels f.locals (with_parameters nothing f.parameters) f.blocks
    ∙ ap (λ (l : List ℕ). keys_at f.locals l ++ map (λ block. name_at f.locals block.label) f.blocks) (parameters_labels nothing f.parameters)

in_keys : (names : List Text) (ns : List ℕ) (n : ℕ) → IsIn n ns → IsIn (name_at names n) (keys_at names ns)
in_keys names (x ∷ ns) n (inl e) = inl (ap (name_at names) e)
in_keys names (x ∷ ns) n (inr e) = inr (in_keys names ns n e)
in_keys names [] n e = absurd e

pub rest_keys : (names : List Text) (ns : List ℕ) → keys_at names (drop 1 ns) ≡ drop 1 (keys_at names ns)
rest_keys names [] = refl
rest_keys names (n ∷ ns) = refl

keys_length : (names : List Text) (ns : List ℕ) → length (keys_at names ns) ≡ length ns
keys_length names [] = refl
keys_length names (n ∷ ns) = ap suc (keys_length names ns)

-- each of its names is defined once, and numbers come in order
pub function_defined : (f : Function) (t : Table LocalSort) (unnamed : ℕ) → t.names ≡ f.locals → Locals (whole_of f) None t unnamed → AreDefined [] 0 (defined_keys f)
function_defined f t unnamed same h =
    let own = are_defined [] 0 (keys_at t.names (whole_of f).names) unnamed h.defines in
    subst (AreDefined [] 0) (ap (λ (l : List Text). keys_at l (whole_of f).names) same ∙ names_are f) own

pub function_values : (f : Function) → length (value_keys f) ≡ length (whole_of f).values
function_values f = sym (ap length (values_are f)) ∙ keys_length f.locals (whole_of f).values

-- a name that may be used as something has its key among those of the function
pub function_uses : (f : Function) (wanted : Wanted) (n : ℕ) → IsIn n (used (whole_of f) wanted) → IsIn (name_at f.locals n) (used_keys f wanted)
function_uses f wants.Value n h = subst (λ (l : List Text). IsIn (name_at f.locals n) l) (values_are f) (in_keys f.locals (whole_of f).values n h)
function_uses f wants.Block n h = subst (λ (l : List Text). IsIn (name_at f.locals n) l) (labels_are f) (in_keys f.locals (whole_of f).labels n h)
function_uses f wants.Target n h =
    subst (λ (l : List Text). IsIn (name_at f.locals n) l) (rest_keys f.locals (whole_of f).labels ∙ ap (drop 1) (labels_are f)) (in_keys f.locals (drop 1 (whole_of f).labels) n h)
