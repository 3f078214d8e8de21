-- What a function defined by its numbers is what it defines by its keys.
use Rattle.std.proofs.Common.{◌≡◌, ℕ, List, [], ◌∷◌, ◌++◌, map, Option, None, Some, sym, ap, ◌∙◌, append_assoc}
use Rattle.std.specs.List.{flat_map}
use Rattle.std.proofs.lemmas.List.{append-nil, map-append}
use Rattle.ir_ast.specs.declared.block.Block.{Block}
use Rattle.ir_ast.specs.declared.choices.Phi.{Phi}
use Rattle.ir_ast.specs.declared.function.Parameter.{Parameter}
use Rattle.ir_ast.specs.declared.instr.Instr.{Instr}
use Rattle.ir_tokens.specs.Bytes.{Text}
use Rattle.ir_print.specs.Names.{name_at}
use Rattle.ir_print_law.specs.Definitions.{key_of_result, result_keys, phi_key, block_keys, value_keys_of, parameter_key}
use Rattle.ir_print_law.proofs.Blocks.{with_block, with_blocks, block_labels, with_parameters}
use Rattle.ir_print_law.proofs.Choices.{with_phis}
use Rattle.ir_print_law.proofs.Instructions.{with_result, with_results}
use Rattle.ir_print_law.proofs.LocalNames.{keys_at}
use Rattle.ir_print_law.proofs.Reading.{Progress, with_named_value, with_named_label}
use Rattle.ir_print_law.proofs.ValueLists.{with_values, values_labels}

-- ---- values

one_more : (locals : List Text) (ns : List ℕ) (n : ℕ) → keys_at locals (ns ++ n ∷ []) ≡ keys_at locals ns ++ name_at locals n ∷ []
one_more locals ns n = map-append (name_at locals) ns (n ∷ [])

result_names : (locals : List Text) (g : Progress) (r : Option ℕ) → keys_at locals (with_result g r).names ≡ keys_at locals g.names ++ key_of_result locals r
result_names locals g None = sym (append-nil (keys_at locals g.names))
result_names locals g (Some n) = one_more locals g.names n

result_values : (locals : List Text) (g : Progress) (r : Option ℕ) → keys_at locals (with_result g r).values ≡ keys_at locals g.values ++ key_of_result locals r
result_values locals g None = sym (append-nil (keys_at locals g.values))
result_values locals g (Some n) = one_more locals g.values n

results_names : (locals : List Text) (g : Progress) (xs : List Instr) → keys_at locals (with_results g xs).names ≡ keys_at locals g.names ++ flat_map (result_keys locals) xs
results_names locals g [] = sym (append-nil (keys_at locals g.names))
results_names locals g (x ∷ xs) =
    results_names locals (with_result g x.result) xs ∙ ap (λ (l : List Text). l ++ flat_map (result_keys locals) xs) (result_names locals g x.result)
    ∙ append_assoc (keys_at locals g.names) (result_keys locals x) (flat_map (result_keys locals) xs)

results_values : (locals : List Text) (g : Progress) (xs : List Instr) → keys_at locals (with_results g xs).values ≡ keys_at locals g.values ++ flat_map (result_keys locals) xs
results_values locals g [] = sym (append-nil (keys_at locals g.values))
results_values locals g (x ∷ xs) =
    results_values locals (with_result g x.result) xs ∙ ap (λ (l : List Text). l ++ flat_map (result_keys locals) xs) (result_values locals g x.result)
    ∙ append_assoc (keys_at locals g.values) (result_keys locals x) (flat_map (result_keys locals) xs)

-- ---- lists of values

values_names : {A : Type 0} (value_of : A → ℕ) (locals : List Text) (g : Progress) (xs : List A)
    → keys_at locals (with_values value_of g xs).names ≡ keys_at locals g.names ++ map (λ x. name_at locals (value_of x)) xs
values_names value_of locals g [] = sym (append-nil (keys_at locals g.names))
values_names value_of locals g (x ∷ xs) =
    values_names value_of locals (with_named_value g (value_of x)) xs
    ∙ ap (λ (l : List Text). l ++ map (λ x. name_at locals (value_of x)) xs) (one_more locals g.names (value_of x))
    ∙ append_assoc (keys_at locals g.names) (name_at locals (value_of x) ∷ []) (map (λ x. name_at locals (value_of x)) xs)

values_values : {A : Type 0} (value_of : A → ℕ) (locals : List Text) (g : Progress) (xs : List A)
    → keys_at locals (with_values value_of g xs).values ≡ keys_at locals g.values ++ map (λ x. name_at locals (value_of x)) xs
values_values value_of locals g [] = sym (append-nil (keys_at locals g.values))
values_values value_of locals g (x ∷ xs) =
    values_values value_of locals (with_named_value g (value_of x)) xs
    ∙ ap (λ (l : List Text). l ++ map (λ x. name_at locals (value_of x)) xs) (one_more locals g.values (value_of x))
    ∙ append_assoc (keys_at locals g.values) (name_at locals (value_of x) ∷ []) (map (λ x. name_at locals (value_of x)) xs)

-- ---- blocks

block_names : (locals : List Text) (g : Progress) (x : Block) → keys_at locals (with_block g x).names ≡ keys_at locals g.names ++ block_keys locals x
block_names locals g x =
    let labelled = with_named_label g x.label in
    results_names locals (with_phis labelled x.phis) x.body
    ∙ ap (λ (l : List Text). l ++ flat_map (result_keys locals) x.body) (values_names (λ (y : Phi). y.value) locals labelled x.phis)
    ∙ append_assoc (keys_at locals labelled.names) (map (phi_key locals) x.phis) (flat_map (result_keys locals) x.body)
    ∙ ap (λ (l : List Text). l ++ value_keys_of locals x) (one_more locals g.names x.label)
    ∙ append_assoc (keys_at locals g.names) (name_at locals x.label ∷ []) (value_keys_of locals x)

block_values : (locals : List Text) (g : Progress) (x : Block) → keys_at locals (with_block g x).values ≡ keys_at locals g.values ++ value_keys_of locals x
block_values locals g x =
    let labelled = with_named_label g x.label in
    results_values locals (with_phis labelled x.phis) x.body
    ∙ ap (λ (l : List Text). l ++ flat_map (result_keys locals) x.body) (values_values (λ (y : Phi). y.value) locals labelled x.phis)
    ∙ append_assoc (keys_at locals g.values) (map (phi_key locals) x.phis) (flat_map (result_keys locals) x.body)

pub blocks_names : (locals : List Text) (g : Progress) (xs : List Block) → keys_at locals (with_blocks g xs).names ≡ keys_at locals g.names ++ flat_map (block_keys locals) xs
blocks_names locals g [] = sym (append-nil (keys_at locals g.names))
blocks_names locals g (x ∷ xs) =
    blocks_names locals (with_block g x) xs ∙ ap (λ (l : List Text). l ++ flat_map (block_keys locals) xs) (block_names locals g x)
    ∙ append_assoc (keys_at locals g.names) (block_keys locals x) (flat_map (block_keys locals) xs)

pub blocks_values : (locals : List Text) (g : Progress) (xs : List Block) → keys_at locals (with_blocks g xs).values ≡ keys_at locals g.values ++ flat_map (value_keys_of locals) xs
blocks_values locals g [] = sym (append-nil (keys_at locals g.values))
blocks_values locals g (x ∷ xs) =
    blocks_values locals (with_block g x) xs ∙ ap (λ (l : List Text). l ++ flat_map (value_keys_of locals) xs) (block_values locals g x)
    ∙ append_assoc (keys_at locals g.values) (value_keys_of locals x) (flat_map (value_keys_of locals) xs)

pub blocks_labels : (locals : List Text) (g : Progress) (xs : List Block) → keys_at locals (with_blocks g xs).labels ≡ keys_at locals g.labels ++ map (λ block. name_at locals block.label) xs
blocks_labels locals g [] = sym (append-nil (keys_at locals g.labels))
blocks_labels locals g (x ∷ xs) =
    blocks_labels locals (with_block g x) xs
    ∙ ap (λ (l : List Text). l ++ map (λ block. name_at locals block.label) xs) (ap (keys_at locals) (block_labels g x) ∙ one_more locals g.labels x.label)
    ∙ append_assoc (keys_at locals g.labels) (name_at locals x.label ∷ []) (map (λ block. name_at locals block.label) xs)

-- ---- parameters

pub parameters_names : (locals : List Text) (g : Progress) (xs : List Parameter) → keys_at locals (with_parameters g xs).names ≡ keys_at locals g.names ++ map (parameter_key locals) xs
parameters_names = values_names (λ (x : Parameter). x.value)

pub parameters_values : (locals : List Text) (g : Progress) (xs : List Parameter) → keys_at locals (with_parameters g xs).values ≡ keys_at locals g.values ++ map (parameter_key locals) xs
parameters_values = values_values (λ (x : Parameter). x.value)

pub parameters_labels : (g : Progress) (xs : List Parameter) → (with_parameters g xs).labels ≡ g.labels
parameters_labels = values_labels (λ (x : Parameter). x.value)
