-- The names that a function defines are within its table, those of its values mean values, and those of its blocks mean them.
use Rattle.std.proofs.Common.{◌≡◌, ℕ, suc, ◌<◌, true, arith, List, [], ◌∷◌, ◌++◌, length, map, slice_get, Option, None, Some, refl, ap, ◌∙◌, inl, inr}
use Rattle.std.specs.List.{AllByRecursion}
use Rattle.std.proofs.lemmas.List.{length-map}
use Rattle.std.proofs.lemmas.Option.{slice_get_within}
use Rattle.lemmas.specs.Lists.{in_first, last_in, IsIn}
use Rattle.ir_ast.specs.Names.{place_of}
use Rattle.ir_ast.specs.declared.block.Block.{Block}
use Rattle.ir_ast.specs.declared.choices.Phi.{Phi}
use Rattle.ir_ast.specs.declared.function.Function.{Function}
use Rattle.ir_ast.specs.declared.function.LocalSort.{LocalSort}
use Rattle.ir_ast.specs.declared.function.LocalSort.TheVariants as local
use Rattle.ir_ast.specs.declared.function.Parameter.{Parameter}
use Rattle.ir_ast.specs.declared.instr.Instr.{Instr}
use Rattle.ir_forms.specs.declared.uses.LocalUse.{LocalUse}
use Rattle.ir_forms.specs.Names.{is_local}
use Rattle.ir_tokens.specs.Bytes.{Text}
use Rattle.ir_print_law.specs.FunctionNames.{HasNames}
use Rattle.ir_print_law.specs.PartsWithin.{HasLocal, IsOfValue, HasValue, HasBlock, HasResult}
use Rattle.ir_print_law.proofs.Blocks.{with_block, with_blocks, with_parameters}
use Rattle.ir_print_law.proofs.Choices.{with_phis}
use Rattle.ir_print_law.proofs.DefinedLocals.{in_list}
use Rattle.ir_print_law.proofs.FunctionEnds.{nothing, whole_of}
use Rattle.ir_print_law.proofs.FunctionNames.{blocks_labels}
use Rattle.ir_print_law.proofs.FunctionPlaces.{Places}
use Rattle.ir_print_law.proofs.Instructions.{with_result, with_results}
use Rattle.ir_print_law.proofs.LocalNames.{Locals}
use Rattle.ir_print_law.proofs.Progresses.{parameters_labels}
use Rattle.ir_print_law.proofs.Reading.{Progress, with_named_value, with_named_label}
use Rattle.ir_print_law.proofs.ValueLists.{with_values}

-- ---- lists

-- what holds of each element by its place
pub all_at : {A : Type 0} (P Q : A → Type 0) (xs : List A) → ((k : ℕ) (x : A) → slice_get xs k ≡ Some x → P x → Q x) → AllByRecursion P xs → AllByRecursion Q xs
all_at P Q [] on h = tt
all_at P Q (x ∷ xs) on h = (on 0 x refl h.0, all_at P Q xs (λ k y e p. on (suc k) y e p) h.1)

-- nothing is known of the elements
pub any_all : {A : Type 0} (xs : List A) → AllByRecursion (λ x. Unit {0}) xs
any_all [] = tt
any_all (x ∷ xs) = (tt, any_all xs)

pub both : {A : Type 0} (P Q : A → Type 0) (xs : List A) → AllByRecursion P xs → AllByRecursion Q xs → AllByRecursion (λ x. P x × Q x) xs
both P Q [] p q = tt
both P Q (x ∷ xs) p q = ((p.0, q.0), both P Q xs p.1 q.1)

-- ---- what was defined stays

values_more : {A : Type 0} (value_of : A → ℕ) (g : Progress) (xs : List A) (n : ℕ) → IsIn n g.values → IsIn n (with_values value_of g xs).values
values_more value_of g [] n h = h
values_more value_of g (x ∷ xs) n h = values_more value_of (with_named_value g (value_of x)) xs n (in_first n g.values (value_of x ∷ []) h)

result_more : (g : Progress) (r : Option ℕ) (n : ℕ) → IsIn n g.values → IsIn n (with_result g r).values
result_more g None n h = h
result_more g (Some value) n h = in_first n g.values (value ∷ []) h

results_more : (g : Progress) (xs : List Instr) (n : ℕ) → IsIn n g.values → IsIn n (with_results g xs).values
results_more g [] n h = h
results_more g (x ∷ xs) n h = results_more (with_result g x.result) xs n (result_more g x.result n h)

block_more : (g : Progress) (x : Block) (n : ℕ) → IsIn n g.values → IsIn n (with_block g x).values
block_more g x n h =
    results_more (with_phis (with_named_label g x.label) x.phis) x.body n (values_more (λ (y : Phi). y.value) (with_named_label g x.label) x.phis n h)

blocks_more : (g : Progress) (xs : List Block) (n : ℕ) → IsIn n g.values → IsIn n (with_blocks g xs).values
blocks_more g [] n h = h
blocks_more g (x ∷ xs) n h = blocks_more (with_block g x) xs n (block_more g x n h)

-- ---- what is defined in the end

module _ (f : Function) where
  -- each of these is the name of a value
  abbrev AreLocal : Progress → Type 0
  AreLocal g = (n : ℕ) → IsIn n g.values → HasValue f n

  values_local : {A : Type 0} (value_of : A → ℕ) (g : Progress) (xs : List A) → AreLocal (with_values value_of g xs) → AllByRecursion (λ x. HasValue f (value_of x)) xs
  values_local value_of g [] h = tt
  values_local value_of g (x ∷ xs) h =
      let next = with_named_value g (value_of x) in
      (h (value_of x) (values_more value_of next xs (value_of x) (last_in (value_of x) g.values)), values_local value_of next xs h)

  result_local : (g : Progress) (r : Option ℕ) → AreLocal (with_result g r) → HasResult f r
  result_local g None h = tt
  result_local g (Some value) h = h value (last_in value g.values)

  results_local : (g : Progress) (xs : List Instr) → AreLocal (with_results g xs) → AllByRecursion (λ x. HasResult f x.result) xs
  results_local g [] h = tt
  results_local g (x ∷ xs) h =
      let next = with_result g x.result in
      (result_local g x.result (λ n there. h n (results_more next xs n there)), results_local next xs h)

  -- the values of a block
  abbrev pub AreLocalValues : Block → Type 0
  AreLocalValues x = AllByRecursion (λ (y : Phi). HasValue f y.value) x.phis × AllByRecursion (λ (y : Instr). HasResult f y.result) x.body

  block_local : (g : Progress) (x : Block) → AreLocal (with_block g x) → AreLocalValues x
  block_local g x h =
      let labelled = with_named_label g x.label in
      let after_phis = with_phis labelled x.phis in
      (values_local (λ (y : Phi). y.value) labelled x.phis (λ n there. h n (results_more after_phis x.body n there)), results_local after_phis x.body h)

  blocks_local : (g : Progress) (xs : List Block) → AreLocal (with_blocks g xs) → AllByRecursion AreLocalValues xs
  blocks_local g [] h = tt
  blocks_local g (x ∷ xs) h = (block_local g x (λ n there. h n (blocks_more (with_block g x) xs n there)), blocks_local (with_block g x) xs h)

  -- What the numbers of a function's names are.
  pub record AreDefinedWithin : Type 0 where
    pub sorts : length f.sorts ≡ length f.locals
    pub places : (n : ℕ) (key : Text) → slice_get f.locals n ≡ Some key → place_of key f.locals ≡ Some n
    pub values : (n : ℕ) → IsIn n (whole_of f).values → HasValue f n
    pub within : (n : ℕ) → IsIn n (whole_of f).labels → HasLocal f n
    pub labels : (block n : ℕ) → slice_get (whole_of f).labels block ≡ Some n → (slice_get f.sorts n ≡ Some (local.Block block)) × (block < length f.blocks)
    pub parameters : AllByRecursion (λ (x : Parameter). HasValue f x.value) f.parameters
    pub block_values : AllByRecursion AreLocalValues f.blocks
    pub block_labels : AllByRecursion (λ (x : Block). HasBlock f x.label) f.blocks

  labels_here : HasNames f → AllByRecursion (λ (x : Block). HasBlock f x.label) f.blocks
  labels_here h =
      all_at (λ x. Unit {0}) (λ (x : Block). HasBlock f x.label) f.blocks
      (λ k x e u. let label = h.labels k x e in (label.0, (k, label.1, slice_get_within f.blocks k x e)))
      (any_all f.blocks)

  -- what a name of a value stands for
  value_is : (unnamed n : ℕ) (uses : List LocalUse) → Locals (whole_of f) None (record { names = f.locals; sorts = f.sorts }) unnamed
      → Places (whole_of f) None (record { names = f.locals; sorts = f.sorts }) uses → IsIn n (whole_of f).values → IsOfValue (slice_get f.sorts n)
  value_is unnamed n uses names places there = elim (names.known n (places.value_names n there)) [
    | inl known ↦ by (slice_get f.sorts n) refl known
    | inr none ↦ absurd cc
  ] where
    by : (x : Option LocalSort) → slice_get f.sorts n ≡ x → is_local x ≡ true → IsOfValue x
    by None same is = absurd cc
    by (Some local.Unknown) same is = absurd cc
    by (Some (local.Value t)) same is = tt
    by (Some (local.Slot held)) same is = tt
    by (Some (local.Element block place)) same is = tt
    by (Some (local.Block b)) same is = absurd (places.disjoint n there (in_list (whole_of f).labels b n (names.sorted n (local.Block b) same)))

  pub defined_within : (uses : List LocalUse) (unnamed : ℕ) → HasNames f → Locals (whole_of f) None (record { names = f.locals; sorts = f.sorts }) unnamed
      → Places (whole_of f) None (record { names = f.locals; sorts = f.sorts }) uses → AreDefinedWithin
  defined_within uses unnamed own names places =
      let start = with_parameters nothing f.parameters in
      let labels = blocks_labels start f.blocks ∙ ap (λ (l : List ℕ). l ++ map (λ block. block.label) f.blocks) (parameters_labels nothing f.parameters) in
      let count : length (whole_of f).labels ≡ length f.blocks = ap length labels ∙ length-map f.blocks (λ block. block.label) in
      let values : (n : ℕ) → IsIn n (whole_of f).values → HasValue f n =
      λ n there. (names.within n (places.value_names n there), value_is unnamed n uses names places there) in record {
        sorts = names.same;
        places = names.places;
        values = values;
        within = λ n there. names.within n (places.label_names n there);
        labels = λ block n e. (places.labels block n e, let less = slice_get_within (whole_of f).labels block n e in omega (arith, less, count));
        parameters = values_local (λ (x : Parameter). x.value) nothing f.parameters (λ n there. values n (blocks_more start f.blocks n there));
        block_values = blocks_local start f.blocks values;
        block_labels = labels_here own;
      }
