-- What the names of a function mean where it ends.
use Rattle.std.proofs.Common.{◌≡◌, ℕ, zero, suc, ◌+◌, ◌<◌, true, List, [], ◌∷◌, ◌++◌, length, drop, map, slice_get, unwrap_or, Option, None, Some, sym, ap, subst, ◌∙◌, arith, append_assoc, inl, inr, ◌⊎◌}
use Rattle.std.proofs.lemmas.List.{append-nil}
use Rattle.std.proofs.lemmas.Option.{slice_get_within}
use Rattle.lemmas.specs.Lists.{IsIn}
use Rattle.ir_ast.specs.declared.block.Block.{Block}
use Rattle.ir_ast.specs.declared.function.Function.{Function}
use Rattle.ir_ast.specs.declared.function.LocalSort.{LocalSort}
use Rattle.ir_ast.specs.declared.function.Parameter.{Parameter}
use Rattle.ir_forms.specs.declared.table.Table.{Table}
use Rattle.ir_forms.specs.declared.uses.LocalUse.{LocalUse}
use Rattle.ir_forms.specs.declared.uses.Wanted.{Wanted}
use Rattle.ir_forms.specs.declared.uses.Wanted.TheVariants as wants
use Rattle.ir_forms.specs.Names.{is_wanted}
use Rattle.ir_tokens.specs.Bytes.{Text}
use Rattle.ir_print_law.specs.FunctionNames.{IsKeyOfName, IsKeyOfNumber, HasNames}
use Rattle.ir_print_law.proofs.Blocks.{with_block, with_blocks, block_labels, with_parameters}
use Rattle.ir_print_law.proofs.DefinedLocals.{used, wanted_is, in_list}
use Rattle.ir_print_law.proofs.DefinedNames.{Defines, counts_on}
use Rattle.ir_print_law.proofs.FunctionEnds.{nothing, whole_of}
use Rattle.ir_print_law.proofs.FunctionPlaces.{Places, AreFirst, key_there}
use Rattle.ir_print_law.proofs.LocalNames.{Locals, keys_at}
use Rattle.ir_print_law.proofs.Progresses.{parameters_labels}
use Rattle.ir_print_law.proofs.Reading.{Progress, with_named_value}

-- ---- keys

-- a key that is defined is that of a name or of a number
defined_key : (seen : List Text) (unnamed : ℕ) (keys : List Text) (next : ℕ) (key : Text) → next < 4294967296 → Defines seen unnamed keys next → IsIn key keys
    → IsKeyOfName key ⊎ IsKeyOfNumber key
defined_key seen unnamed [] next key less h there = absurd there
defined_key seen unnamed (x ∷ keys) next key less h (inl same) = subst (λ (k : Text). IsKeyOfName k ⊎ IsKeyOfNumber k) (sym same) (elim h.1 [
  | inl p ↦ inr (unnamed, (let on = counts_on (seen ++ x ∷ []) (unnamed + 1) keys next p.1 in omega (arith, on, less)), p.0)
  | inr p ↦ inl p.0
])
defined_key seen unnamed (x ∷ keys) next key less h (inr there) = elim h.1 [
  | inl p ↦ defined_key (seen ++ x ∷ []) (unnamed + 1) keys next key less p.1 there
  | inr p ↦ defined_key (seen ++ x ∷ []) unnamed keys next key less p.1 there
]

later : (xs : List ℕ) (n : ℕ) → IsIn n (drop 1 xs) → IsIn n xs
later [] n there = there
later (x ∷ xs) n there = inr there

-- what a name may be used as is a name
used_names : (g : Progress) (pending : Option ℕ) (t : Table LocalSort) (uses : List LocalUse) (wanted : Wanted) (n : ℕ) → Places g pending t uses → IsIn n (used g wanted)
    → IsIn n g.names
used_names g pending t uses wants.Value n h there = h.value_names n there
used_names g pending t uses wants.Block n h there = h.label_names n there
used_names g pending t uses wants.Target n h there = h.label_names n (later g.labels n there)

-- each key is defined where each use is right
all_defined : (g : Progress) (t : Table LocalSort) (uses : List LocalUse) (unnamed : ℕ) → Locals g None t unnamed → Places g None t uses
    → ((u : LocalUse) → IsIn u uses → is_wanted u.wanted (slice_get t.sorts u.value) ≡ true) → (n : ℕ) → n < length t.names → IsIn n g.names
all_defined g t uses unnamed names places right n less = elim (places.covered n less) [
  | inl named ↦ named
  | inr p ↦
      let wanted = wanted_is g t unnamed p.0.wanted p.0.value names (right p.0 p.1) in
      subst (λ x. IsIn x g.names) p.2 (used_names g None t uses p.0.wanted p.0.value places wanted)
]

-- ---- labels

pub blocks_labels : (g : Progress) (xs : List Block) → (with_blocks g xs).labels ≡ g.labels ++ map (λ block. block.label) xs
blocks_labels g [] = sym (append-nil g.labels)
blocks_labels g (x ∷ xs) =
    blocks_labels (with_block g x) xs ∙ ap (λ (l : List ℕ). l ++ map (λ block. block.label) xs) (block_labels g x)
    ∙ append_assoc g.labels (x.label ∷ []) (map (λ block. block.label) xs)

mapped : {A B : Type 0} (h : A → B) (xs : List A) (n : ℕ) (x : A) → slice_get xs n ≡ Some x → slice_get (map h xs) n ≡ Some (h x)
mapped h [] n x e = absurd cc
mapped h (y ∷ xs) zero x e = ap Some (ap h cc)
mapped h (y ∷ xs) (suc n) x e = mapped h xs n x e

parameters_are : (g : Progress) (xs : List Parameter) → (with_parameters g xs).names ≡ g.names ++ map (λ parameter. parameter.value) xs
parameters_are g [] = sym (append-nil g.names)
parameters_are g (x ∷ xs) = parameters_are (with_named_value g x.value) xs ∙ append_assoc g.names (x.value ∷ []) (map (λ parameter. parameter.value) xs)

-- ---- a function

-- parameters are the first values where they are numbered from 0 on
pub parameters_first : (ps : List Parameter) (count : ℕ) → AreFirst (with_parameters nothing ps).names count → (place : ℕ) (parameter : Parameter)
    → slice_get ps place ≡ Some parameter → parameter.value ≡ place
parameters_first ps count h place parameter e =
    h.1 place parameter.value (ap (λ (l : List ℕ). slice_get l place) (parameters_are nothing ps) ∙ mapped (λ parameter. parameter.value) ps place parameter e)

-- what a function's names mean, where nothing is missing
pub function_names : (f : Function) (uses : List LocalUse) (unnamed count : ℕ) → unnamed < 4294967296
    → Locals (whole_of f) None (record { names = f.locals; sorts = f.sorts }) unnamed
    → Places (whole_of f) None (record { names = f.locals; sorts = f.sorts }) uses → ((u : LocalUse) → IsIn u uses → is_wanted u.wanted (slice_get f.sorts u.value) ≡ true)
    → AreFirst (with_parameters nothing f.parameters).names count → HasNames f
function_names f uses unnamed count less names places right first =
    let t : Table LocalSort = record { names = f.locals; sorts = f.sorts } in
    let g = whole_of f in record {
      keys = λ number key e.
          let named = all_defined g t uses unnamed names places right number (slice_get_within f.locals number key e) in
          let there = subst (λ x. IsIn x (keys_at f.locals g.names)) (ap (λ (x : Option Text). unwrap_or x []) e) (key_there f.locals g.names number named) in
          (defined_key [] 0 (keys_at f.locals g.names) unnamed key less names.defines there, names.places number key e);
      values = λ value sort e. let within = slice_get_within f.sorts value sort e in let same = names.same in omega (arith, within, same);
      parameters = parameters_first f.parameters count first;
      labels = λ number block e.
          let labels =
          blocks_labels (with_parameters nothing f.parameters) f.blocks
          ∙ ap (λ (l : List ℕ). l ++ map (λ block. block.label) f.blocks) (parameters_labels nothing f.parameters) in
          let at : slice_get g.labels number ≡ Some block.label = ap (λ (l : List ℕ). slice_get l number) labels ∙ mapped (λ block. block.label) f.blocks number block e in
          (names.within block.label (places.label_names block.label (in_list g.labels number block.label at)), places.labels number block.label at);
    }
