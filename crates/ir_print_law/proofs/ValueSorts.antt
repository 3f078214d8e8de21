-- The sort of a value that has a name, as it is set where its operation ends.
use Rattle.std.proofs.Common.{◌≡◌, ℕ, length, sym, subst}
use Rattle.grammar.specs.Grammar.{pure, ◌>>◌}
use Rattle.ir_ast.specs.declared.function.Function.{Function}
use Rattle.ir_ast.specs.declared.function.LocalSort.{LocalSort}
use Rattle.ir_ast.specs.declared.module.Module.{Module}
use Rattle.ir_forms.specs.declared.input.Input.{Input}
use Rattle.ir_forms.specs.Input.{Form}
use Rattle.ir_forms.specs.Names.{set_sort, with_sort, with_sort_falls}
use Rattle.ir_print_law.proofs.Forms.{Keeps, Any, stepped}
use Rattle.ir_print_law.proofs.Reading.{Naming, IsPlainSort, IsSortWithin, plain_sort}

module _ {m : Module} {f : Function} {value : ℕ} (n : Naming m f value) where
  -- what this form reads is good, and the value has a sort after it
  abbrev pub Gives : {A : Type 0} → Form A → (A → Type 0) → Type 0
  Gives form Good = (i : Input) → Keeps n.within.reading.Fore (λ _. n.After) n.within.reading.Back form Good i

  pub sort_keeps : (sort : LocalSort) (i : Input) → IsSortWithin (length i.types) sort → Keeps n.within.reading.Fore (λ _. n.After) n.within.reading.Back (set_sort value sort) Any i
  sort_keeps sort i is =
      stepped n.within.reading.Back n.within.reading.Fore (λ _. n.After) Any (λ _. tt) (with_sort value sort) (with_sort_falls value sort) i
      (λ f. (n.on_value i sort is f, λ b. (n.from_value i sort b, tt)))

  -- the end of an operation: its value has a sort, and this is the operation
  pub ends_as : {A : Type 0} (sort : LocalSort) (x : A) (i : Input) → IsSortWithin (length i.types) sort
      → Keeps n.within.reading.Fore (λ _. n.After) n.within.reading.Back (set_sort value sort >> pure x) (λ y. x ≡ y) i
  ends_as sort x i is y o h fore =
      let a = sort_keeps sort i is h.0 h.1 h.2 fore in
      (subst n.After h.3.1 a.0, λ b. ((a.1 (subst n.within.reading.Back (sym h.3.1) b)).0, h.3.0))

  pub ends : {A : Type 0} (sort : LocalSort) → IsPlainSort sort → (x : A) → Gives (set_sort value sort >> pure x) (λ y. x ≡ y)
  ends sort is x i = ends_as sort x i (plain_sort (length i.types) sort is)
