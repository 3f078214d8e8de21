-- What it says of a name that it may be used.
use Rattle.std.proofs.Common.{◌≡◌, Bool, true, false, not, Option, None, Some, refl, ap, inl, inr, ◌⊎◌}
use Rattle.std.specs.Prelude.{◌&&◌, is_none}
use Rattle.lemmas.specs.Bools.{not_true, and_parts, and_true, or_first, or_parts}
use Rattle.lemmas.specs.Lists.{IsIn}
use Rattle.ir_ast.specs.RuntimeNames.{runtime_of}
use Rattle.ir_ast.specs.declared.items_of_module.SymbolSort.{SymbolSort}
use Rattle.ir_ast.specs.declared.items_of_module.SymbolSort.TheVariants as symbol
use Rattle.ir_ast.specs.declared.module.Module.{Module}
use Rattle.ir_tokens.specs.Bytes.{Text}
use Rattle.ir_forms.specs.Names.{is_symbol, is_function, is_declared, is_outside, may_be_operand}
use Rattle.ir_text.specs.Late.{is_right, may_use}
use Rattle.ir_print_law.proofs.Undropped.{and_last}
use Rattle.ir_print_law.specs.Definitions.{IsUsed, defined_globals, declared_functions}

-- the name is that of a function that is defined
abbrev pub is_defined : Option SymbolSort → Bool
is_defined (Some (symbol.Defined f)) = true
is_defined _ = false

-- what is something outside, where the wide forms may stand
abbrev pub IsOutside : (wide : Bool) → Option SymbolSort → (name : Text) → Type 0
IsOutside wide s name = (wide ≡ true) × (is_declared s ≡ true) × (is_none (runtime_of name) ≡ true)

-- a name that may be used is one of the right sort, or an operand that is outside
pub used_so : (wide is_call : Bool) (s : Option SymbolSort) (name : Text) → may_use wide is_call s name ≡ true → (is_right is_call s ≡ true) ⊎ ((is_call ≡ false) × IsOutside wide s name)
used_so wide is_call s name e = elim (or_parts (is_outside s name && (wide && not is_call)) (is_right is_call s) e) [
  | inl h ↦
      let a = and_parts (is_outside s name) (wide && not is_call) h in
      let b = and_parts wide (not is_call) a.1 in
      let c = and_parts (is_declared s) (is_none (runtime_of name)) a.0 in
      inr (not_true is_call b.1, (b.0, c.0, c.1))
  | inr right ↦ inl right
]

-- what is outside may be an operand
pub outside_used : (wide : Bool) (s : Option SymbolSort) (name : Text) → IsOutside wide s name → may_use wide false s name ≡ true
outside_used wide None name h = absurd (let e = h.1 in cc)
outside_used wide (Some symbol.Unknown) name h = absurd (let e = h.1 in cc)
outside_used wide (Some (symbol.Global g)) name h = refl
outside_used wide (Some (symbol.Declared d)) name h = or_first (is_none (runtime_of name) && (wide && true)) false (and_true (is_none (runtime_of name)) (wide && true) h.2 (and_true wide true h.0 refl))
outside_used wide (Some (symbol.Defined f)) name h = absurd (let e = h.1 in cc)

-- a name that may be used is that of something
pub used_known : (wide is_call : Bool) (s : Option SymbolSort) (name : Text) → may_use wide is_call s name ≡ true → (sort : SymbolSort) × (s ≡ Some sort) × (is_symbol (Some sort) ≡ true)
used_known wide is_call s name e = elim (used_so wide is_call s name e) [
  | inl right ↦ known is_call s right
  | inr h ↦ declared s h.1.1
] where
  known : (is_call : Bool) (s : Option SymbolSort) → is_right is_call s ≡ true → (sort : SymbolSort) × (s ≡ Some sort) × (is_symbol (Some sort) ≡ true)
  known is_call None e = absurd cc
  known is_call (Some symbol.Unknown) e = absurd cc
  known is_call (Some (symbol.Global g)) e = (symbol.Global g, refl, refl)
  known is_call (Some (symbol.Declared d)) e = (symbol.Declared d, refl, refl)
  known is_call (Some (symbol.Defined f)) e = (symbol.Defined f, refl, refl)

  declared : (s : Option SymbolSort) → is_declared s ≡ true → (sort : SymbolSort) × (s ≡ Some sort) × (is_symbol (Some sort) ≡ true)
  declared None e = absurd cc
  declared (Some symbol.Unknown) e = absurd cc
  declared (Some (symbol.Global g)) e = absurd cc
  declared (Some (symbol.Declared d)) e = (symbol.Declared d, refl, refl)
  declared (Some (symbol.Defined f)) e = absurd cc

-- a function that is not defined is only declared
pub declared_only : (s : Option SymbolSort) → is_right true s ≡ true → not (is_defined s) ≡ true → is_declared s ≡ true
declared_only None right other = absurd cc
declared_only (Some symbol.Unknown) right other = absurd cc
declared_only (Some (symbol.Global g)) right other = absurd cc
declared_only (Some (symbol.Declared d)) right other = refl
declared_only (Some (symbol.Defined f)) right other = absurd cc

-- what is declared somewhere, and defined nowhere, may be an operand as far as it is known
outside_stands : (wide : Bool) (s : Option SymbolSort) (name : Text) → wide ≡ true → is_none (runtime_of name) ≡ true → not (is_defined s) ≡ true → may_be_operand wide s name ≡ true
outside_stands wide None name w none other = refl
outside_stands wide (Some symbol.Unknown) name w none other = refl
outside_stands wide (Some (symbol.Global g)) name w none other = refl
outside_stands wide (Some (symbol.Declared d)) name w none other = and_true (is_none (runtime_of name)) wide none w
outside_stands wide (Some (symbol.Defined f)) name w none other = absurd cc

-- so may what is used as one
pub used_stands : (m : Module) (s : Option SymbolSort) (name : Text) → IsUsed m false name → (IsIn name (defined_globals m) → not (is_function s) ≡ true) → (IsIn name (declared_functions m) → not (is_defined s) ≡ true)
    → may_be_operand m.wide s name ≡ true
used_stands m s name (inl there) globals declared = or_first (not (is_function s)) (is_outside s name && m.wide) (globals there)
used_stands m s name (inr h) globals declared = outside_stands m.wide s name h.0 h.2 (declared h.1)

-- a name that may be used is no function that is an operand by mistake
pub right_use : (is_call right fits : Bool) → fits ≡ true → (not is_call && (right && not fits)) ≡ false
right_use is_call right fits e = and_last (not is_call) (right && not fits) (and_last right (not fits) (ap not e))

-- a name that means nothing may not be used
pub none_used : (wide is_call : Bool) (name : Text) → may_use wide is_call None name ≡ false
none_used wide is_call name = refl
