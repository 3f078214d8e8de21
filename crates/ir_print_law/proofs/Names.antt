-- Names are read alike in both.
use Rattle.std.proofs.Common.{◌≡◌, ℕ, Bool, true, false, not, List, [], ◌∷◌, inl, Option, None, Some, refl, sym, ap, ap₂, ◌∙◌}
use Rattle.std.specs.Prelude.{nat_lt, ◌&&◌, ◌||◌, is_none}
use Rattle.std.specs.Fmt as text
use Rattle.grammar.specs.Grammar.{◌>>◌}
use Rattle.ir_ast.specs.Names.{place_of, number_of, numbered}
use Rattle.ir_ast.specs.RuntimeNames.{runtime_of}
use Rattle.ir_ast.specs.declared.function.LocalSort.{LocalSort}
use Rattle.ir_ast.specs.declared.function.LocalSort.TheVariants as local
use Rattle.ir_ast.specs.declared.items_of_module.SymbolSort.TheVariants as symbol
use Rattle.ir_tokens.specs.Bytes.{Text}
use Rattle.ir_tokens.specs.declared.token.Kind.{Kind}
use Rattle.ir_tokens.specs.declared.token.Kind.TheVariants as k
use Rattle.ir_forms.specs.Cursor.{start, size, spelled, local_key, left_out}
use Rattle.ir_forms.specs.Intrinsics.{is_intrinsic, is_left_out}
use Rattle.ir_forms.specs.Number.{decimal, small}
use Rattle.ir_forms.specs.declared.fault.Fault.TheVariants.{DefinedTwice, WrongNumber}
use Rattle.ir_forms.specs.declared.input.Input.{Input}
use Rattle.ir_forms.specs.declared.uses.Wanted.{Wanted}
use Rattle.ir_forms.specs.declared.uses.Wanted.TheVariants as wants
use Rattle.ir_forms.specs.Input.{limit, unexpected}
use Rattle.ir_forms.specs.Table.{mentioned, sorts_with}
use Rattle.ir_forms.specs.Names.{has_number, is_new, with_number_taken, with_number_taken_falls, take_number, is_at, is_written_next, next_number, struct_number, with_struct_use, with_struct_use_falls, struct_name, is_symbol, is_function, is_declared, is_outside, may_be_operand, symbol_number, not_left_out, is_known_symbol, with_symbol, with_symbol_falls, new_symbol, with_symbol_use, with_symbol_use_falls, used_symbol, callee, sort_of_symbol, used_global, local_number, with_local_use, with_local_use_falls, used_local, used_value, used_label_by, used_label, incoming_label, target, is_known_local, with_value, with_value_falls, has_value_room, new_value, numbered_value, key_number, with_unwritten_value, with_unwritten_value_falls, value_of_key, unnamed_value, with_sort, with_sort_falls, set_sort, with_label, with_label_falls, new_label, numbered_label, with_unwritten_label, with_unwritten_label_falls, label_of_key, unnamed_label, quoted}
use Rattle.ir_print_law.proofs.Tables.{Begins, begins_itself, name_begins, place_there}
use Rattle.ir_print_law.specs.Standing.{sort_named}
use Rattle.ir_print_law.proofs.Seats.{Seat, Beside, placeless, bare, grown_itself, next_either, spelled_same, key_same}
use Rattle.ir_print_law.proofs.Sim.{Between, Any, Equal, Both, Same, past, excused, looks, kinds, refuses}
use Rattle.ir_print_law.proofs.AnewSteps.{steps, takes, rule, seen, expect_same}
use Rattle.ir_print_law.proofs.AnewTables.{own_mention, own_define, own_use, own_value, own_number, known_same, symbols_mention, symbols_use, symbols_define, known_named, structs_use}

-- both numbers are those of one name of a struct
abbrev pub OfName : Between ℕ ℕ
OfName o p a b = (name : Text) × (place_of name o.struct_names.names ≡ Some a) × (place_of name p.struct_names.names ≡ Some b)

-- what names of structs mean stays where a name comes into the table
sorts_begin : (place : Option ℕ) (sorts : List (Option ℕ)) → Begins sorts (sorts_with place None sorts)
sorts_begin None sorts = (None ∷ [], refl)
sorts_begin (Some n) sorts = begins_itself sorts

module _ (s : Seat) where
  word : (i j : Input) → Beside s i j → spelled i.cursor ≡ spelled j.cursor
  word i j b = spelled_same s i.cursor j.cursor b.along

  key : (i j : Input) → Beside s i j → local_key i.cursor ≡ local_key j.cursor
  key i j b = key_same s i.cursor j.cursor b.along

  -- ---- numbers

  take_number_same : Same s take_number
  unfolding take_number
  take_number_same i j = past s (rule s (λ i. nat_lt i.unnamed 4294967295) limit (λ i j b. ap (λ (n : ℕ). nat_lt n 4294967295) b.own.unnamed_is) i j)
      (λ i j. steps s {V = Any} (λ _. tt) (λ _. tt) with_number_taken with_number_taken with_number_taken_falls with_number_taken_falls i j
      (λ b. (inl b.along, own_number b.own, b.symbols, b.structs, b.missing, b.functions, b.forms, grown_itself i, grown_itself j)) (λ b. tt))

  next_number_same : Same s next_number
  unfolding next_number
  next_number_same i j = past s (rule s is_written_next (λ i. WrongNumber (start i.cursor)) (λ i j b. ap₂ (λ (n : ℕ) (t : Text). is_at n (small (decimal t))) b.own.unnamed_is (word i j b)) i j) take_number_same

  -- ---- names of structs

  pub struct_name_at : Both s OfName struct_name struct_name
  unfolding struct_name
  struct_name_at i j = past s (excused s (λ i. nat_lt (struct_number i) 4294967296) (λ i. nat_lt (struct_number i) 4294967296) limit limit i j tt)
      (λ i j. steps s {V = OfName} struct_number struct_number with_struct_use with_struct_use with_struct_use_falls with_struct_use_falls i j
      (λ b. (
        next_either s i.cursor j.cursor b.along,
        b.own,
        b.symbols,
        structs_use (spelled i.cursor) (spelled j.cursor) (record { name = struct_number i; start = start i.cursor }) (record { name = struct_number j; start = start j.cursor }) (word i j b) refl refl b.structs,
        b.missing,
        b.functions,
        b.forms,
        (begins_itself i.types, name_begins (spelled i.cursor) i.struct_names.names, begins_itself i.symbols.names, sorts_begin (place_of (spelled i.cursor) i.struct_names.names) i.struct_names.sorts),
        (begins_itself j.types, name_begins (spelled j.cursor) j.struct_names.names, begins_itself j.symbols.names, sorts_begin (place_of (spelled j.cursor) j.struct_names.names) j.struct_names.sorts),
      ))
      (λ b. (
        spelled i.cursor,
        place_there (spelled i.cursor) i.struct_names.names,
        ap (λ (n : Text). place_of n (numbered (spelled j.cursor) j.struct_names.names)) (word i j b) ∙ place_there (spelled j.cursor) j.struct_names.names,
      )))

  -- ---- global names

  used_symbol_same : (is_call : Bool) → Same s (used_symbol is_call)
  unfolding used_symbol
  used_symbol_same is_call i j = past s (excused s (λ i. nat_lt (symbol_number i) 4294967296) (λ i. nat_lt (symbol_number i) 4294967296) limit limit i j tt)
      (λ i j. steps s {V = Any} symbol_number symbol_number (with_symbol_use is_call) (with_symbol_use is_call) (with_symbol_use_falls is_call) (with_symbol_use_falls is_call) i j
      (λ b. (
        next_either s i.cursor j.cursor b.along,
        b.own,
        symbols_use (spelled i.cursor) (record { symbol = symbol_number i; is_call = is_call; start = start i.cursor; length = size i.cursor })
            (record { symbol = symbol_number j; is_call = is_call; start = start j.cursor; length = size j.cursor }) refl (place_there (spelled i.cursor) i.symbols.names)
            (ap (λ (n : Text). place_of n (numbered (spelled j.cursor) j.symbols.names)) (word i j b) ∙ place_there (spelled j.cursor) j.symbols.names)
            (symbols_mention (spelled i.cursor) (spelled j.cursor) (word i j b) b.symbols),
        b.structs,
        b.missing,
        b.functions,
        b.forms,
        (begins_itself i.types, begins_itself i.struct_names.names, name_begins (spelled i.cursor) i.symbols.names, begins_itself i.struct_names.sorts),
        (begins_itself j.types, begins_itself j.struct_names.names, name_begins (spelled j.cursor) j.symbols.names, begins_itself j.struct_names.sorts),
      )) (λ b. tt))

  not_left_out_same : Same s not_left_out
  not_left_out_same = rule s (λ i. not (is_left_out i.wide (spelled i.cursor))) (λ i. left_out i.cursor) (λ i j b. rw (b.forms, word i j b) refl)

  pub callee_same : Same s callee
  unfolding callee
  callee_same i j = past s (not_left_out_same i j) (used_symbol_same true)

  -- what is here is that of something outside in both, or in neither
  pub outside_same : (i j : Input) → Beside s i j → is_outside (sort_of_symbol i) (spelled i.cursor) ≡ is_outside (sort_of_symbol j) (spelled j.cursor)
  outside_same i j b =
      ap₂ (λ (x y : Bool). x && y) ((b.symbols.alike (spelled i.cursor)).2 ∙ ap (λ (t : Text). is_declared (sort_named t j.symbols)) (word i j b))
      (ap (λ (t : Text). is_none (runtime_of t)) (word i j b))

  stands_same : (i j : Input) → Beside s i j → may_be_operand i.wide (sort_of_symbol i) (spelled i.cursor) ≡ may_be_operand j.wide (sort_of_symbol j) (spelled j.cursor)
  stands_same i j b =
      ap₂ (λ (x y : Bool). x || y) (ap not ((b.symbols.alike (spelled i.cursor)).1 ∙ ap (λ (t : Text). is_function (sort_named t j.symbols)) (word i j b)))
      (ap₂ (λ (x y : Bool). x && y) (outside_same i j b) b.forms)

  pub used_global_same : Same s used_global
  unfolding used_global
  used_global_same i j = past s (past s
      (rule s (λ i. not (is_intrinsic (spelled i.cursor))) (λ i. left_out i.cursor) (λ i j b. ap (λ (t : Text). not (is_intrinsic t)) (word i j b)) i j)
      (rule s (λ i. may_be_operand i.wide (sort_of_symbol i) (spelled i.cursor)) (λ i. left_out i.cursor) stands_same))
      (used_symbol_same false)

  -- the name of the function itself
  pub new_symbol_same : (f g : ℕ) → Both s Any (new_symbol (symbol.Defined f)) (new_symbol (symbol.Defined g))
  unfolding new_symbol
  new_symbol_same f g i j = past s (past s (past s (not_left_out_same i j)
      (λ i j. excused s (λ i. nat_lt (symbol_number i) 4294967296) (λ i. nat_lt (symbol_number i) 4294967296) limit limit i j tt))
      (rule s (λ i. not (is_known_symbol i)) (λ i. DefinedTwice (start i.cursor)) (λ i j b. ap not (
      known_named (spelled i.cursor) i.symbols b.symbols.counted ∙ (b.symbols.alike (spelled i.cursor)).0 ∙ ap (λ (t : Text). is_symbol (sort_named t j.symbols)) (word i j b)
      ∙ sym (known_named (spelled j.cursor) j.symbols b.symbols.counted_too)))))
      (λ i j. steps s {V = Any} symbol_number symbol_number (with_symbol (symbol.Defined f)) (with_symbol (symbol.Defined g)) (with_symbol_falls (symbol.Defined f)) (with_symbol_falls (symbol.Defined g)) i j
      (λ b. (
        next_either s i.cursor j.cursor b.along,
        b.own,
        symbols_define (spelled i.cursor) (spelled j.cursor) f g (word i j b) b.symbols,
        b.structs,
        b.missing,
        b.functions,
        b.forms,
        (begins_itself i.types, begins_itself i.struct_names.names, name_begins (spelled i.cursor) i.symbols.names, begins_itself i.struct_names.sorts),
        (begins_itself j.types, begins_itself j.struct_names.names, name_begins (spelled j.cursor) j.symbols.names, begins_itself j.struct_names.sorts),
      )) (λ b. tt))

  -- ---- local names

  number : (i j : Input) → Beside s i j → local_number i ≡ local_number j
  number i j b = ap₂ (λ (t : Text) (names : List Text). number_of t names) (key i j b) b.own.names

  numbered_so : Same s (has_number local_number)
  numbered_so = rule s (λ i. nat_lt (local_number i) 4294967296) limit (λ i j b. ap (λ (n : ℕ). nat_lt n 4294967296) (number i j b))

  new_so : Same s (is_new is_known_local)
  new_so = rule s (λ i. not (is_known_local i)) (λ i. DefinedTwice (start i.cursor)) (λ i j b. ap not (known_same
      (mentioned (local_key i.cursor) local.Unknown i.locals).sorts (mentioned (local_key j.cursor) local.Unknown j.locals).sorts (local_number i) (local_number j)
      (own_mention (local_key i.cursor) (local_key j.cursor) (key i j b) b.own).sorts (number i j b)))

  room_so : Same s has_value_room
  room_so = rule s (λ i. nat_lt i.values 1000000) limit (λ i j b. ap (λ (n : ℕ). nat_lt n 1000000) b.own.values_are)

  used_local_at : (wanted : Wanted) → Both s Equal (used_local wanted) (used_local wanted)
  unfolding used_local
  used_local_at wanted i j = past s (numbered_so i j)
      (λ i j. steps s {V = Equal} local_number local_number (with_local_use wanted) (with_local_use wanted) (with_local_use_falls wanted) (with_local_use_falls wanted) i j
      (λ b. (
        next_either s i.cursor j.cursor b.along,
        own_use (record { value = local_number i; wanted = wanted; start = start i.cursor }) (record { value = local_number j; wanted = wanted; start = start j.cursor })
            (ap (λ (n : ℕ). placeless (record { value = n; wanted = wanted; start = 0 })) (number i j b)) (own_mention (local_key i.cursor) (local_key j.cursor) (key i j b) b.own),
        b.symbols,
        b.structs,
        b.missing,
        b.functions,
        b.forms,
        grown_itself i,
        grown_itself j,
      )) (number i j))

  pub used_value_at : Both s Equal used_value used_value
  used_value_at = used_local_at wants.Value

  used_label_by_at : (wanted : Wanted) (x : Kind) → Both s Equal (used_label_by wanted x) (used_label_by wanted x)
  used_label_by_at wanted k.LocalName = used_local_at wanted
  used_label_by_at wanted k.LocalNumber = used_local_at wanted
  used_label_by_at wanted _ = refuses s unexpected

  used_label_at : (wanted : Wanted) → Both s Equal (used_label wanted) (used_label wanted)
  unfolding used_label
  used_label_at wanted i j = kinds s (used_label_by wanted) (used_label_by wanted) i j (λ x. used_label_by_at wanted x i j)

  pub incoming_label_at : Both s Equal incoming_label incoming_label
  incoming_label_at = used_label_at wants.Block

  pub target_at : Both s Equal target target
  unfolding target
  target_at i j = past s (expect_same s k.Label i j) (used_label_at wants.Target)

  pub new_value_at : Both s Equal new_value new_value
  unfolding new_value
  new_value_at i j = past s (past s (past s (numbered_so i j) new_so) room_so)
      (λ i j. steps s {V = Equal} local_number local_number with_value with_value with_value_falls with_value_falls i j
      (λ b. (
        next_either s i.cursor j.cursor b.along,
        own_value (own_mention (local_key i.cursor) (local_key j.cursor) (key i j b) b.own),
        b.symbols,
        b.structs,
        b.missing,
        b.functions,
        b.forms,
        grown_itself i,
        grown_itself j,
      )) (number i j))

  pub numbered_value_at : Both s Equal numbered_value numbered_value
  unfolding numbered_value
  numbered_value_at i j = past s (next_number_same i j) new_value_at

  key_number_same : (t : Text) (i j : Input) → Beside s i j → key_number t i ≡ key_number t j
  key_number_same t i j b = ap (number_of t) b.own.names

  value_of_key_at : (t : Text) → Both s Equal (value_of_key t) (value_of_key t)
  value_of_key_at t i j = past s (past s (rule s (λ i. nat_lt (key_number t i) 4294967296) limit (λ i j b. ap (λ (n : ℕ). nat_lt n 4294967296) (key_number_same t i j b)) i j) room_so)
      (λ i j. steps s {V = Equal} (key_number t) (key_number t) (with_unwritten_value t) (with_unwritten_value t) (with_unwritten_value_falls t) (with_unwritten_value_falls t) i j
      (λ b. (inl b.along, own_value (own_mention t t refl b.own), b.symbols, b.structs, b.missing, b.functions, b.forms, grown_itself i, grown_itself j)) (key_number_same t i j))

  pub unnamed_value_at : Both s Equal unnamed_value unnamed_value
  unfolding unnamed_value
  unnamed_value_at i j = looks s (λ i. text.decimal i.unnamed) (λ i. text.decimal i.unnamed) (λ t. take_number >> value_of_key t) (λ t. take_number >> value_of_key t) i j
      (λ b. ap text.decimal b.own.unnamed_is) (λ t. past s (take_number_same i j) (value_of_key_at t))

  -- what a value is, but for its type
  pub set_sort_at : (value : ℕ) (x y : LocalSort) → bare x ≡ bare y → Both s Any (set_sort value x) (set_sort value y)
  set_sort_at value x y same i j =
      steps s {V = Any} (λ _. tt) (λ _. tt) (with_sort value x) (with_sort value y) (with_sort_falls value x) (with_sort_falls value y) i j
      (λ b. (inl b.along, own_define value value x y refl same b.own, b.symbols, b.structs, b.missing, b.functions, b.forms, grown_itself i, grown_itself j)) (λ b. tt)

  -- ---- labels

  new_label_at : (block : ℕ) → Both s Equal (new_label block) (new_label block)
  unfolding new_label
  new_label_at block i j = past s (past s (numbered_so i j) new_so)
      (λ i j. steps s {V = Equal} local_number local_number (with_label block) (with_label block) (with_label_falls block) (with_label_falls block) i j
      (λ b. (
        next_either s i.cursor j.cursor b.along,
        own_define (local_number i) (local_number j) (local.Block block) (local.Block block) (number i j b) refl (own_mention (local_key i.cursor) (local_key j.cursor) (key i j b) b.own),
        b.symbols,
        b.structs,
        b.missing,
        b.functions,
        b.forms,
        grown_itself i,
        grown_itself j,
      )) (number i j))

  pub label_at : (block : ℕ) → Both s Equal (new_label block) (new_label block)
  label_at = new_label_at

  pub numbered_label_at : (block : ℕ) → Both s Equal (numbered_label block) (numbered_label block)
  unfolding numbered_label
  numbered_label_at block i j = past s (next_number_same i j) (new_label_at block)

  label_of_key_at : (block : ℕ) (t : Text) → Both s Equal (label_of_key block t) (label_of_key block t)
  label_of_key_at block t i j = past s (rule s (λ i. nat_lt (key_number t i) 4294967296) limit (λ i j b. ap (λ (n : ℕ). nat_lt n 4294967296) (key_number_same t i j b)) i j)
      (λ i j. steps s {V = Equal} (key_number t) (key_number t) (with_unwritten_label t block) (with_unwritten_label t block) (with_unwritten_label_falls t block) (with_unwritten_label_falls t block) i j
      (λ b. (inl b.along, own_define (key_number t i) (key_number t j) (local.Block block) (local.Block block) (key_number_same t i j b) refl (own_mention t t refl b.own), b.symbols, b.structs, b.missing, b.functions, b.forms, grown_itself i, grown_itself j))
      (key_number_same t i j))

  pub unnamed_label_at : (block : ℕ) → Both s Equal (unnamed_label block) (unnamed_label block)
  unfolding unnamed_label
  unnamed_label_at block i j = looks s (λ i. text.decimal i.unnamed) (λ i. text.decimal i.unnamed) (λ t. take_number >> label_of_key block t) (λ t. take_number >> label_of_key block t) i j
      (λ b. ap text.decimal b.own.unnamed_is) (λ t. past s (take_number_same i j) (label_of_key_at block t))

  -- text in quotes
  pub quoted_at : Both s Equal quoted quoted
  unfolding quoted
  quoted_at i j = past s (seen s k.Quoted i j) (λ i j. takes s {V = Equal} (λ i. spelled i.cursor) (λ i. spelled i.cursor) i j (word i j))
