-- What holds of a function's own names while it is read, and what is known of them from where it ends.
use Rattle.std.proofs.Common.{◌≡◌, ℕ, ◌+◌, ◌<◌, ◌≤◌, true, List, [], ◌∷◌, ◌++◌, length, slice_get, Option, None, Some, unwrap_or, refl, ap, subst, ◌∙◌, arith, length-append}
use Rattle.lemmas.specs.Lists.{in_first, last_in, IsIn}
use Rattle.ir_ast.specs.Names.{numbered}
use Rattle.ir_ast.specs.declared.function.Function.{Function}
use Rattle.ir_ast.specs.declared.function.LocalSort.{LocalSort}
use Rattle.ir_ast.specs.declared.function.LocalSort.TheVariants as local
use Rattle.ir_ast.specs.declared.module.Module.{Module}
use Rattle.ir_forms.specs.Cursor.{start, local_key}
use Rattle.ir_forms.specs.Table.{mentioned, defined}
use Rattle.ir_forms.specs.declared.table.Table.{Table}
use Rattle.ir_forms.specs.declared.uses.LocalUse.{LocalUse}
use Rattle.ir_forms.specs.declared.uses.Wanted.{Wanted}
use Rattle.ir_forms.specs.declared.input.Input.{Input}
use Rattle.ir_forms.specs.Input.{advanced}
use Rattle.ir_forms.specs.Names.{is_wanted, local_number, with_local_use, with_sort}
use Rattle.ir_tokens.specs.Bytes.{Text}
use Rattle.ir_print_law.specs.Definitions.{used_keys}
use Rattle.ir_print_law.proofs.DefinedLocals.{value_sorted, wanted_is}
use Rattle.ir_print_law.proofs.FunctionEnds.{whole_of, function_uses}
use Rattle.ir_print_law.proofs.FunctionPlaces.{Places, use_places, sort_places}
use Rattle.ir_print_law.proofs.LocalNames.{Locals, mention_keeps}
use Rattle.ir_print_law.proofs.Outside.{Outside, with_own}
use Rattle.ir_print_law.proofs.Reading.{Progress, with_named_value, with_named_label, Kit, IsSortWithin, value_sort}
use Rattle.ir_print_law.proofs.Tables.{Begins, begins_itself, begins_further, stays, name_begins, name_there}

-- This much of the function is defined, except for the value that is pending.
pub record Holds (m : Module) (w : Outside m) (g : Progress) (pending : Option ℕ) (i : Input) : Type 0 where
  pub outside : w.reading.Fore i
  pub names : Locals g pending i.locals i.unnamed
  pub count : i.values ≡ length g.values
  pub few : length g.values ≤ 1000000
  pub numbers : i.unnamed < 4294967296
  pub places : Places g pending i.locals i.local_uses

-- Reading ends with this table, in which each use is right, and which has all that the function defines.
pub record Ends (m : Module) (w : Outside m) (f : Function) (t : Table LocalSort) (unnamed : ℕ) (i : Input) : Type 0 where
  pub outside : w.reading.Back i
  pub begins : Begins i.locals.names f.locals
  pub right : (u : LocalUse) → IsIn u i.local_uses → is_wanted u.wanted (slice_get t.sorts u.value) ≡ true
  pub names : Locals (whole_of f) None t unnamed

-- the use of the local name that is here
abbrev pub use_here : Wanted → Input → LocalUse
use_here wanted i = record { value = local_number i; wanted = wanted; start = start i.cursor }

module _ {m : Module} (w : Outside m) where
  -- ---- forwards

  pub use_holds : (g : Progress) (pending : Option ℕ) (i : Input) (wanted : Wanted) → Holds m w g pending i → Holds m w g pending (with_local_use wanted i)
  use_holds g pending i wanted h = record {
    outside = w.on_own (advanced i) (mentioned (local_key i.cursor) local.Unknown i.locals) (i.local_uses ++ use_here wanted i ∷ []) i.values i.unnamed
        (w.reading.on_token i h.outside);
    names = mention_keeps g pending i.locals i.unnamed (local_key i.cursor) h.names;
    count = h.count;
    few = h.few;
    numbers = h.numbers;
    places = use_places g pending i.locals i.local_uses (local_key i.cursor) (use_here wanted i) refl h.places;
  }

  pub sort_holds : (g : Progress) (n : ℕ) (i : Input) (sort : LocalSort) → IsSortWithin (length i.types) sort → Holds m w (with_named_value g n) (Some n) i
      → Holds m w (with_named_value g n) None (with_sort n sort i)
  sort_holds g n i sort is h = record {
    outside = w.on_own i (defined n sort i.locals) i.local_uses i.values i.unnamed h.outside;
    names = value_sorted g n i.locals i.unnamed sort (value_sort (length i.types) sort is) h.names;
    count = h.count;
    few = h.few;
    numbers = h.numbers;
    places = sort_places (with_named_value g n) n i.locals i.local_uses sort h.places;
  }

  -- one value more
  pub value_holds : (g : Progress) (n : ℕ) (i o : Input) → Holds m w g None i → w.reading.Fore o → Locals (with_named_value g n) (Some n) o.locals o.unnamed
      → o.values ≡ i.values + 1 → i.values < 1000000
      → o.unnamed < 4294967296 → Places (with_named_value g n) (Some n) o.locals o.local_uses → Holds m w (with_named_value g n) (Some n) o
  value_holds g n i o h outside names count few numbers places =
      let before = h.count in
      let longer = length-append g.values (n ∷ []) in
      record { outside = outside; names = names; count = omega (arith, before, longer, count); few = omega (arith, before, longer, few); numbers = numbers; places = places }

  -- one block more
  pub label_holds : (g : Progress) (n : ℕ) (i o : Input) → Holds m w g None i → w.reading.Fore o → Locals (with_named_label g n) None o.locals o.unnamed → o.values ≡ i.values
      → o.unnamed < 4294967296 → Places (with_named_label g n) None o.locals o.local_uses → Holds m w (with_named_label g n) None o
  label_holds g n i o h outside names count numbers places = record { outside = outside; names = names; count = count ∙ h.count; few = h.few; numbers = numbers; places = places }

  -- ---- backwards

  pub own_ends : (f : Function) (t : Table LocalSort) (unnamed : ℕ) (i : Input) (own : Table LocalSort) (uses : List LocalUse) (values next : ℕ)
      → Ends m w f t unnamed (with_own own uses values next i)
      → Begins i.locals.names own.names → ((u : LocalUse) → IsIn u i.local_uses → IsIn u uses) → Ends m w f t unnamed i
  own_ends f t unnamed i own uses values next h begins more = record {
    outside = w.from_own i own uses values next h.outside;
    begins = begins_further i.locals.names own.names f.locals begins h.begins;
    right = λ u there. h.right u (more u there);
    names = h.names;
  }

  pub token_ends : (f : Function) (t : Table LocalSort) (unnamed : ℕ) (i : Input) → Ends m w f t unnamed (advanced i) → Ends m w f t unnamed i
  token_ends f t unnamed i h = record { outside = w.reading.from_token i h.outside; begins = h.begins; right = h.right; names = h.names }

  -- a key is mentioned, and counts change
  pub mention_ends : (f : Function) (t : Table LocalSort) (unnamed : ℕ) (i : Input) (key : Text) (sorts : List LocalSort) (values next : ℕ)
      → Ends m w f t unnamed (with_own (record { names = numbered key i.locals.names; sorts = sorts }) i.local_uses values next i) → Ends m w f t unnamed i
  mention_ends f t unnamed i key sorts values next h =
      own_ends f t unnamed i (record { names = numbered key i.locals.names; sorts = sorts }) i.local_uses values next h (name_begins key i.locals.names) (λ u there. there)

  pub use_ends : (f : Function) (t : Table LocalSort) (unnamed : ℕ) (i : Input) (wanted : Wanted) → Ends m w f t unnamed (with_local_use wanted i) → Ends m w f t unnamed i
  use_ends f t unnamed i wanted h =
      let key = local_key i.cursor in
      token_ends f t unnamed i
      (own_ends f t unnamed (advanced i) (mentioned key local.Unknown i.locals) (i.local_uses ++ use_here wanted i ∷ []) i.values i.unnamed h (name_begins key i.locals.names)
      (λ u there. in_first u i.local_uses (use_here wanted i ∷ []) there))

  -- what is used is what the function defines
  pub use_is : (f : Function) (t : Table LocalSort) (unnamed : ℕ) (i : Input) (wanted : Wanted) → Ends m w f t unnamed (with_local_use wanted i)
      → IsIn (local_key i.cursor) (used_keys f wanted)
  use_is f t unnamed i wanted h =
      let key = local_key i.cursor in
      let right = h.right (use_here wanted i) (last_in (use_here wanted i) i.local_uses) in
      let defined = wanted_is (whole_of f) t unnamed wanted (local_number i) h.names right in
      let there = ap (λ (x : Option Text). unwrap_or x []) (stays (numbered key i.locals.names) f.locals (local_number i) key h.begins (name_there key i.locals.names)) in
      subst (λ x. IsIn x (used_keys f wanted)) there (function_uses f wanted (local_number i) defined)

  pub sort_ends : (f : Function) (t : Table LocalSort) (unnamed n : ℕ) (i : Input) (sort : LocalSort) → Ends m w f t unnamed (with_sort n sort i) → Ends m w f t unnamed i
  sort_ends f t unnamed n i sort h = own_ends f t unnamed i (defined n sort i.locals) i.local_uses i.values i.unnamed h (begins_itself i.locals.names) (λ u there. there)

  -- ---- what forms that define nothing preserve

  pub kit : (f : Function) (t : Table LocalSort) (unnamed : ℕ) (g : Progress) (pending : Option ℕ) → Kit m f (Holds m w g pending) (Ends m w f t unnamed)
  kit f t unnamed g pending = record {
    ordered = λ i back. w.reading.ordered i back.outside;
    bytes = λ i h back. w.reading.bytes i h.outside back.outside;
    forms = λ i h. w.reading.forms i h.outside;
    has_types = λ i h. w.reading.has_types i h.outside;
    has_structs = λ i h. w.reading.has_structs i h.outside;
    has_symbols = λ i h. w.reading.has_symbols i h.outside;
    has_locals = λ i h. h.begins;
    on_token = λ i h. record { outside = w.reading.on_token i h.outside; names = h.names; count = h.count; few = h.few; numbers = h.numbers; places = h.places };
    from_token = λ i h. token_ends f t unnamed i h;
    on_type = λ i t last h. record { outside = w.reading.on_type i t last h.outside; names = h.names; count = h.count; few = h.few; numbers = h.numbers; places = h.places };
    from_type = λ i t h. record { outside = w.reading.from_type i t h.outside; begins = h.begins; right = h.right; names = h.names };
    on_struct = λ i h. record { outside = w.reading.on_struct i h.outside; names = h.names; count = h.count; few = h.few; numbers = h.numbers; places = h.places };
    from_struct = λ i h. record { outside = w.reading.from_struct i h.outside; begins = h.begins; right = h.right; names = h.names };
    struct_is = λ i h. w.reading.struct_is i h.outside;
    on_symbol = λ i is_call h. record { outside = w.reading.on_symbol i is_call h.outside; names = h.names; count = h.count; few = h.few; numbers = h.numbers; places = h.places };
    from_symbol = λ i is_call h. record { outside = w.reading.from_symbol i is_call h.outside; begins = h.begins; right = h.right; names = h.names };
    symbol_is = λ i is_call h. w.reading.symbol_is i is_call h.outside;
    on_lost = λ i lost h. record { outside = w.reading.on_lost i lost h.outside; names = h.names; count = h.count; few = h.few; numbers = h.numbers; places = h.places };
    from_lost = λ i lost h. record { outside = w.reading.from_lost i lost h.outside; begins = h.begins; right = h.right; names = h.names };
    on_local = λ i wanted h. use_holds g pending i wanted h;
    from_local = λ i wanted h. use_ends f t unnamed i wanted h;
    local_is = λ i wanted h. use_is f t unnamed i wanted h;
  }
