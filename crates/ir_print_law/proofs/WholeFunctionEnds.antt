-- The body of a function after its head, and what is known when the function ends.
use Rattle.std.proofs.Common.{◌≡◌, ℕ, ◌<◌, ◌≤◌, Bool, false, not, List, [], ◌∷◌, ◌++◌, length, slice_get, Option, None, refl, sym, ap, subst, ◌∙◌, arith, length-append}
use Rattle.std.specs.Prelude.{find, option_map}
use Rattle.std.specs.List.{AllByRecursion, flat_map}
use Rattle.lemmas.specs.Lists.{IsIn}
use Rattle.ir_ast.specs.declared.block.Block.{Block}
use Rattle.ir_ast.specs.declared.function.Function.{Function}
use Rattle.ir_ast.specs.declared.function.LocalSort.{LocalSort}
use Rattle.ir_ast.specs.declared.function.Parameter.{Parameter}
use Rattle.ir_ast.specs.declared.module.Module.{Module}
use Rattle.ir_tokens.specs.declared.token.Kind.TheVariants as k
use Rattle.ir_tokens.specs.Bytes.{Text, class_of}
use Rattle.ir_forms.specs.Cursor.{kind}
use Rattle.ir_forms.specs.Table.{empty}
use Rattle.ir_forms.specs.declared.table.Table.{Table}
use Rattle.ir_forms.specs.declared.uses.LocalUse.{LocalUse}
use Rattle.ir_forms.specs.declared.uses.Wanted.{Wanted}
use Rattle.ir_forms.specs.declared.uses.Wanted.TheVariants as wants
use Rattle.ir_forms.specs.declared.input.Input.{Input}
use Rattle.ir_forms.specs.Input.{advanced}
use Rattle.ir_forms.specs.ManyWith.{Follows}
use Rattle.ir_forms.specs.Names.{is_wanted, first_missing}
use Rattle.ir_text.specs.Blocks.{blocks, further, at_close, after_block}
use Rattle.ir_text.specs.ItemsOfText.{open_body, open_body_by, body_after, with_function, function_of, earlier}
use Rattle.ir_print.specs.Blocks.{block_text}
use Rattle.ir_print_law.specs.Definitions.{value_keys_of, value_keys, label_keys, parameter_keys, block_keys, used_keys}
use Rattle.ir_print_law.specs.Printable.{IsBlock}
use Rattle.ir_print_law.proofs.Tables.{Begins, begins_itself, begins_further}
use Rattle.ir_print_law.specs.PartsAgain.{AreAlike}
use Rattle.ir_print_law.specs.Again.{IsBlockAgain}
use Rattle.ir_print_law.proofs.State.{Invariant, Ready, Reads, IsLater}
use Rattle.ir_print_law.proofs.Steps.{sign_reads, sign_skipped, sign_kind, looked}
use Rattle.ir_print_law.proofs.BlockLines.{HasKeys}
use Rattle.ir_print_law.proofs.BlockLists.{blocks_go}
use Rattle.ir_print_law.proofs.WholeForms.{Widens, widens_further, grows_widens}
use Rattle.ir_print_law.proofs.Known.{Far, AreNamed, LocalsKnown, IsLocalUse, known_keys, known}
use Rattle.ir_print_law.proofs.Named.{sort_by_place}
use Rattle.ir_print_law.proofs.OpNeeds.{OpsRead}
use Rattle.ir_print_law.proofs.Steady.{Steady, outside}

-- ---- a function without names, in which the lines outside of functions are read

abbrev pub nobody : Function
nobody = record { symbol = 0; returned = 0; parameters = []; collector = None; locals = []; sorts = []; blocks = [] }

pub no_key : (wanted : Wanted) (key : Text) → IsIn key (used_keys nobody wanted) → ⊥
no_key wants.Value key h = h
no_key wants.Block key h = h
no_key wants.Target key h = h

no_uses : (names : List Text) (uses : List LocalUse) → AllByRecursion (IsLocalUse nobody names) uses → uses ≡ []
no_uses names [] h = refl
no_uses names (u ∷ uses) h = absurd (no_key u.wanted h.0.0 h.0.1)

-- no use is in the way where a function begins
pub locals_enter : (f : Function) (t : Table LocalSort) (uses : List LocalUse) → LocalsKnown nobody [] [] [] [] t uses → LocalsKnown f [] [] [] [] t uses
locals_enter f t uses h = record {
  even = h.even;
  known = h.known;
  new = h.new;
  waits = tt;
  uses_so = subst (λ (u : List LocalUse). AllByRecursion (IsLocalUse f t.names) u) (sym (no_uses t.names uses h.uses_so)) tt;
}

no_known : (wanted : Wanted) (key : Text) → IsIn key (known_keys [] [] wanted) → ⊥
no_known wants.Value key h = h
no_known wants.Block key h = h
no_known wants.Target key h = h

-- nothing is known of an empty table
pub locals_empty : LocalsKnown nobody [] [] [] [] empty []
locals_empty = record {
  even = refl;
  known = λ wanted name is. absurd (no_known wanted name is);
  new = λ name none. refl;
  waits = tt;
  uses_so = tt;
}

-- ---- each use is of a name that is defined

is_right : (f : Function) (seen values labels : List Text) (t : Table LocalSort) (uses : List LocalUse) (u : LocalUse) → LocalsKnown f seen values labels [] t uses
    → ((wanted : Wanted) (key : Text) → IsIn key (used_keys f wanted) → IsIn key (known_keys values labels wanted)) → IsLocalUse f t.names u → not (is_wanted u.wanted (slice_get t.sorts u.value)) ≡ false
is_right f seen values labels t uses u h all used =
    ap (λ (s : Option LocalSort). not (is_wanted u.wanted s)) (sym (sort_by_place t used.0 u.value used.2)) ∙ ap not (h.known u.wanted used.0 (all u.wanted used.0 used.1))

pub none_found : {A : Type 0} (P : A → Type 0) (test : A → Bool) (xs : List A) → ((x : A) → P x → test x ≡ false) → AllByRecursion P xs → find test xs ≡ None
none_found P test [] f h = refl
none_found P test (x ∷ xs) f h = rw (f x h.0) (none_found P test xs f h.1)

none_missing : (f : Function) (seen values labels : List Text) (t : Table LocalSort) (uses : List LocalUse) → LocalsKnown f seen values labels [] t uses
    → ((wanted : Wanted) (key : Text) → IsIn key (used_keys f wanted) → IsIn key (known_keys values labels wanted)) → first_missing t uses ≡ None
none_missing f seen values labels t uses h all =
    ap (option_map (λ (u : LocalUse). u.start))
    (none_found (IsLocalUse f t.names) (λ (u : LocalUse). not (is_wanted u.wanted (slice_get t.sorts u.value))) uses (λ u used. is_right f seen values labels t uses u h all used) h.uses_so)

all_known : (f : Function) (values labels : List Text) → values ≡ value_keys f → labels ≡ label_keys f
    → (wanted : Wanted) (key : Text) → IsIn key (used_keys f wanted) → IsIn key (known_keys values labels wanted)
all_known f values labels v l wants.Value key is = subst (λ (x : List Text). IsIn key x) (sym v) is
all_known f values labels v l wants.Block key is = subst (λ (x : List Text). IsIn key x) (sym l) is
all_known f values labels v l wants.Target key is = subst (λ (x : List Text). IsIn key (known_keys values x wants.Target)) (sym l) is

-- types and names outside of functions come after those that were read
pub record Reaches (i o : Input) : Type 0 where
  pub types : Begins i.types o.types
  pub structs : Begins i.struct_names.names o.struct_names.names
  pub symbols : Begins i.symbols.names o.symbols.names

pub widens_reaches : (i o : Input) → Widens i o → Reaches i o
widens_reaches i o w = record { types = w.types; structs = w.structs; symbols = w.symbols }

pub reaches_further : (i m o : Input) → Reaches i m → Reaches m o → Reaches i o
reaches_further i m o a b = record {
  types = begins_further i.types m.types o.types a.types b.types;
  structs = begins_further i.struct_names.names m.struct_names.names o.struct_names.names a.structs b.structs;
  symbols = begins_further i.symbols.names m.symbols.names o.symbols.names a.symbols b.symbols;
}

-- a module whose tables begin with those that were read so far
pub record IsModuleLater (i : Input) (n : Module) : Type 0 where
  pub types : Begins i.types n.types
  pub structs : Begins i.struct_names.names n.struct_names
  pub symbols : Begins i.symbols.names n.symbols

module _ (m : Module) (f : Function) (named : AreNamed m f) (nobody_named : AreNamed m nobody) (ops : OpsRead m f named) where
  -- what is known after the function
  abbrev pub far_function : Far → Function → Far
  far_function far g = record (outside far) { defines = far.defines ++ g ∷ [] }

  -- the function is one more, and each of its names is defined
  ended_function : (h : _) (bs : List Block) (far : Far) (i : Input) (bytes : Text) → far.pending ≡ [] → far.values ≡ value_keys f → far.labels ≡ label_keys f
      → Ready (known m f named far) 0 i bytes
      → Ready (known m nobody nobody_named (far_function far (function_of h bs i))) 0 (with_function h bs i) bytes × Reaches i (with_function h bs i)
  unfolding with_function
  ended_function h bs far i bytes none values labels ready =
      let k = ready.holds in
      let r = ready.room in
      let locals = subst (λ (p : List _). LocalsKnown f far.seen far.values far.labels p i.locals i.local_uses) none k.2 in
      let missing = none_missing f far.seen far.values far.labels i.locals i.local_uses locals (all_known f far.values far.labels values labels) in
      let few = r.types in (
        record {
          stands = ready.stands;
          ordered = ready.ordered;
          forms = ready.forms;
          room = record { types = r.types; structs = r.structs; symbols = r.symbols; locals = omega (arith, few) };
          holds = (
            k.0,
            k.1,
            locals_empty,
            record {
              values_are = refl;
              unnamed_is = refl;
              none_missing = ap (λ (x : Option ℕ). earlier x (first_missing i.locals i.local_uses)) k.3.none_missing ∙ missing;
              structs_are = k.3.structs_are;
              globals_are = k.3.globals_are;
              declares_are = k.3.declares_are;
              functions_are = ap (λ (l : List Function). l ++ function_of h bs i ∷ []) k.3.functions_are;
            },
          );
        },
        record { types = begins_itself i.types; structs = begins_itself i.struct_names.names; symbols = begins_itself i.symbols.names },
      )

  -- the function that was read has this head, and the blocks again
  abbrev pub IsBodyRead : (symbol returned : ℕ) → (parameters : List Parameter) → (collector : Option Text) → (i : Input) → (g : Function) → Input → Type 0
  IsBodyRead symbol returned parameters collector i g o =
      (g.symbol ≡ symbol) × (g.returned ≡ returned) × (g.parameters ≡ parameters) × (g.collector ≡ collector) × Begins i.locals.names g.locals
      × ((n : Module) → IsModuleLater o n → AreAlike (IsBlockAgain m n f.locals g.locals) f.blocks g.blocks)

  abbrev pub BodyGoes : (symbol returned : ℕ) → (parameters : List Parameter) → (collector : Option Text) → Far → Input → (rest : Text) → Type 0
  BodyGoes symbol returned parameters collector far i rest =
      (o : Input) × (g : Function) × (body_after (record { symbol = symbol; returned = returned; parameters = parameters; collector = collector })).says i tt o × Ready (known m nobody nobody_named (far_function far g)) 0 o (10 ∷ rest) × Reaches i o × IsBodyRead symbol returned parameters collector i g o

  open_reads : (v : Invariant m f) (i : Input) (rest : Text) → Ready v 0 i (32 ∷ 123 ∷ rest) → Reads v 0 open_body i rest (λ _ o. advanced i ≡ o)
  unfolding open_body class_of
  open_reads v i rest ready =
      looked v (λ i. kind i.cursor) open_body_by i rest 0 (λ _ o. advanced i ≡ o) k.OpenBrace (sign_kind v 123 k.OpenBrace i (32 ∷ []) rest 0 refl refl refl ready)
      (sign_skipped v 123 k.OpenBrace i (32 ∷ []) rest 0 0 refl refl refl (omega arith) ready)

  pub same_outside : (far now : Far) (g : Function) → outside now ≡ outside far → far_function now g ≡ far_function far g
  same_outside far now g e = ap (λ (x : Far). record x { defines = x.defines ++ g ∷ [] }) e

  pub body_goes : (symbol returned : ℕ) (parameters : List Parameter) (collector : Option Text) (far : Far) (i : Input) (rest : Text) → AllByRecursion (IsBlock m f) f.blocks → AllByRecursion (HasKeys m f named ops) f.blocks
      → Steady far (flat_map (block_keys f.locals) f.blocks ++ []) → far.values ≡ parameter_keys f → far.labels ≡ [] → length (value_keys f) ≤ 1000000 → length f.blocks ≤ 65535 → 0 < length f.blocks
      → Ready (known m f named far) 0 i (32 ∷ 123 ∷ 10 ∷ (flat_map (block_text m f.locals) f.blocks ++ 125 ∷ 10 ∷ rest)) → BodyGoes symbol returned parameters collector far i rest
  unfolding class_of blocks
  body_goes symbol returned parameters collector far i rest are keys steady values labels room few some ready =
      let bytes = flat_map (block_text m f.locals) f.blocks ++ 125 ∷ 10 ∷ rest in
      let opened = open_reads (known m f named far) i (10 ∷ bytes) ready in
      let p = opened.1 in
      let size = length-append (parameter_keys f) (flat_map (value_keys_of f.locals) f.blocks) in
      let value_count = ap length values in
      let label_count : length far.labels ≡ 0 = ap length labels in
      let b = blocks_go m f named ops f.blocks [] far p rest are keys steady (omega (arith, room, size, value_count)) (omega (arith, few, label_count)) (omega (arith, some, label_count)) opened.3 in
      let q = b.1 in
      let now = b.2 in
      let closed = sign_reads (known m f named now) 125 k.CloseBrace q (10 ∷ []) (10 ∷ rest) 0 0 refl refl refl (omega arith) b.4 in
      let r = closed.1 in
      let on = b.6 in
      let all_values : now.values ≡ value_keys f = on.values_are ∙ ap (λ (l : List Text). l ++ flat_map (value_keys_of f.locals) f.blocks) values in
      let all_labels : now.labels ≡ label_keys f = on.labels_are ∙ ap (λ (l : List Text). l ++ label_keys f) labels in
      let g = function_of (record { symbol = symbol; returned = returned; parameters = parameters; collector = collector }) b.0 r in
      let done = ended_function (record { symbol = symbol; returned = returned; parameters = parameters; collector = collector }) b.0 now r (10 ∷ rest) on.steady.none_waits all_values all_labels closed.3 in
      let follows = subst (λ (n : ℕ). Follows at_close (λ b. (further b).says) after_block (record { count = n }) p b.0 q) label_count b.3 in
      let wide = widens_further i p r (grows_widens i p opened.4) (widens_further p q r b.5 (grows_widens q r closed.4)) in
      let end = with_function (record { symbol = symbol; returned = returned; parameters = parameters; collector = collector }) b.0 r in (
        with_function (record { symbol = symbol; returned = returned; parameters = parameters; collector = collector }) b.0 r,
        function_of (record { symbol = symbol; returned = returned; parameters = parameters; collector = collector }) b.0 r,
        (tt, p, opened.2, (b.0, q, follows, (tt, r, closed.2, (refl, refl)))),
        subst (λ (x : Far). Ready (known m nobody nobody_named x) 0 (with_function (record { symbol = symbol; returned = returned; parameters = parameters; collector = collector }) b.0 r) (10 ∷ rest)) (same_outside far now g on.same_outside) done.0,
        reaches_further i r end (widens_reaches i r wide) done.1,
        (
          refl,
          refl,
          refl,
          refl,
          wide.locals,
          λ n later. b.7 n r.locals.names (later_module q r n (grows_widens q r closed.4) (later_end (record { symbol = symbol; returned = returned; parameters = parameters; collector = collector }) b.0 r n done.1 later)),
        ),
      )
    where
      later_end : (h : _) (bs : List Block) (r : Input) (n : Module) → Reaches r (with_function h bs r) → IsModuleLater (with_function h bs r) n → IsModuleLater r n
      later_end h bs r n a b = record {
        types = begins_further r.types (with_function h bs r).types n.types a.types b.types;
        structs = begins_further r.struct_names.names (with_function h bs r).struct_names.names n.struct_names a.structs b.structs;
        symbols = begins_further r.symbols.names (with_function h bs r).symbols.names n.symbols a.symbols b.symbols;
      }

      later_module : (q r : Input) (n : Module) → Widens q r → IsModuleLater r n → IsLater q n r.locals.names
      later_module q r n a b = record {
        types = begins_further q.types r.types n.types a.types b.types;
        structs = begins_further q.struct_names.names r.struct_names.names n.struct_names a.structs b.structs;
        symbols = begins_further q.symbols.names r.symbols.names n.symbols a.symbols b.symbols;
        locals = a.locals;
      }
