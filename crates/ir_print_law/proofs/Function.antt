-- What is read of a function in a whole text is read of its own text.
use Rattle.std.proofs.Common.{◌≡◌, ℕ, ◌+◌, ◌<◌, ◌≤◌, Bool, true, false, not, List, [], ◌∷◌, ◌++◌, ◌⊎◌, inl, inr, length, map, Option, None, Some, refl, sym, ap, subst, ◌∙◌, arith, length-append, is_some, if◌then◌else◌}
use Rattle.std.proofs.lemmas.List.{length-map}
use Rattle.std.proofs.lemmas.Option.{slice_get-map}
use Rattle.std.specs.Prelude.{slice_get, find, option_map}
use Rattle.grammar.specs.Takes.{first_takes}
use Rattle.grammar.specs.Grammar.{pure, ◌>>=◌, ◌>>◌}
use Rattle.ir_ast.specs.declared.block.Block.{Block}
use Rattle.ir_ast.specs.declared.function.LocalSort.{LocalSort}
use Rattle.ir_ast.specs.declared.function.LocalSort.TheVariants as local
use Rattle.ir_ast.specs.declared.ir_type.IrType.TheVariants as type
use Rattle.ir_ast.specs.declared.items_of_module.SymbolSort.TheVariants as symbol
use Rattle.ir_tokens.specs.Bytes.{Text}
use Rattle.ir_tokens.specs.declared.token.Kind.{Kind}
use Rattle.ir_tokens.specs.declared.token.Kind.TheVariants as k
use Rattle.ir_tokens.specs.contracts.token.Kind.{the_type}
use Rattle.ir_tokens.specs.declared.token.Token.{Token}
use denote.Enum.Bare.{sameb}
use Rattle.std.specs.Str.{bytes_eq}
use Rattle.ir_forms.specs.Cursor.{kind, kind_first, here, bad_from, bad_here, sees, same_kind, start, next, rest_of}
use Rattle.ir_forms.specs.declared.decorating.Spot.TheVariants as spot
use Rattle.ir_forms.specs.declared.input.Input.{Input}
use Rattle.ir_forms.specs.declared.table.Table.{Table}
use Rattle.ir_forms.specs.declared.uses.LocalUse.{LocalUse}
use Rattle.ir_forms.specs.Decorations.{either}
use Rattle.ir_forms.specs.Input.{left, unexpected, advanced, expect, expect_takes}
use Rattle.ir_forms.specs.Names.{is_wanted, first_missing}
use Rattle.ir_text.specs.Anew.{is_named, named_head, ends, anew}
use Rattle.ir_text.specs.Blocks.{blocks}
use Rattle.ir_text.specs.ItemsOfText.{collector_name, collector, head_end, defined_result_by, defined_result, function_name_by, function_name, open_body_by, open_body, head_after, body_after, with_function, end_function, earlier}
use Rattle.ir_text.specs.declared.items_of_text.FunctionHead.{FunctionHead}
use Rattle.ir_print_law.specs.Places.{moved}
use Rattle.ir_print_law.proofs.Uses.{none_mapped}
use Rattle.ir_print_law.proofs.Seats.{Seat, End, Symbols, Structs, Beside, Grown, grown_further, bare, placeless, spelled_same, sees_same}
use Rattle.ir_print_law.proofs.Sim.{Any, Both, Same, Excused, past, both, and, gives, refuses, so, tells, by_kind}
use Rattle.ir_print_law.proofs.AnewSteps.{skip_same, expect_same, rule, seen}
use Rattle.ir_print_law.proofs.Names.{new_symbol_same, quoted_at}
use Rattle.ir_print_law.proofs.AnewTypes.{intern_at, passed_at, no_parameters_same}
use Rattle.ir_print_law.proofs.AnewDecorations.{decorations_same}
use Rattle.ir_print_law.proofs.AnewBodies.{parameters_same, blocks_same}

-- ---- names that are missing

wanted_bare : (u : LocalUse) (x : Option LocalSort) → is_wanted u.wanted (option_map bare x) ≡ is_wanted u.wanted x
wanted_bare u None = refl
wanted_bare u (Some local.Unknown) = refl
wanted_bare u (Some (local.Value t)) = refl
wanted_bare u (Some (local.Slot held)) = refl
wanted_bare u (Some (local.Element block place)) = refl
wanted_bare u (Some (local.Block b)) = refl

-- a use is wrong, wherever it is
abbrev IsWrong : List LocalSort → LocalUse → Bool
IsWrong sorts u = not (is_wanted u.wanted (slice_get sorts u.value))

wrong_bare : (sorts : List LocalSort) (u : LocalUse) → IsWrong sorts u ≡ IsWrong (map bare sorts) (placeless u)
wrong_bare sorts u = ap not (sym (ap (is_wanted u.wanted) (slice_get-map bare sorts u.value) ∙ wanted_bare u (slice_get sorts u.value)))

-- no use is wrong
abbrev NoneWrong : List LocalSort → List LocalUse → Type 0
NoneWrong sorts uses = find (IsWrong sorts) uses ≡ None

none_bare : (sorts : List LocalSort) (uses : List LocalUse) → NoneWrong sorts uses → NoneWrong (map bare sorts) (map placeless uses)
none_bare sorts [] h = refl
none_bare sorts (u ∷ uses) h = which (IsWrong sorts u) refl h (none_bare sorts uses) where
  which : (t : Bool) → IsWrong sorts u ≡ t → NoneWrong sorts (u ∷ uses) → (NoneWrong sorts uses → NoneWrong (map bare sorts) (map placeless uses)) → NoneWrong (map bare sorts) (map placeless (u ∷ uses))
  which true e found further = absurd (let some : Some u ≡ None = subst (λ (b : Bool). (if b then Some u else find (IsWrong sorts) uses) ≡ None) e found in cc)
  which false e found further =
      let less : NoneWrong sorts uses = subst (λ (b : Bool). (if b then Some u else find (IsWrong sorts) uses) ≡ None) e found in
      let same : IsWrong (map bare sorts) (placeless u) ≡ false = sym (wrong_bare sorts u) ∙ e in
      rw same (further less)

none_whole : (sorts : List LocalSort) (uses : List LocalUse) → NoneWrong (map bare sorts) (map placeless uses) → NoneWrong sorts uses
none_whole sorts [] h = refl
none_whole sorts (u ∷ uses) h = which (IsWrong sorts u) refl h (none_whole sorts uses) where
  which : (t : Bool) → IsWrong sorts u ≡ t → NoneWrong (map bare sorts) (map placeless (u ∷ uses)) → (NoneWrong (map bare sorts) (map placeless uses) → NoneWrong sorts uses) → NoneWrong sorts (u ∷ uses)
  which true e found further = absurd (let same : IsWrong (map bare sorts) (placeless u) ≡ true = sym (wrong_bare sorts u) ∙ e in let some : Some (placeless u) ≡ None = subst (λ (b : Bool). (if b then Some (placeless u) else find (IsWrong (map bare sorts)) (map placeless uses)) ≡ None) same found in cc)
  which false e found further =
      let same : IsWrong (map bare sorts) (placeless u) ≡ false = sym (wrong_bare sorts u) ∙ e in
      let less : NoneWrong (map bare sorts) (map placeless uses) = subst (λ (b : Bool). (if b then Some (placeless u) else find (IsWrong (map bare sorts)) (map placeless uses)) ≡ None) same found in
      rw e (further less)

-- no local name is missing in the second reading where none is in the first
none_missing : (a b : Table LocalSort) (uses more : List LocalUse) → map bare a.sorts ≡ map bare b.sorts → map placeless uses ≡ map placeless more → first_missing a uses ≡ None → first_missing b more ≡ None
none_missing a b uses more sorts same e =
    let found = none_bare a.sorts uses (none_mapped (λ (u : LocalUse). u.start) (find (IsWrong a.sorts) uses) e) in
    let there : NoneWrong (map bare b.sorts) (map placeless more) =
    subst (λ (l : List LocalUse). NoneWrong (map bare b.sorts) l) same (subst (λ (l : List LocalSort). NoneWrong l (map placeless uses)) sorts found) in
    ap (option_map (λ (u : LocalUse). u.start)) (none_whole b.sorts more there)

not_earlier : (x y : Option ℕ) → earlier x y ≡ None → y ≡ None
not_earlier None y e = e
not_earlier (Some n) y e = absurd cc

-- ---- the head of a function

module _ (s : Seat) where
  collector_name_same : Same s collector_name
  collector_name_same i j = and s (past s (skip_same s i j) (quoted_at s)) (λ a b. gives s (Some a) (Some b))

  collector_same : Same s collector
  unfolding collector
  collector_same = tells s (λ i. sees k.Gc i.cursor) (either collector_name (pure None)) (λ i j b. sees_same s k.Gc i.cursor j.cursor b.along) which where
    which : (t : Bool) → Same s (either collector_name (pure None) t)
    which true = collector_name_same
    which false = gives s None None

  head_end_same : Same s (head_end spot.Defined)
  unfolding head_end
  head_end_same i j =
      past s (decorations_same s spot.Defined i j) (λ i j. and s (collector_same i j) (λ a b i j. past s (decorations_same s spot.Defined i j) (gives s a b)))

  defined_result_by_same : (x : Kind) → Same s (defined_result_by x)
  defined_result_by_same k.Void i j = past s (past s (skip_same s i j) (no_parameters_same s)) (λ i j. so s (λ o p a b v. tt) (intern_at s type.Void type.Void i j))
  defined_result_by_same _ i j = and s (passed_at s i j) (λ v u. gives s v.id u.id)

  defined_result_same : Same s defined_result
  unfolding defined_result
  defined_result_same = both s (decorations_same s spot.Result) (by_kind s defined_result_by defined_result_by_same)

  function_name_by_same : (func : ℕ) (x : Kind) → Same s (function_name_by (symbol.Defined func) x)
  function_name_by_same func k.GlobalName = new_symbol_same s func func
  function_name_by_same func _ = refuses s unexpected

  function_name_same : (func : ℕ) → Same s (function_name (symbol.Defined func))
  unfolding function_name
  function_name_same func = by_kind s (function_name_by (symbol.Defined func)) (function_name_by_same func)

  head_after_at : (func a b : ℕ) → Both s Any (head_after func a) (head_after func b)
  head_after_at func a b i j =
      and s (function_name_same func i j) (λ f g i j. past s (expect_same s k.OpenRound i j) (λ i j. and s (parameters_same s i j) (λ ps qs i j.
      past s (expect_same s k.CloseRound i j) (λ i j. and s (head_end_same i j) (λ c d.
      gives s (record { symbol = f; returned = a; parameters = ps; collector = c }) (record { symbol = g; returned = b; parameters = qs; collector = d }))))))

  named_head_same : (func : ℕ) (name : Text) → Same s (named_head func name)
  unfolding named_head
  named_head_same func name i j =
      past s (past s (seen s k.Define i j) (skip_same s)) (λ i j. and s (defined_result_same i j) (λ a b i j.
      past s (rule s (is_named name) unexpected (λ i j beside. ap (λ (t : Text). bytes_eq t name) (spelled_same s i.cursor j.cursor beside.along)) i j) (head_after_at func a b)))

  open_same : Same s open_body
  unfolding open_body
  open_same = by_kind s open_body_by which where
    which : (x : Kind) → Same s (open_body_by x)
    which k.OpenBrace = skip_same s
    which _ = refuses s unexpected

  -- ---- the end of the function's text

  -- What both readings know after the function.
  pub record Ended (j o p : Input) : Type 0 where
    pub symbols : Symbols o.symbols p.symbols o.symbol_uses p.symbol_uses
    pub structs : Structs o.struct_names.names p.struct_names.names o.struct_uses p.struct_uses
    pub missing : p.missing ≡ None
    pub grown : Grown j p
    pub forms : o.wide ≡ p.wide

  -- one token is left
  one_left : (ts : List Token) → length (rest_of (map (moved s.far) ts ++ s.tail)) ≤ length s.tail → End s.code s.last ts → (t : Token) × (ts ≡ t ∷ [])
  one_left [] less h = absurd h
  one_left (t ∷ []) less h = (t, refl)
  one_left (t ∷ u ∷ ts) less h =
      let a = length-append (map (moved s.far) (u ∷ ts)) s.tail in
      let b = length-map (u ∷ ts) (moved s.far) in
      absurd (omega (arith, less, a, b))

  -- after the last token the text ends
  text_ends : (p : Input) → p.cursor.rest ≡ [] → p.cursor.bad ≡ None → ends.says p tt p
  unfolding ends sees same_kind kind bad_here
  text_ends p rest good = (
    tt,
    p,
    (ap (λ (ts : List Token). sameb the_type (kind_first (here p.cursor.wide ts)) k.End) rest, refl),
    (ap (λ (ts : List Token). not (is_some (bad_from p.cursor.wide ts p.cursor.bad))) rest ∙ ap (λ (x : Option ℕ). not (is_some x)) good, refl),
  )

  module _ (func : ℕ) (name : Text) where
    -- the function, as it stands in the whole text
    abbrev pub InPlace : Input → Input → Type 0
    InPlace i o = (named_head func name >>= body_after).says i tt o

    close_reads : (m q : Input) (h g : FunctionHead) (bs cs : List Block) (o j : Input) → Grown j q
        → (expect k.CloseBrace >> end_function h bs).says m tt o → Beside s m q → o.cursor.rest ≡ s.tail → o.missing ≡ None
        → (p : Input) × (expect k.CloseBrace >> end_function g cs).says q tt p × Ended j o p × (p.cursor.rest ≡ []) × (p.cursor.bad ≡ None)
    unfolding with_function next
    close_reads m q h g bs cs o j grown said beside over none = (
      with_function g cs (advanced q),
      (tt, advanced q, (tt, q, (sym (sees_same s k.CloseBrace m.cursor q.cursor beside.along) ∙ said.2.2.0, refl), (refl, refl)), (refl, refl)),
      record {
        symbols = subst (λ (x : Input). Symbols x.symbols q.symbols x.symbol_uses q.symbol_uses) made beside.symbols;
        structs = subst (λ (x : Input). Structs x.struct_names.names q.struct_names.names x.struct_uses q.struct_uses) made beside.structs;
        missing = ap (λ (x : Option ℕ). earlier x (first_missing q.locals q.local_uses)) beside.missing ∙ none_missing m.locals q.locals m.local_uses q.local_uses beside.own.sorts beside.own.uses_are
            (not_earlier m.missing (first_missing m.locals m.local_uses) (ap (λ (x : Input). x.missing) made ∙ none));
        grown = grown;
        forms = subst (λ (x : Input). x.wide ≡ q.wide) made beside.forms;
      },
      ap rest_of one.1,
      beside.along.good,
    ) where
      made : with_function h bs (advanced m) ≡ o
      made = ap (λ (x : Input). with_function h bs (advanced x)) said.2.2.1 ∙ ap (with_function h bs) said.2.3.1 ∙ said.3.1

      short : length (rest_of (map (moved s.far) q.cursor.rest ++ s.tail)) ≤ length s.tail
      short = let same : rest_of (map (moved s.far) q.cursor.rest ++ s.tail) ≡ s.tail = sym (ap rest_of beside.along.rest_is) ∙ ap (λ (x : Input). x.cursor.rest) made ∙ over in
          let lengths = ap (λ (l : List Token). length l) same in omega (arith, lengths)

      one : (t : Token) × (q.cursor.rest ≡ t ∷ [])
      one = one_left q.cursor.rest short beside.along.ends

    -- the brace that closes takes a token
    closes : (m : Input) (h : FunctionHead) (bs : List Block) (o : Input) → (expect k.CloseBrace >> end_function h bs).says m tt o → left o < left m
    closes m h bs o said = first_takes (expect k.CloseBrace) (λ _. end_function h bs) (expect_takes k.CloseBrace (λ x. cc)) m tt o said

    -- what the whole text says of the function its own text says too, or it is refused for an excuse
    pub reads : (i o j : Input) → InPlace i o → Beside s i j → o.cursor.rest ≡ s.tail → o.missing ≡ None
        → ((p : Input) × (anew func name).says j tt p × Ended j o p) ⊎ Excused s (anew func name) j
    unfolding anew left
    reads i o j said beside over none =
        elim ((named_head_same func name i j).on said.0 said.1 said.2 beside) [
          | inl r ↦ elim ((open_same said.1 r.1).on body.0 body.1 body.2 r.3) [
            | inl u ↦ elim ((blocks_same s body.1 u.1).on body.3.0 body.3.1 body.3.2 u.3) [
              | inl v ↦
                  let c = close_reads body.3.1 v.1 said.0 r.0 body.3.0 v.0 o j (grown_further j r.1 v.1 r.5 (grown_further r.1 u.1 v.1 u.5 v.5)) body.3.3 v.3 over none in
                  inl (c.0, (tt, c.0, (r.0, r.1, r.2, (u.0, u.1, u.2, (v.0, v.1, v.2, c.1))), text_ends c.0 c.3 c.4), c.2)
              | inr bad ↦ elim bad [
                | inl x ↦ inr (x.0, x.1, inl (inr (r.0, r.1, r.2, inr (u.0, u.1, u.2, inl x.2))))
                | inr past ↦ absurd (omega (arith, past, less, end))
              ]
            ]
            | inr bad ↦ elim bad [
              | inl x ↦ inr (x.0, x.1, inl (inr (r.0, r.1, r.2, inl x.2)))
              | inr past ↦ absurd (omega (arith, past, less, end, inner))
            ]
          ]
          | inr bad ↦ elim bad [
            | inl x ↦ inr (x.0, x.1, inl (inl x.2))
            | inr past ↦ absurd (omega (arith, past, less, end, inner, opened))
          ]
        ] where
          body : (body_after said.0).says said.1 tt o
          body = said.3

          less : left o < left body.3.1
          less = closes body.3.1 said.0 body.3.0 o body.3.3

          inner : left body.3.1 ≤ left body.1
          inner = blocks.moves body.1 body.3.0 body.3.1 body.3.2

          opened : left body.1 ≤ left said.1
          opened = open_body.moves said.1 body.0 body.1 body.2

          end : length s.tail ≡ left o
          end = sym (ap (λ (l : List Token). length l) over)
