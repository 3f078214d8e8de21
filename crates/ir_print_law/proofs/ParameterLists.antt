-- The parameters of a defined function are read as these parameters again.
use Rattle.std.proofs.Common.{◌≡◌, ℕ, ◌+◌, ◌<◌, ◌≤◌, Bool, true, false, not, List, [], ◌∷◌, ◌++◌, length, map, refl, sym, ap, subst, ◌∙◌, arith, append_assoc, length-append, inl, inr}
use Rattle.std.specs.Prelude.{codes}
use Rattle.std.specs.List.{AllByRecursion, flat_map}
use Rattle.std.proofs.lemmas.List.{append-nil}
use Rattle.lemmas.specs.Lists.{last_in}
use Rattle.ir_print_law.proofs.ArgumentsAgain.{decorations_said}
use Rattle.grammar.specs.Grammar.{pure}
use Rattle.grammar.specs.Many.{Listed}
use Rattle.ir_ast.specs.declared.function.Function.{Function}
use Rattle.ir_ast.specs.declared.function.LocalSort.TheVariants as local
use Rattle.ir_ast.specs.declared.function.Parameter.{Parameter}
use Rattle.ir_ast.specs.declared.module.Module.{Module}
use Rattle.ir_tokens.specs.declared.token.Kind.{Kind}
use Rattle.ir_tokens.specs.declared.token.Kind.TheVariants as k
use Rattle.ir_tokens.specs.Bytes.{Text, class_of}
use Rattle.ir_forms.specs.Cursor.{kind, begins_line}
use Rattle.ir_forms.specs.declared.input.Input.{Input}
use Rattle.ir_forms.specs.declared.written.WrittenType.{WrittenType}
use Rattle.ir_forms.specs.Names as names
use Rattle.ir_forms.specs.Written.{begins_type, passed_type}
use Rattle.ir_forms.specs.declared.decorating.Spot.TheVariants as spot
use Rattle.ir_forms.specs.Decorations.{begins_decoration, either}
use Rattle.ir_forms.specs.Lists.{separator, comma, at_round}
use Rattle.ir_text.specs.Parameters.{parameter, parameter_type, parameter_type_by, parameter_name, parameter_name_by}
use Rattle.ir_print.specs.Items.{parameter_text}
use Rattle.ir_print.specs.Names.{key_text, local_text}
use Rattle.ir_print.specs.Operands.{listed}
use Rattle.ir_print_law.specs.Readings.{IsKey}
use Rattle.ir_print_law.specs.Stands.{Stands, IsSeam, AreBlanks}
use Rattle.ir_print.specs.Types.{type_text}
use Rattle.ir_print_law.proofs.Words.{seen, comma_comes, close_round_comes}
use Rattle.ir_print_law.specs.Definitions.{parameter_key}
use Rattle.ir_print_law.specs.Parts.{IsType}
use Rattle.ir_print_law.specs.Printable.{IsParameter}
use Rattle.ir_print_law.specs.Shapes.{Shape}
use Rattle.ir_print_law.proofs.Tables.{stays, begins_itself}
use Rattle.ir_print_law.specs.PartsAgain.{AreAlike}
use Rattle.ir_print_law.specs.Again.{IsParameterAgain}
use Rattle.ir_print_law.proofs.State.{Ready, IsLater}
use Rattle.ir_print_law.proofs.Shown.{shape_stays}
use Rattle.ir_print_law.proofs.Steps.{sign_reads, unlike}
use Rattle.ir_print_law.proofs.Types.{EndsType, ends_type}
use Rattle.ir_print_law.proofs.Begins.{IsLocalKind, local_kind}
use Rattle.ir_print_law.proofs.Defining.{value_set}
use Rattle.ir_print_law.proofs.WholeForms.{Widens, widens_itself, widens_further, grows_widens, Goes, Leads, later_widened}
use Rattle.ir_print_law.proofs.Known.{Far, AreNamed, known}
use Rattle.ir_print_law.proofs.Needs.{TypesRead}
use Rattle.ir_print_law.proofs.NewValues.{IsNext, unnamed_then, kind_then, value_by, value_goes}
use Rattle.ir_print_law.proofs.Steady.{Steady, Onward, onward_itself, onward_further, next_key, steady_value}

-- ---- what is between parameters

abbrev is_comma : Kind → Bool
is_comma k.Comma = true
is_comma _ = false

local_ends : (x : Kind) → IsLocalKind x → ends_type x ≡ true
local_ends x (inl e) = ap ends_type e
local_ends x (inr e) = ap ends_type e

local_undecorated : (first : Bool) (x : Kind) → IsLocalKind x → begins_decoration spot.Parameter first x ≡ false
local_undecorated first x (inl e) = ap (begins_decoration spot.Parameter first) e
local_undecorated first x (inr e) = ap (begins_decoration spot.Parameter first) e

begins_no_void : (x : Kind) (i o : Input) (w : WrittenType) → begins_type x ≡ true → passed_type.says i w o → (parameter_type_by x).says i w o
begins_no_void k.IntegerType i o w e h = h
begins_no_void k.LocalName i o w e h = h
begins_no_void k.OpenSquare i o w e h = h
begins_no_void k.OpenBrace i o w e h = h
begins_no_void k.Ptr i o w e h = h
begins_no_void k.LeftOut i o w e h = h
begins_no_void _ i o w e h = absurd cc

begins_no_round : (x : Kind) → begins_type x ≡ true → x ≡ k.CloseRound → ⊥
begins_no_round x e is = let h = sym (ap begins_type is) ∙ e in absurd cc

module _ (m : Module) (f : Function) (named : AreNamed m f) (types : TypesRead m) where
  -- the name of a parameter, by its key
  name_says : (far : Far) (key : Text) (is : IsNext far.unnamed key) (i o : Input) (n : ℕ) → kind i.cursor ≡ kind_then k.LocalNumber k.LocalName far.unnamed key is → (value_by m f named far key is).says i n o
      → parameter_name.says i n o
  unfolding parameter_name
  name_says far key (inl e) i o n is h = subst (λ (x : Kind). (parameter_name_by x).says i n o) (sym is) h
  name_says far key (inr e) i o n is h = subst (λ (x : Kind). (parameter_name_by x).says i n o) (sym is) h

  kind_is_local : (far : Far) (key : Text) (is : IsNext far.unnamed key) (x : Kind) → x ≡ kind_then k.LocalNumber k.LocalName far.unnamed key is → IsLocalKind x
  kind_is_local far key (inl e) x is = inr is
  kind_is_local far key (inr e) x is = inl is

  abbrev far_parameter : Far → (key : Text) (unnamed : ℕ) → Far
  far_parameter far key unnamed = record far { seen = far.seen ++ key ∷ []; values = far.values ++ key ∷ []; pending = []; count = far.count + 1; unnamed = unnamed }

  -- what the separator does after the parameter
  abbrev pub Separates : Far → (sep afterwards : Text) → Type 0
  Separates now sep afterwards = (o : Input) → Ready (known m f named now) 0 o sep → Goes (known m f named now) 0 (separator k.CloseRound) o afterwards (λ _ p. Unit {0})

  pub close_separates : (now : Far) (rest : Text) → Separates now (41 ∷ rest) (41 ∷ rest)
  unfolding separator class_of
  close_separates now rest o ready =
      let e = seen k.CloseRound o (close_round_comes o.cursor rest ready.stands).0 in
      (tt, o, subst (λ (b : Bool). (either (pure tt) (comma k.CloseRound) b).says o tt o) (sym e) (refl, refl), ready, widens_itself o, tt)

  -- after a comma comes a type
  pub comma_separates : (now : Far) (shape : Shape) (written : ℕ) (rest : Text) → IsType m shape written → IsSeam rest → Separates now (44 ∷ 32 ∷ (type_text m written ++ rest)) (32 ∷ (type_text m written ++ rest))
  unfolding separator class_of
  comma_separates now shape written rest is_type seam o ready =
      let c = comma_comes o.cursor (32 ∷ (type_text m written ++ rest)) ready.stands in
      let open_kind = unlike k.CloseRound is_comma o refl (ap is_comma c.0) in
      let read = sign_reads (known m f named now) 44 k.Comma o [] (32 ∷ (type_text m written ++ rest)) 0 0 refl refl refl (omega arith) ready in
      let p = read.1 in
      let begins = types.type_comes shape written p.cursor (32 ∷ []) rest is_type refl seam read.3.stands in
      let free = unlike k.CloseRound begins_type p refl begins in
      (tt, read.1, subst (λ (b : Bool). (either (pure tt) (comma k.CloseRound) b).says o tt p) (sym open_kind) (tt, p, read.2, (ap not free, refl)), read.3, grows_widens o p read.4, tt)

  -- ---- one parameter

  abbrev IsParameterRead : Far → (more : List Text) → Parameter → Parameter → Far → Input → Type 0
  IsParameterRead far more x y now o =
      Onward far now (parameter_key f.locals x ∷ []) [] more
      × ((n : Module) (others : List Text) → IsLater o n others → IsParameterAgain m n f.locals others x y)

  parameter_goes : (x : Parameter) (more : List Text) (far : Far) (i : Input) (gap sep afterwards : Text) → IsParameter m x → IsKey (parameter_key f.locals x) → Steady far (parameter_key f.locals x ∷ more)
      → length far.values < 1000000 → length far.labels ≤ 65535 → AreBlanks gap → IsSeam sep
      → ((now : Far) → Separates now sep afterwards)
      → Ready (known m f named far) 0 i (gap ++ (type_text m x.written ++ 32 ∷ 37 ∷ (key_text (parameter_key f.locals x) ++ sep)))
      → Leads m f named 0 parameter i afterwards (IsParameterRead far more x)
  unfolding parameter parameter_type class_of
  parameter_goes x more far i gap sep afterwards is_parameter is_key steady room few blanks seam separates ready =
      let key = parameter_key f.locals x in
      let shape = is_parameter.0 in
      let is_type = is_parameter.1 in
      let v = known m f named far in
      let name_bytes = 32 ∷ 37 ∷ (key_text (parameter_key f.locals x) ++ sep) in
      let ends : EndsType (32 ∷ 37 ∷ (key_text (parameter_key f.locals x) ++ sep)) = (refl, λ j at. local_ends (kind j.cursor) (local_kind j.cursor (32 ∷ []) (parameter_key f.locals x) sep is_key refl seam at)) in
      let t = types.passed (known m f named far) shape x.written i gap name_bytes 0 is_type is_parameter.2 blanks ends ready in
      let w = t.0 in
      let p = t.1 in
      let begins = types.type_comes shape x.written i.cursor gap name_bytes is_type blanks refl ready.stands in
      let type_says = begins_no_void (kind i.cursor) i p w begins t.2 in
      let next = next_key far.seen far.unnamed key more steady.defines_next in
      let is = next.1.0 in
      let counted = steady.counted in
      let unnamed = steady.few_unnamed in
      let many : far.count < 1000000 = omega (arith, room, counted) in
      let numbers : far.unnamed < 4294967295 = omega (arith, room, counted, unnamed, few) in
      let a = value_goes m f named far key next.1.0 p (32 ∷ []) sep 0 next.0 many numbers steady.none_waits refl seam t.3 in
      let plain = decorations_said spot.Parameter p (local_undecorated (begins_line p.cursor) (kind p.cursor) (kind_is_local far key is (kind p.cursor) a.0)) in
      let value = a.1.0 in
      let q = a.1.1 in
      let h = a.1.3.holds in
      let set = names.with_sort value (local.Value w.id) q in
      let now = far_parameter far key (unnamed_then far.unnamed key is) in
      let ready_set : Ready (known m f named (far_parameter far key (unnamed_then far.unnamed key is))) 0 (names.with_sort value (local.Value w.id) q) sep = record {
        stands = a.1.3.stands;
        ordered = a.1.3.ordered;
        forms = a.1.3.forms;
        room = let r = a.1.3.room in record { types = r.types; structs = r.structs; symbols = r.symbols; locals = r.locals };
        holds = (
          h.0,
          h.1,
          value_set f (far.seen ++ key ∷ []) far.values far.labels q.locals q.local_uses key value (local.Value w.id) tt (last_in key far.seen) (λ label. next.0 (steady.labels_seen key label)) h.2,
          record {
            values_are = h.3.values_are;
            unnamed_is = h.3.unnamed_is;
            none_missing = h.3.none_missing;
            structs_are = h.3.structs_are;
            globals_are = h.3.globals_are;
            declares_are = h.3.declares_are;
            functions_are = h.3.functions_are;
          },
        );
      } in
      let s = separates now set ready_set in
      let o = s.1 in
      let wide_set : Widens q set = record { types = begins_itself q.types; structs = begins_itself q.struct_names.names; symbols = begins_itself q.symbols.names; locals = begins_itself q.locals.names } in
      let wide_q = widens_further q set o wide_set s.4 in
      let wide_p = widens_further p q o a.1.4 wide_q in (
        record { written = t.0.id; value = a.1.0 },
        s.1,
        far_parameter far key (unnamed_then far.unnamed key is),
        (w, p, type_says, (tt, p, plain, (value, q, name_says far key is p q value a.0 a.1.2, (tt, set, (refl, refl), (tt, o, s.2, (refl, refl)))))),
        s.3,
        widens_further i p o (grows_widens i p t.4) wide_p,
        (
          record { values_are = refl; labels_are = sym (append-nil far.labels); steady = steady_value far key more is steady next.1.1; same_outside = refl },
          λ n others later.
              let there = stays o.locals.names others value key later.locals (stays q.locals.names o.locals.names value key wide_q.locals a.1.5) in
              let has_shape = shape_stays o.types n.types o.struct_names.names n.struct_names shape w.id later.types later.structs
              (shape_stays p.types o.types p.struct_names.names o.struct_names.names shape w.id wide_p.types wide_p.structs t.5.has_shape) in
              ((shape, is_type.0, has_shape), there),
        ),
      )

  -- ---- all parameters

  -- the parameters after the first one, and the bracket that closes
  abbrev pub afterwards_first : List Parameter → (rest : Text) → Text
  afterwards_first ps rest = flat_map (λ (p : Parameter). codes ", " ++ parameter_text m f.locals p) ps ++ 41 ∷ rest

  abbrev from_type : Parameter → (sep : Text) → Text
  from_type p sep = type_text m p.written ++ 32 ∷ 37 ∷ (key_text (parameter_key f.locals p) ++ sep)

  one_after : (p : Parameter) (sep : Text) → parameter_text m f.locals p ++ sep ≡ from_type p sep
  one_after p sep = append_assoc (type_text m p.written) (32 ∷ local_text f.locals p.value) sep

  more_after : (p : Parameter) (ps : List Parameter) (rest : Text) → afterwards_first (p ∷ ps) rest ≡ 44 ∷ 32 ∷ from_type p (afterwards_first ps rest)
  more_after p ps rest =
      append_assoc (codes ", " ++ parameter_text m f.locals p) (flat_map (λ (p : Parameter). codes ", " ++ parameter_text m f.locals p) ps) (41 ∷ rest)
      ∙ append_assoc (codes ", ") (parameter_text m f.locals p) (afterwards_first ps rest) ∙ ap (λ (t : Text). 44 ∷ 32 ∷ t) (one_after p (afterwards_first ps rest))

  seam_after : (ps : List Parameter) (rest : Text) → IsSeam (afterwards_first ps rest)
  unfolding class_of
  seam_after [] rest = refl
  seam_after (p ∷ ps) rest = refl

  abbrev pub ParametersGo : List Parameter → (more : List Text) → Far → Input → (rest : Text) → Type 0
  ParametersGo ps more far i rest =
      (ys : List Parameter) × (o : Input) × (now : Far) × Listed at_round parameter.says i ys o × Ready (known m f named now) 0 o (41 ∷ rest) × Widens i o
      × Onward far now (map (parameter_key f.locals) ps) [] more
      × ((n : Module) (others : List Text) → IsLater o n others → AreAlike (IsParameterAgain m n f.locals others) ps ys)

  at_close : (o : Input) (rest : Text) → Stands o.cursor (41 ∷ rest) → at_round o ≡ true
  at_close o rest at = seen k.CloseRound o (close_round_comes o.cursor rest at).0

  not_close : (x : Parameter) (i : Input) (gap sep : Text) → IsParameter m x → AreBlanks gap → Stands i.cursor (gap ++ from_type x sep) → at_round i ≡ false
  unfolding class_of
  not_close x i gap sep is blanks at =
      unlike k.CloseRound begins_type i refl (types.type_comes is.0 x.written i.cursor gap (32 ∷ 37 ∷ (key_text (parameter_key f.locals x) ++ sep)) is.1 blanks refl at)

  further_go : (x : Parameter) (ps : List Parameter) (more : List Text) (far : Far) (i : Input) (gap rest : Text) → AllByRecursion (IsParameter m) (x ∷ ps) → AllByRecursion IsKey (map (parameter_key f.locals) (x ∷ ps))
      → Steady far (map (parameter_key f.locals) (x ∷ ps) ++ more) → length far.values + length (x ∷ ps) ≤ 1000000 → length far.labels ≤ 65535 → AreBlanks gap
      → Ready (known m f named far) 0 i (gap ++ from_type x (afterwards_first ps rest)) → ParametersGo (x ∷ ps) more far i rest
  unfolding class_of
  further_go x [] more far i gap rest are keys steady room few blanks ready =
      let one = parameter_goes x more far i gap (41 ∷ rest) (41 ∷ rest) are.0 keys.0 steady (omega (arith, room)) few blanks refl (λ now. close_separates now rest) ready in (
        one.0 ∷ [],
        one.1,
        one.2,
        (not_close x i gap (41 ∷ rest) are.0 blanks ready.stands, one.1, one.3, (at_close one.1 rest one.4.stands, refl)),
        one.4,
        one.5,
        one.6.0,
        λ n others later. (one.6.1 n others later, tt),
      )
  further_go x (p ∷ ps) more far i gap rest are keys steady room few blanks ready =
      let afterwards = from_type p (afterwards_first ps rest) in
      let name_bytes = 32 ∷ 37 ∷ (key_text (parameter_key f.locals p) ++ afterwards_first ps rest) in
      let here = subst (λ (t : Text). Ready (known m f named far) 0 i (gap ++ from_type x t)) (more_after p ps rest) ready in
      let one = parameter_goes x (map (parameter_key f.locals) (p ∷ ps) ++ more) far i gap (44 ∷ 32 ∷ afterwards) (32 ∷ afterwards) are.0 keys.0 steady (omega (arith, room)) few blanks refl
      (λ now. comma_separates now are.1.0.0 p.written name_bytes are.1.0.1 refl) here in
      let q = one.1 in
      let mid = one.2 in
      let on = one.6.0 in
      let value_count : length one.2.values ≡ length far.values + 1 = ap length on.values_are ∙ length-append far.values (parameter_key f.locals x ∷ []) in
      let label_count : length one.2.labels ≡ length far.labels = ap length on.labels_are ∙ ap length (append-nil far.labels) in
      let next = further_go p ps more one.2 one.1 (32 ∷ []) rest are.1 keys.1 on.steady (omega (arith, room, value_count)) (omega (arith, few, label_count)) refl one.4 in (
        one.0 ∷ next.0,
        next.1,
        next.2,
        (not_close x i gap (44 ∷ 32 ∷ afterwards) are.0 blanks here.stands, q, one.3, next.3),
        next.4,
        widens_further i q next.1 one.5 next.5,
        onward_further far mid next.2 (parameter_key f.locals x ∷ []) [] (map (parameter_key f.locals) (p ∷ ps)) [] (map (parameter_key f.locals) (p ∷ ps) ++ more) more on next.6,
        λ n others later. (one.6.1 n others (later_widened q next.1 n others next.5 later), next.7 n others later),
      )

  pub parameters_go : (ps : List Parameter) (more : List Text) (far : Far) (i : Input) (rest : Text) → AllByRecursion (IsParameter m) ps → AllByRecursion IsKey (map (parameter_key f.locals) ps)
      → Steady far (map (parameter_key f.locals) ps ++ more) → length far.values + length ps ≤ 1000000 → length far.labels ≤ 65535
      → Ready (known m f named far) 0 i (listed (parameter_text m f.locals) ps ++ 41 ∷ rest) → ParametersGo ps more far i rest
  parameters_go [] more far i rest are keys steady room few ready =
      ([], i, far, (at_close i rest ready.stands, refl), ready, widens_itself i, onward_itself far more steady, λ n others later. tt)
  parameters_go (x ∷ ps) more far i rest are keys steady room few ready =
      let e = append_assoc (parameter_text m f.locals x) (flat_map (λ (p : Parameter). codes ", " ++ parameter_text m f.locals p) ps) (41 ∷ rest) ∙ one_after x (afterwards_first ps rest) in
      further_go x ps more far i [] rest are keys steady room few refl (subst (λ (t : Text). Ready (known m f named far) 0 i t) e ready)
