-- The parameters of a declared function are read as these types again.
use Rattle.std.proofs.Common.{◌≡◌, ℕ, ◌+◌, ◌<◌, Bool, true, false, List, [], ◌∷◌, ◌++◌, length, refl, sym, ap, subst, ◌∙◌, arith, append_assoc, inl, inr, ◌⊎◌}
use Rattle.std.specs.Prelude.{◌||◌, codes, nat_lt}
use Rattle.std.specs.List.{AllByRecursion, flat_map}
use Rattle.std.proofs.lemmas.Bool.Decides.{nat_tests}
use Rattle.ir_print_law.proofs.ArgumentsAgain.{decorations_said}
use Rattle.grammar.specs.Many.{Listed}
use Rattle.ir_ast.specs.declared.function.Function.{Function}
use Rattle.ir_ast.specs.declared.module.Module.{Module}
use Rattle.ir_tokens.specs.declared.token.Kind.{Kind}
use Rattle.ir_tokens.specs.declared.token.Kind.TheVariants as k
use Rattle.ir_tokens.specs.Bytes.{Text, class_of}
use Rattle.ir_forms.specs.Cursor.{kind, begins_line, sees}
use Rattle.ir_forms.specs.declared.input.Input.{Input}
use Rattle.ir_forms.specs.Names.{take_number, with_number_taken}
use Rattle.ir_forms.specs.Written.{begins_type}
use Rattle.ir_forms.specs.declared.decorating.Spot.TheVariants as spot
use Rattle.ir_forms.specs.Decorations.{begins_decoration}
use Rattle.ir_forms.specs.Lists.{at_dots, ends_parameters, dots_by, dots}
use Rattle.ir_text.specs.Parameters.{declared_parameter, declared_name, declared_name_by}
use Rattle.ir_print.specs.Operands.{listed}
use Rattle.ir_print_law.specs.Stands.{Stands, IsSeam, AreBlanks}
use Rattle.ir_print.specs.Types.{type_text}
use Rattle.ir_print_law.proofs.Words.{comma_comes, close_round_comes, seen}
use Rattle.ir_print_law.specs.Printable.{IsAnyType}
use Rattle.ir_print_law.proofs.Tables.{begins_itself}
use Rattle.ir_print_law.specs.PartsAgain.{AreAlike, IsTypeAgain}
use Rattle.ir_print_law.proofs.State.{Ready, IsLater}
use Rattle.ir_print_law.proofs.Shown.{shape_stays}
use Rattle.ir_print_law.proofs.Steps.{unlike}
use Rattle.ir_print_law.proofs.Types.{EndsType, ends_type}
use Rattle.ir_print_law.proofs.WholeForms.{Widens, widens_itself, widens_further, grows_widens, Leads, later_widened}
use Rattle.ir_print_law.proofs.Known.{Far, AreNamed, known}
use Rattle.ir_print_law.proofs.Needs.{TypesRead}
use Rattle.ir_print_law.proofs.ParameterLists.{Separates, close_separates, comma_separates}
use Rattle.ir_print_law.proofs.Undropped.{and_last}

-- a comma, or the bracket that closes, after a type
abbrev IsSeparator : Kind → Type 0
IsSeparator x = (x ≡ k.Comma) ⊎ (x ≡ k.CloseRound)

abbrev SeparatorComes : Text → Type 0
SeparatorComes sep = IsSeam sep × ((i : Input) → Stands i.cursor sep → IsSeparator (kind i.cursor))

close_comes : (rest : Text) → SeparatorComes (41 ∷ rest)
unfolding class_of
close_comes rest = (refl, λ i at. inr (close_round_comes i.cursor rest at).0)

comma_next : (rest : Text) → SeparatorComes (44 ∷ rest)
unfolding class_of
comma_next rest = (refl, λ i at. inl (comma_comes i.cursor rest at).0)

separator_ends : (x : Kind) → IsSeparator x → ends_type x ≡ true
separator_ends x (inl e) = ap ends_type e
separator_ends x (inr e) = ap ends_type e

separator_plain : (first : Bool) (x : Kind) → IsSeparator x → begins_decoration spot.Parameter first x ≡ false
separator_plain first x (inl e) = ap (begins_decoration spot.Parameter first) e
separator_plain first x (inr e) = ap (begins_decoration spot.Parameter first) e

number_taken : (x : Kind) (i o : Input) → IsSeparator x → take_number.says i tt o → (declared_name_by x).says i tt o
number_taken x i o (inl e) h = subst (λ (y : Kind). (declared_name_by y).says i tt o) (sym e) h
number_taken x i o (inr e) h = subst (λ (y : Kind). (declared_name_by y).says i tt o) (sym e) h

one_number : (i : Input) → i.unnamed < 4294967295 → take_number.says i tt (with_number_taken i)
unfolding take_number
one_number i less = let further : nat_lt i.unnamed 4294967295 ≡ true = grind (arith, nat_tests) in (tt, i, (further, refl), (refl, refl))

no_dots : (i : Input) → sees k.Dots i.cursor ≡ false → at_dots i ≡ false
unfolding at_dots
no_dots i e = and_last i.wide (sees k.Dots i.cursor) e

is_close : Kind → Bool
is_close k.CloseRound = true
is_close _ = false

-- no dots stand before the bracket that closes
pub dots_said : (o : Input) (rest : Text) → Stands o.cursor (41 ∷ rest) → dots.says o false o
unfolding dots is_close
dots_said o rest at =
    subst (λ (b : Bool). (dots_by b).says o false o) (sym (no_dots o (unlike k.Dots is_close o refl (ap is_close (close_round_comes o.cursor rest at).0)))) (refl, refl)

module _ (m : Module) (f : Function) (named : AreNamed m f) (types : TypesRead m) where
  abbrev pub far_numbered : Far → ℕ → Far
  far_numbered far unnamed = record far { unnamed = unnamed }

  abbrev IsDeclaredRead : Far → ℕ → ℕ → Far → Input → Type 0
  IsDeclaredRead far x y now o = (now ≡ far_numbered far (far.unnamed + 1)) × ((n : Module) (others : List Text) → IsLater o n others → IsTypeAgain m n x y)

  declared_goes : (x : ℕ) (far : Far) (i : Input) (gap sep afterwards : Text) → IsAnyType m x → far.unnamed < 4294967295 → AreBlanks gap → SeparatorComes sep
      → ((now : Far) → Separates m f named types now sep afterwards) → Ready (known m f named far) 0 i (gap ++ (type_text m x ++ sep))
      → Leads m f named 0 declared_parameter i afterwards (IsDeclaredRead far x)
  unfolding declared_parameter declared_name
  declared_goes x far i gap sep afterwards is_any few blanks comes separates ready =
      let shape = is_any.0 in
      let is_type = is_any.1 in
      let ends : EndsType sep = (comes.0, λ j at. separator_ends (kind j.cursor) (comes.1 j at)) in
      let t = types.any (known m f named far) shape x i gap sep 0 is_type refl blanks ends ready in
      let w = t.0 in
      let p = t.1 in
      let is = comes.1 p t.3.stands in
      let plain = decorations_said spot.Parameter p (separator_plain (begins_line p.cursor) (kind p.cursor) is) in
      let h = t.3.holds in
      let less : p.unnamed < 4294967295 = subst (λ (n : ℕ). n < 4294967295) (sym h.3.unnamed_is) few in
      let q = with_number_taken p in
      let ready_q : Ready (known m f named (far_numbered far (far.unnamed + 1))) 0 (with_number_taken p) sep = record {
        stands = t.3.stands;
        ordered = t.3.ordered;
        forms = t.3.forms;
        room = let r = t.3.room in record { types = r.types; structs = r.structs; symbols = r.symbols; locals = r.locals };
        holds = (
          h.0,
          h.1,
          h.2,
          record {
            values_are = h.3.values_are;
            unnamed_is = ap (λ (n : ℕ). n + 1) h.3.unnamed_is;
            none_missing = h.3.none_missing;
            structs_are = h.3.structs_are;
            globals_are = h.3.globals_are;
            declares_are = h.3.declares_are;
            functions_are = h.3.functions_are;
          },
        );
      } in
      let s = separates (far_numbered far (far.unnamed + 1)) q ready_q in
      let o = s.1 in
      let wide_q : Widens p q = record { types = begins_itself p.types; structs = begins_itself p.struct_names.names; symbols = begins_itself p.symbols.names; locals = begins_itself p.locals.names } in
      let wide_p = widens_further p q o wide_q s.4 in (
        t.0.id,
        s.1,
        far_numbered far (far.unnamed + 1),
        (w, p, t.2, (tt, p, plain, (tt, q, number_taken (kind p.cursor) p q is (one_number p less), (tt, o, s.2, (refl, refl))))),
        s.3,
        widens_further i p o (grows_widens i p t.4) wide_p,
        (
          refl,
          λ n others later.
              let has_shape = shape_stays o.types n.types o.struct_names.names n.struct_names shape w.id later.types later.structs
              (shape_stays p.types o.types p.struct_names.names o.struct_names.names shape w.id wide_p.types wide_p.structs t.5.has_shape) in
              (shape, is_type.0, has_shape),
        ),
      )

  -- ---- all of them

  abbrev afterwards_first : List ℕ → (rest : Text) → Text
  afterwards_first ps rest = flat_map (λ (p : ℕ). codes ", " ++ type_text m p) ps ++ 41 ∷ rest

  more_after : (p : ℕ) (ps : List ℕ) (rest : Text) → afterwards_first (p ∷ ps) rest ≡ 44 ∷ 32 ∷ (type_text m p ++ afterwards_first ps rest)
  more_after p ps rest =
      append_assoc (codes ", " ++ type_text m p) (flat_map (λ (p : ℕ). codes ", " ++ type_text m p) ps) (41 ∷ rest) ∙ append_assoc (codes ", ") (type_text m p) (afterwards_first ps rest)

  first_seam : (ps : List ℕ) (rest : Text) → IsSeam (afterwards_first ps rest)
  unfolding class_of
  first_seam [] rest = refl
  first_seam (p ∷ ps) rest = refl

  abbrev pub DeclaredGo : List ℕ → Far → Input → (rest : Text) → Type 0
  DeclaredGo ps far i rest =
      (ys : List ℕ) × (o : Input) × (unnamed : ℕ) × Listed ends_parameters declared_parameter.says i ys o × Ready (known m f named (far_numbered far unnamed)) 0 o (41 ∷ rest) × Widens i o
      × ((n : Module) (others : List Text) → IsLater o n others → AreAlike (IsTypeAgain m n) ps ys)

  at_close : (o : Input) (rest : Text) → Stands o.cursor (41 ∷ rest) → ends_parameters o ≡ true
  at_close o rest at = ap (λ (b : Bool). b || at_dots o) (seen k.CloseRound o (close_round_comes o.cursor rest at).0)

  not_close : (x : ℕ) (i : Input) (gap sep : Text) → IsAnyType m x → IsSeam sep → AreBlanks gap → Stands i.cursor (gap ++ (type_text m x ++ sep)) → ends_parameters i ≡ false
  not_close x i gap sep is seam blanks at =
      let begins = types.type_comes is.0 x i.cursor gap sep is.1 blanks seam at in
      ap (λ (b : Bool). b || at_dots i) (unlike k.CloseRound begins_type i refl begins) ∙ no_dots i (unlike k.Dots begins_type i refl begins)

  further_go : (x : ℕ) (ps : List ℕ) (far : Far) (i : Input) (gap rest : Text) → AllByRecursion (IsAnyType m) (x ∷ ps) → far.unnamed + length (x ∷ ps) < 4294967295 → AreBlanks gap
      → Ready (known m f named far) 0 i (gap ++ (type_text m x ++ afterwards_first ps rest)) → DeclaredGo (x ∷ ps) far i rest
  further_go x [] far i gap rest are few blanks ready =
      let one = declared_goes x far i gap (41 ∷ rest) (41 ∷ rest) are.0 (omega (arith, few)) blanks (close_comes rest) (λ now. close_separates m f named types now rest) ready in (
        one.0 ∷ [],
        one.1,
        far.unnamed + 1,
        (not_close x i gap (41 ∷ rest) are.0 (close_comes rest).0 blanks ready.stands, one.1, one.3, (at_close one.1 rest one.4.stands, refl)),
        subst (λ (now : Far). Ready (known m f named now) 0 one.1 (41 ∷ rest)) one.6.0 one.4,
        one.5,
        λ n others later. (one.6.1 n others later, tt),
      )
  further_go x (p ∷ ps) far i gap rest are few blanks ready =
      let afterwards = type_text m p ++ afterwards_first ps rest in
      let here = subst (λ (t : Text). Ready (known m f named far) 0 i (gap ++ (type_text m x ++ t))) (more_after p ps rest) ready in
      let one = declared_goes x far i gap (44 ∷ 32 ∷ afterwards) (32 ∷ afterwards) are.0 (omega (arith, few)) blanks (comma_next (32 ∷ afterwards))
      (λ now. comma_separates m f named types now are.1.0.0 p (afterwards_first ps rest) are.1.0.1 (first_seam ps rest)) here in
      let q = one.1 in
      let ready_q = subst (λ (now : Far). Ready (known m f named now) 0 one.1 (32 ∷ afterwards)) one.6.0 one.4 in
      let next = further_go p ps (far_numbered far (far.unnamed + 1)) one.1 (32 ∷ []) rest are.1 (omega (arith, few)) refl ready_q in (
        one.0 ∷ next.0,
        next.1,
        next.2,
        (not_close x i gap (44 ∷ 32 ∷ afterwards) are.0 (comma_next (32 ∷ afterwards)).0 blanks here.stands, q, one.3, next.3),
        next.4,
        widens_further i q next.1 one.5 next.5,
        λ n others later. (one.6.1 n others (later_widened q next.1 n others next.5 later), next.6 n others later),
      )

  pub declared_go : (ps : List ℕ) (far : Far) (i : Input) (rest : Text) → AllByRecursion (IsAnyType m) ps → far.unnamed + length ps < 4294967295
      → Ready (known m f named far) 0 i (listed (type_text m) ps ++ 41 ∷ rest) → DeclaredGo ps far i rest
  declared_go [] far i rest are few ready = ([], i, far.unnamed, (at_close i rest ready.stands, refl), ready, widens_itself i, λ n others later. tt)
  declared_go (x ∷ ps) far i rest are few ready =
      further_go x ps far i [] rest are few refl
      (subst (λ (t : Text). Ready (known m f named far) 0 i t) (append_assoc (type_text m x) (flat_map (λ (p : ℕ). codes ", " ++ type_text m p) ps) (41 ∷ rest)) ready)
