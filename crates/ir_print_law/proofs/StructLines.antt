-- The line of a struct type is read as that struct type.
use Rattle.std.proofs.Common.{◌≡◌, ℕ, ◌<◌, ◌^◌, true, false, List, [], ◌∷◌, ◌++◌, length, slice_get, Some, refl, ap, subst, ◌∙◌, arith, append_assoc}
use Rattle.std.specs.Prelude.{codes}
use Rattle.lemmas.specs.Lists.{IsIn}
use Rattle.grammar.specs.Grammar.{◌>>=◌, ◌>>◌}
use Rattle.ir_ast.specs.declared.function.Function.{Function}
use Rattle.ir_ast.specs.declared.items_of_module.StructType.{StructType}
use Rattle.ir_ast.specs.declared.module.Module.{Module}
use Rattle.ir_tokens.specs.declared.token.Kind.TheVariants as k
use Rattle.ir_tokens.specs.Bytes.{Text, class_of}
use Rattle.ir_tokens.specs.Keywords.{word_kind, keywords}
use Rattle.ir_forms.specs.Cursor.{kind}
use Rattle.ir_forms.specs.declared.input.Input.{Input}
use Rattle.ir_forms.specs.Input.{Form, expect}
use Rattle.ir_forms.specs.Names.{new_struct}
use Rattle.ir_text.specs.ItemsOfText.{struct_type, struct_after, body, body_by, add_struct, with_struct_type}
use Rattle.ir_print.specs.Items.{struct_line}
use Rattle.name_text.specs.Names.{name_text}
use Rattle.name_text.specs.Readings.{AreBytes}
use Rattle.name_text.specs.declared.blank.Blank.TheVariants as blank
use Rattle.ir_print.specs.Names.{name_at, struct_text}
use Rattle.ir_print_law.specs.Stands.{Stands, AreBlanks}
use Rattle.ir_print.specs.Types.{type_text}
use Rattle.ir_print_law.proofs.Words.{sign_comes}
use Rattle.ir_print_law.specs.Again.{IsStructAgain}
use Rattle.ir_print_law.specs.Parts.{IsType}
use Rattle.ir_print_law.specs.Shapes.{Shape, Integer, Float, Pointer, Array, Empty, Struct, Named, Opaque, HasShape, is_struct_shape}
use Rattle.ir_print_law.proofs.Tables.{stays, begins_itself}
use Rattle.ir_print_law.proofs.State.{Invariant, Ready, Reads, IsLater}
use Rattle.ir_print_law.proofs.Shown.{shown, shape_stays}
use Rattle.ir_print_law.proofs.Steps.{looked, sign_reads, word_reads}
use Rattle.ir_print_law.proofs.WholeForms.{widens_further, Leads, leads_on, reads_lead}
use Rattle.ir_print_law.proofs.Known.{Far, AreNamed, known}
use Rattle.ir_print_law.proofs.Needs.{TypesRead}
use Rattle.ir_print_law.proofs.NewNames.{far_struct, new_struct_goes}

pub line_is : (m : Module) (struct : StructType) (rest : Text)
    → struct_line m struct ++ rest ≡ 37 ∷ (name_text blank.Kept (name_at m.struct_names struct.name) ++ (codes " = type " ++ (type_text m struct.body ++ 10 ∷ rest)))
line_is m struct rest =
    let name = struct_text m struct.name in
    let body = type_text m struct.body in
    append_assoc (name ++ codes " = type " ++ body) (10 ∷ []) rest ∙ append_assoc (name ++ codes " = type ") body (10 ∷ rest) ∙ append_assoc name (codes " = type ") (body ++ 10 ∷ rest)

-- the forms after the signs of the line
abbrev type_after : ℕ → Form (Unit {0})
type_after number = body >>= λ id. add_struct (record { name = number; body = id })

abbrev equals_after : ℕ → Form (Unit {0})
equals_after number = expect k.Type >> type_after number

module _ (m : Module) (f : Function) (named : AreNamed m f) (types : TypesRead m) (far : Far) where
  -- what is known after the line
  abbrev pub far_line : Text → StructType → Far
  far_line name x = record far { structs = far.structs ++ name ∷ []; struct_types = far.struct_types ++ x ∷ [] }

  -- the struct type is this one again, in each module later on
  abbrev pub IsStructRead : StructType → (a : Unit {0}) → Far → Input → Type 0
  IsStructRead struct a now o =
      (x : StructType) × (now ≡ far_line (name_at m.struct_names struct.name) x)
      × ((n : Module) (others : List Text) → IsLater o n others → IsStructAgain m n struct x)

  brace_comes : (shape : Shape) (i : Input) (gap rest : Text) → is_struct_shape shape ≡ true → AreBlanks gap → Stands i.cursor (gap ++ (shown false shape ++ rest)) → kind i.cursor ≡ k.OpenBrace
  unfolding class_of
  brace_comes Empty i gap rest is blanks at = (sign_comes i.cursor gap 123 (codes "}" ++ rest) k.OpenBrace blanks refl refl at).0
  brace_comes (Struct first others) i gap rest is blanks at = (sign_comes i.cursor gap 123 _ k.OpenBrace blanks refl refl at).0
  brace_comes (Integer bits) i gap rest is blanks at = absurd cc
  brace_comes (Float t) i gap rest is blanks at = absurd cc
  brace_comes (Pointer part) i gap rest is blanks at = absurd cc
  brace_comes (Array count part) i gap rest is blanks at = absurd cc
  brace_comes (Named name) i gap rest is blanks at = absurd cc
  brace_comes Opaque i gap rest is blanks at = absurd cc

  body_reads : {g : Function} (v : Invariant m g) (shape : Shape) (written : ℕ) (i : Input) (gap rest : Text) → IsType m shape written → is_struct_shape shape ≡ true → AreBlanks gap
      → Ready v 0 i (gap ++ (type_text m written ++ rest)) → Reads v 0 body i rest (λ w o. HasShape o.types o.struct_names.names shape w)
  unfolding body
  body_reads v shape written i gap rest is_type is blanks ready =
      let e = types.types_shown m shape written is_type.0 is_type.1 in
      let comes = brace_comes shape i gap rest is blanks (subst (λ (x : Text). Stands i.cursor (gap ++ (x ++ rest))) e ready.stands) in
      looked v (λ i. kind i.cursor) body_by i rest 0 (λ w o. HasShape o.types o.struct_names.names shape w) k.OpenBrace comes
      (types.struct_body_read v shape written i gap rest 0 is_type is blanks ready)

  -- the struct type is one more
  added : (struct : StructType) (shape : Shape) (x : StructType) (i : Input) (rest : Text) → IsType m shape struct.body → slice_get i.struct_names.names x.name ≡ Some (name_at m.struct_names struct.name)
      → HasShape i.types i.struct_names.names shape x.body → Ready (known m f named (far_struct m f named far (name_at m.struct_names struct.name))) 0 i rest
      → Leads m f named 0 (add_struct x) i rest (IsStructRead struct)
  added struct shape x i rest is_type is_name has_shape ready =
      let name = name_at m.struct_names struct.name in
      let h = ready.holds in
      let r = ready.room in
      let o = with_struct_type x i in (
        tt,
        with_struct_type x i,
        far_line name x,
        (refl, refl),
        record {
          stands = ready.stands;
          ordered = ready.ordered;
          forms = ready.forms;
          room = record { types = r.types; structs = r.structs; symbols = r.symbols; locals = r.locals };
          holds = (
            h.0,
            h.1,
            h.2,
            record {
              values_are = h.3.values_are;
              unnamed_is = h.3.unnamed_is;
              none_missing = h.3.none_missing;
              structs_are = ap (λ (l : List _). l ++ x ∷ []) h.3.structs_are;
              globals_are = h.3.globals_are;
              declares_are = h.3.declares_are;
              functions_are = h.3.functions_are;
            },
          );
        },
        record { types = begins_itself i.types; structs = begins_itself i.struct_names.names; symbols = begins_itself i.symbols.names; locals = begins_itself i.locals.names },
        (
          x,
          refl,
          λ n others later.
              let there = stays i.struct_names.names n.struct_names x.name name later.structs is_name in
              let body_shape = shape_stays i.types n.types i.struct_names.names n.struct_names shape x.body later.types later.structs has_shape in
              record { name = there; body = (shape, is_type.0, body_shape) },
        ),
      )

  pub struct_goes : (struct : StructType) (shape : Shape) (i : Input) (gap rest : Text) → AreBytes (name_at m.struct_names struct.name) → (IsIn (name_at m.struct_names struct.name) far.structs → ⊥)
      → length far.struct_types < 2 ^ 32 → IsType m shape struct.body → is_struct_shape shape ≡ true → AreBlanks gap → Ready (known m f named far) 0 i (gap ++ (struct_line m struct ++ rest))
      → Leads m f named 0 struct_type i (10 ∷ rest) (IsStructRead struct)
  unfolding struct_type class_of word_kind keywords
  struct_goes struct shape i gap rest own none less is_type is_struct blanks ready =
      let name = name_at m.struct_names struct.name in
      let v = known m f named (far_struct m f named far name) in
      let body_bytes = type_text m struct.body ++ 10 ∷ rest in
      let here = subst (λ (x : Text). Ready (known m f named far) 0 i (gap ++ x)) (line_is m struct rest) ready in
      leads_on v named new_struct struct_after i (codes " = type " ++ body_bytes) (10 ∷ rest) 0 0 _ (IsStructRead struct)
      (new_struct_goes m f named far name i gap (codes " = type " ++ body_bytes) 0 own none less blanks refl here)
      (λ number o ready_o wide_o is_name.
      reads_lead v named (expect k.Equals) (λ _. equals_after number) o (codes " type " ++ body_bytes) (10 ∷ rest) 0 0 _ (IsStructRead struct)
      (sign_reads v 61 k.Equals o (32 ∷ []) (codes " type " ++ body_bytes) 0 0 refl refl refl (omega arith) ready_o)
      (λ _ p ready_p wide_p at_p.
      reads_lead v named (expect k.Type) (λ _. type_after number) p (32 ∷ body_bytes) (10 ∷ rest) 0 0 _ (IsStructRead struct)
      (word_reads v (codes "type") p (32 ∷ []) (32 ∷ body_bytes) 0 0 refl refl refl (omega arith) ready_p)
      (λ _ q ready_q wide_q at_q.
      reads_lead v named body (λ id. add_struct (record { name = number; body = id })) q (10 ∷ rest) (10 ∷ rest) 0 0 _ (IsStructRead struct)
      (body_reads v shape struct.body q (32 ∷ []) (10 ∷ rest) is_type is_struct refl ready_q)
      (λ id r ready_r wide_r has_shape.
      let wide = widens_further o q r (widens_further o p q wide_p wide_q) wide_r in
      added struct shape (record { name = number; body = id }) r (10 ∷ rest) is_type
      (stays o.struct_names.names r.struct_names.names number name wide.structs is_name) has_shape ready_r))))
