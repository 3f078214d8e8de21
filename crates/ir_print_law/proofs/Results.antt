-- Results of functions, and the ends of their heads.
use Rattle.std.proofs.Common.{◌≡◌, ℕ, Bool, true, false, not, List, [], ◌∷◌, ◌++◌, slice_get, Option, None, Some, refl, sym, ap, subst, ◌∙◌, arith, append_assoc, length-append, inl, inr, ◌⊎◌}
use Rattle.std.specs.Prelude.{codes}
use Rattle.ir_print_law.proofs.ArgumentsAgain.{decorations_said}
use Rattle.ir_print_law.proofs.PrintedTypes.{void_shown, read_again}
use Rattle.ir_print_law.proofs.OperandsAgain.{ends_global}
use Rattle.grammar.specs.Grammar.{pure, ◌>>=◌}
use Rattle.ir_ast.specs.declared.function.Function.{Function}
use Rattle.ir_ast.specs.declared.ir_type.IrType.TheVariants as type
use Rattle.ir_ast.specs.declared.module.Module.{Module}
use Rattle.ir_tokens.specs.declared.token.Kind.{Kind}
use Rattle.ir_tokens.specs.declared.token.Kind.TheVariants as k
use Rattle.ir_tokens.specs.Bytes.{Text, class_of}
use Rattle.ir_tokens.specs.Keywords.{word_kind, keywords}
use Rattle.ir_forms.specs.Cursor.{kind, begins_line}
use Rattle.ir_forms.specs.declared.input.Input.{Input}
use Rattle.ir_forms.specs.Input.{advanced}
use Rattle.ir_forms.specs.Written.{begins_type, passed_type, any_type}
use Rattle.ir_forms.specs.declared.decorating.Spot.TheVariants as spot
use Rattle.ir_forms.specs.Decorations.{begins_decoration, decorations, either}
use Rattle.ir_text.specs.ItemsOfText.{void_result, defined_result, defined_result_by, declared_result, declared_result_by, head_end, collector, collector_name}
use Rattle.ir_print.specs.Items.{collector_text}
use Rattle.name_text.specs.Names.{name_text, quoted_text}
use Rattle.name_text.specs.Readings.{AreBytes}
use Rattle.name_text.specs.declared.blank.Blank.TheVariants as blank
use Rattle.ir_print_law.specs.Stands.{Stands, IsSeam, AreBlanks}
use Rattle.ir_print.specs.Types.{type_text}
use Rattle.ir_print_law.proofs.NamesRead.{collectors_are_read}
use Rattle.ir_print_law.proofs.Words.{sign_comes, word_comes, global_comes, seen}
use Rattle.ir_print_law.specs.PartsAgain.{IsResultAgain}
use Rattle.ir_print_law.specs.Parts.{IsVoid}
use Rattle.ir_print_law.specs.Printable.{IsPassed, IsAnyType, IsCollector}
use Rattle.ir_print_law.proofs.Tables.{stays}
use Rattle.ir_print_law.proofs.State.{Invariant, Ready, Reads, IsLater}
use Rattle.ir_print_law.proofs.Steps.{word_skipped, intern_reads, less_spare, grows_further, grows_itself, unlike, passed, grows_advanced}
use Rattle.ir_print_law.proofs.Types.{Comes}
use Rattle.ir_print_law.proofs.Needs.{TypesRead}

-- a result is this one again, in each module later on
abbrev pub IsResultRead : Module → (written : ℕ) → ℕ → Input → Type 0
IsResultRead m written id o = (n : Module) (others : List Text) → IsLater o n others → IsResultAgain m n written id

abbrev is_global : Kind → Bool
is_global k.GlobalName = true
is_global _ = false

-- what decorates nothing
result_plain : (first : Bool) (x : Kind) → begins_type x ≡ true → begins_decoration spot.Result first x ≡ false
result_plain first k.IntegerType e = refl
result_plain first k.LocalName e = refl
result_plain first k.OpenSquare e = refl
result_plain first k.OpenBrace e = refl
result_plain first k.Ptr e = refl
result_plain first k.LeftOut e = refl
result_plain first _ e = absurd cc

-- and has no metadata before it
declare_plain : (first : Bool) (x : Kind) → begins_type x ≡ true → begins_decoration spot.Declare first x ≡ false
declare_plain first k.IntegerType e = refl
declare_plain first k.LocalName e = refl
declare_plain first k.OpenSquare e = refl
declare_plain first k.OpenBrace e = refl
declare_plain first k.Ptr e = refl
declare_plain first k.LeftOut e = refl
declare_plain first _ e = absurd cc

defined_by : (x : Kind) (i o : Input) (n : ℕ) → begins_type x ≡ true → (passed_type >>= λ w. pure w.id).says i n o → (defined_result_by x).says i n o
defined_by k.IntegerType i o n e h = h
defined_by k.LocalName i o n e h = h
defined_by k.OpenSquare i o n e h = h
defined_by k.OpenBrace i o n e h = h
defined_by k.Ptr i o n e h = h
defined_by k.LeftOut i o n e h = h
defined_by _ i o n e h = absurd cc

declared_by : (x : Kind) (i o : Input) (n : ℕ) → begins_type x ≡ true → (any_type >>= λ w. pure w.id).says i n o → (declared_result_by x).says i n o
declared_by k.IntegerType i o n e h = h
declared_by k.LocalName i o n e h = h
declared_by k.OpenSquare i o n e h = h
declared_by k.OpenBrace i o n e h = h
declared_by k.Ptr i o n e h = h
declared_by k.LeftOut i o n e h = h
declared_by _ i o n e h = absurd cc

-- an item begins, or the text ends
abbrev pub begins_item : Kind → Bool
begins_item k.LocalName = true
begins_item k.GlobalName = true
begins_item k.Declare = true
begins_item k.Define = true
begins_item k.End = true
begins_item _ = false

item_plain : (first : Bool) (x : Kind) → begins_item x ≡ true → begins_decoration spot.Declared first x ≡ false
item_plain first k.LocalName e = refl
item_plain first k.GlobalName e = refl
item_plain first k.Declare e = refl
item_plain first k.Define e = refl
item_plain first k.End e = refl
item_plain first _ e = absurd cc

-- and no group of attributes begins with it
pub item_ungrouped : (first : Bool) (x : Kind) → begins_item x ≡ true → begins_decoration spot.GlobalEnd first x ≡ false
item_ungrouped first k.LocalName e = refl
item_ungrouped first k.GlobalName e = refl
item_ungrouped first k.Declare e = refl
item_ungrouped first k.Define e = refl
item_ungrouped first k.End e = refl
item_ungrouped first _ e = absurd cc

abbrev opens_body : Kind → Bool
opens_body k.OpenBrace = true
opens_body _ = false

module _ (m : Module) (f : Function) (v : Invariant m f) (types : TypesRead m) where
  void_reads : (i : Input) (gap name rest : Text) → AreBytes name → IsSeam rest → AreBlanks gap → Ready v 0 i (gap ++ (codes "void" ++ 32 ∷ 64 ∷ (name_text blank.Kept name ++ rest)))
      → Reads v 0 void_result i (32 ∷ 64 ∷ (name_text blank.Kept name ++ rest)) (λ n o. slice_get o.types n ≡ Some type.Void)
  unfolding class_of
  void_reads i gap name rest own seam blanks ready =
      let afterwards = 32 ∷ 64 ∷ (name_text blank.Kept name ++ rest) in
      let a = word_skipped v (codes "void") i gap afterwards 0 4 blanks refl refl (omega arith) ready in
      let p = a.1 in
      let none = unlike k.OpenRound is_global p refl (ap is_global (global_comes p.cursor (32 ∷ []) name rest refl own seam a.3.stands).0) in
      let b = intern_reads v type.Void p afterwards 3 tt a.3 in
      let o = b.1 in
      (b.0, b.1, (tt, p, (tt, p, a.2, (ap not none, refl)), b.2), less_spare v o afterwards 3 0 (omega arith) b.3, grows_further i p o a.4 b.4, b.5)

  pub defined_result_reads : (returned : ℕ) (i : Input) (gap name rest : Text) → IsVoid m returned ⊎ IsPassed m returned → AreBytes name → IsSeam rest → AreBlanks gap
      → Ready v 0 i (gap ++ (type_text m returned ++ 32 ∷ 64 ∷ (name_text blank.Kept name ++ rest)))
      → Reads v 0 defined_result i (32 ∷ 64 ∷ (name_text blank.Kept name ++ rest)) (IsResultRead m returned)
  unfolding defined_result word_kind keywords class_of
  defined_result_reads returned i gap name rest (inl is_void) own seam blanks ready =
      let afterwards = 32 ∷ 64 ∷ (name_text blank.Kept name ++ rest) in
      let e = void_shown m returned is_void in
      let here = subst (λ (t : Text). Ready v 0 i (gap ++ (t ++ afterwards))) e ready in
      let comes = (word_comes i.cursor gap (codes "void") afterwards blanks refl refl here.stands).0 in
      let plain = decorations_said spot.Result i (ap (begins_decoration spot.Result (begins_line i.cursor)) comes) in
      let a = void_reads i gap name rest own seam blanks here in
      let o = a.1 in
      let n = a.0 in (
        a.0,
        a.1,
        (tt, i, plain, subst (λ (x : Kind). (defined_result_by x).says i n o) (sym comes) a.2),
        a.3,
        a.4,
        λ later others is_later. inl (is_void, stays o.types later.types n type.Void is_later.types a.5),
      )
  defined_result_reads returned i gap name rest (inr is_passed) own seam blanks ready =
      let afterwards = 32 ∷ 64 ∷ (name_text blank.Kept name ++ rest) in
      let shape = is_passed.0 in
      let is_type = is_passed.1 in
      let begins = types.type_comes shape returned i.cursor gap afterwards is_type blanks refl ready.stands in
      let plain = decorations_said spot.Result i (result_plain (begins_line i.cursor) (kind i.cursor) begins) in
      let a = types.passed v shape returned i gap afterwards 0 is_type is_passed.2 blanks (ends_global name rest own seam) ready in
      let o = a.1 in
      let w = a.0 in (
        a.0.id,
        a.1,
        (tt, i, plain, defined_by (kind i.cursor) i o w.id begins (w, o, a.2, (refl, refl))),
        a.3,
        a.4,
        λ later others is_later. inr (read_again m shape returned w.id o later others is_type.0 a.5.has_shape is_later),
      )

  pub declared_result_reads : (returned : ℕ) (i : Input) (gap name rest : Text) → IsVoid m returned ⊎ IsAnyType m returned → AreBytes name → IsSeam rest → AreBlanks gap
      → Ready v 0 i (gap ++ (type_text m returned ++ 32 ∷ 64 ∷ (name_text blank.Kept name ++ rest)))
      → Reads v 0 declared_result i (32 ∷ 64 ∷ (name_text blank.Kept name ++ rest)) (IsResultRead m returned)
  unfolding declared_result word_kind keywords class_of
  declared_result_reads returned i gap name rest (inl is_void) own seam blanks ready =
      let afterwards = 32 ∷ 64 ∷ (name_text blank.Kept name ++ rest) in
      let e = void_shown m returned is_void in
      let here = subst (λ (t : Text). Ready v 0 i (gap ++ (t ++ afterwards))) e ready in
      let comes = (word_comes i.cursor gap (codes "void") afterwards blanks refl refl here.stands).0 in
      let plain = decorations_said spot.Result i (ap (begins_decoration spot.Result (begins_line i.cursor)) comes) in
      let none = decorations_said spot.Declare i (ap (begins_decoration spot.Declare (begins_line i.cursor)) comes) in
      let a = void_reads i gap name rest own seam blanks here in
      let o = a.1 in
      let n = a.0 in (
        a.0,
        a.1,
        (tt, i, none, (tt, i, plain, subst (λ (x : Kind). (declared_result_by x).says i n o) (sym comes) a.2)),
        a.3,
        a.4,
        λ later others is_later. inl (is_void, stays o.types later.types n type.Void is_later.types a.5),
      )
  declared_result_reads returned i gap name rest (inr is_any) own seam blanks ready =
      let afterwards = 32 ∷ 64 ∷ (name_text blank.Kept name ++ rest) in
      let shape = is_any.0 in
      let is_type = is_any.1 in
      let begins = types.type_comes shape returned i.cursor gap afterwards is_type blanks refl ready.stands in
      let plain = decorations_said spot.Result i (result_plain (begins_line i.cursor) (kind i.cursor) begins) in
      let none = decorations_said spot.Declare i (declare_plain (begins_line i.cursor) (kind i.cursor) begins) in
      let a = types.any v shape returned i gap afterwards 0 is_type refl blanks (ends_global name rest own seam) ready in
      let o = a.1 in
      let w = a.0 in (
        a.0.id,
        a.1,
        (tt, i, none, (tt, i, plain, declared_by (kind i.cursor) i o w.id begins (w, o, a.2, (refl, refl)))),
        a.3,
        a.4,
        λ later others is_later. inr (read_again m shape returned w.id o later others is_type.0 a.5.has_shape is_later),
      )

  -- ---- the end of a head

  brace_plain : (i : Input) (rest : Text) → Stands i.cursor (32 ∷ 123 ∷ rest) → (kind i.cursor ≡ k.OpenBrace)
  unfolding class_of
  brace_plain i rest at = (sign_comes i.cursor (32 ∷ []) 123 rest k.OpenBrace refl refl refl at).0

  defined_plain : (i : Input) (x : Kind) → kind i.cursor ≡ x → ((first : Bool) → begins_decoration spot.Defined first x ≡ false) → (decorations spot.Defined).says i tt i
  defined_plain i x e plain = decorations_said spot.Defined i (ap (begins_decoration spot.Defined (begins_line i.cursor)) e ∙ plain (begins_line i.cursor))

  pub head_end_reads : (c : Option Text) (i : Input) (rest : Text) → IsCollector c → Ready v 0 i (collector_text c ++ 32 ∷ 123 ∷ rest) → Reads v 0 (head_end spot.Defined) i (32 ∷ 123 ∷ rest) (λ y o. y ≡ c)
  unfolding head_end collector word_kind keywords class_of
  head_end_reads None i rest own ready =
      let e = brace_plain i rest ready.stands in
      let plain = defined_plain i k.OpenBrace e (λ first. refl) in
      let none = unlike k.Gc opens_body i refl (ap opens_body e) in
      let said = subst (λ (b : Bool). (either collector_name (pure None) b).says i None i) (sym none) (refl, refl) in
      (None, i, (tt, i, plain, (None, i, said, (tt, i, plain, (refl, refl)))), ready, grows_itself i, refl)
  head_end_reads (Some name) i rest own ready =
      let afterwards = 32 ∷ 123 ∷ rest in
      let word = word_comes i.cursor (32 ∷ []) (codes "gc") (32 ∷ (quoted_text blank.Kept name ++ afterwards)) refl refl refl here.stands in
      let plain = defined_plain i k.Gc word.0 (λ first. refl) in
      let a = word_skipped v (codes "gc") i (32 ∷ []) (32 ∷ (quoted_text blank.Kept name ++ afterwards)) 0 0 refl refl refl (omega arith) here in
      let p = a.1 in
      let q = collectors_are_read name p (32 ∷ []) afterwards own refl refl a.3.stands in
      let o = advanced p in
      let size = length-append (quoted_text blank.Kept name) afterwards in
      let ready_o = passed v p (32 ∷ (quoted_text blank.Kept name ++ afterwards)) afterwards 0 0 a.3 q.1 (omega (arith, size)) in
      let e = brace_plain o rest q.1 in
      let plain_o = defined_plain o k.OpenBrace e (λ first. refl) in
      let said = subst (λ (b : Bool). (either collector_name (pure None) b).says i (Some name) o) (sym (seen k.Gc i word.0)) (name, o, (tt, p, a.2, q.0), (refl, refl)) in
      (Some name, advanced p, (tt, i, plain, (Some name, o, said, (tt, o, plain_o, (refl, refl)))), ready_o, grows_further i p o a.4 (grows_advanced v p), refl) where
        here : Ready v 0 i ((32 ∷ []) ++ (codes "gc" ++ 32 ∷ (quoted_text blank.Kept name ++ 32 ∷ 123 ∷ rest)))
        here = subst (λ (t : Text). Ready v 0 i t) (append_assoc (codes " gc ") (quoted_text blank.Kept name) (32 ∷ 123 ∷ rest)) ready

  -- no collector is written after a declared function, and a further item or the end of the text comes
  pub declared_end_reads : (i : Input) (rest : Text) → Comes begins_item rest → Ready v 0 i rest → Reads v 0 (head_end spot.Declared) i rest (λ y o. i ≡ o)
  unfolding head_end collector
  declared_end_reads i rest comes ready =
      let item = comes i ready.stands in
      let plain = decorations_said spot.Declared i (item_plain (begins_line i.cursor) (kind i.cursor) item) in
      let none = unlike k.Gc begins_item i refl item in
      let said = subst (λ (b : Bool). (either collector_name (pure None) b).says i None i) (sym none) (refl, refl) in
      (None, i, (tt, i, plain, (None, i, said, (tt, i, plain, (refl, refl)))), ready, grows_itself i, refl)
