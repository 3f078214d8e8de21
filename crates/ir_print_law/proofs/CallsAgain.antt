-- Printed calls are read as these calls again.
use Rattle.std.proofs.Common.{◌≡◌, ℕ, ◌+◌, Bool, true, false, List, [], ◌∷◌, ◌++◌, slice_get, None, Some, refl, ap, subst, arith, append_assoc, inl, inr, Option, sym, ◌∙◌}
use Rattle.std.specs.Prelude.{codes, drop}
use Rattle.grammar.specs.Grammar.{pure, look, ◌>>=◌, ◌>>◌}
use Rattle.ir_ast.specs.declared.calls.Call.{Call}
use Rattle.ir_ast.specs.declared.function.Function.{Function}
use Rattle.ir_ast.specs.declared.function.LocalSort.TheVariants as local
use Rattle.ir_ast.specs.declared.ir_type.IrType.TheVariants as type
use Rattle.ir_ast.specs.declared.module.Module.{Module}
use Rattle.ir_ast.specs.declared.argument.Argument.{Argument}
use Rattle.ir_ast.specs.declared.op.Op.{Op}
use Rattle.ir_ast.specs.declared.op.Op.TheVariants as op
use Rattle.ir_tokens.specs.declared.token.Kind.TheVariants as k
use Rattle.ir_tokens.specs.Bytes.{Text, class_of}
use Rattle.ir_tokens.specs.Keywords.{word_kind, keywords}
use Rattle.ir_forms.specs.Cursor.{kind, begins_line, name, name_third, next, same_kind}
use Rattle.ir_forms.specs.declared.input.Input.{Input}
use Rattle.ir_forms.specs.declared.written.WrittenType.{WrittenType}
use Rattle.ir_forms.specs.Input.{Form, advanced, skip, expect}
use Rattle.ir_forms.specs.Intrinsics.{is_dropped, is_left_out}
use Rattle.ir_forms.specs.Records.{drops_at}
use Rattle.ir_forms.specs.Names.{set_type, callee, with_symbol_use}
use Rattle.ir_forms.specs.Written as w
use Rattle.ir_forms.specs.Lists as lists
use Rattle.ir_print.specs.Operands.{argument_text, listed}
use Rattle.ir_print.specs.Calls.{call_text}
use Rattle.ir_print_law.specs.Stands.{AreBlanks, Stands}
use Rattle.ir_print.specs.Types.{type_text}
use Rattle.ir_print_law.specs.PartsAgain.{IsResultAgain, IsArgumentAgain}
use Rattle.ir_print_law.specs.Calls.{IsCallAgain, IsCall}
use Rattle.ir_print_law.specs.Parts.{IsScalar, IsArgument, IsVoid, IsReturned}
use Rattle.ir_print_law.specs.Shapes.{Shape}
use Rattle.ir_print_law.proofs.OneKind.{IsLonger}
use Rattle.ir_print_law.proofs.Tables.{stays}
use Rattle.ir_print_law.proofs.State.{Invariant, Ready, IsLater, Reads}
use Rattle.ir_print_law.proofs.Shown.{shown, IsTypeRead}
use Rattle.ir_print_law.proofs.Steps.{looked, says_too, given, sign_reads, word_skipped, word_seen, intern_reads, later_before}
use Rattle.ir_print_law.proofs.WholeTypes.{type_begins}
use Rattle.ir_print_law.proofs.PrintedTypes.{type_shown, read_again, scalar_reads, void_shown}
use Rattle.ir_print_law.proofs.PlainForms.{result_said, signature_said}
use Rattle.ir_print_law.proofs.Parts.{IsLaterAgain, OpAgain, Sets}
use Rattle.ir_print_law.proofs.Setting.{on, said_on, set_reads}
use Rattle.std.specs.List.{AllByRecursion}
use Rattle.ir_forms.specs.Decorations.{decorations, begins_decoration}
use Rattle.ir_forms.specs.Calls as calls
use Rattle.ir_forms.specs.declared.decorating.Spot.TheVariants as spot
use Rattle.ir_ast.specs.Names.{number_of}
use Rattle.name_text.specs.Names.{name_text}
use Rattle.name_text.specs.Readings.{AreBytes}
use Rattle.name_text.specs.declared.blank.Blank.TheVariants as blank
use Rattle.ir_print.specs.Names.{name_at, global_text}
use Rattle.ir_print_law.proofs.NamesRead.{callees_are_read}
use Rattle.ir_print_law.proofs.Words.{global_comes, word_comes}
use Rattle.ir_print_law.proofs.Undropped.{other_call_comes, printed_itself, printed_not_dropped}
use Rattle.ir_forms.specs.StandIns.{stand_in}
use Rattle.ir_forms.specs.declared.stand_ins.StandIn.TheVariants.{Itself}
use Rattle.ir_print_law.specs.Definitions.{functions_of}
use Rattle.ir_print_law.proofs.OperandsAgain.{ends_global, symbol_ready, symbol_grows, symbol_few, symbol_there, sign_less}
use Rattle.ir_forms.specs.Ops.{as_op}
use Rattle.ir_print_law.proofs.ArgumentsAgain.{EndsLine, undecorated_line, undecorated_type, decorations_said, AllArgumentsAgain, arguments_read}
use Rattle.ir_print.specs.Instructions.{op_text}
use Rattle.ir_tokens.specs.declared.token.Kind.{Kind}
use Rattle.ir_forms.specs.Place.{Place}
use Rattle.ir_print_law.specs.Printable.{gives_value, is_void}
use Rattle.lemmas.specs.All.{all_so}
use Rattle.lemmas.specs.Bools.{not_true, not_false}
use Rattle.lemmas.specs.Lists.{IsIn}
use Rattle.ir_ast.specs.declared.ir_type.IrType.{IrType}
use Rattle.ir_forms.specs.declared.site.Site.{Site}
use Rattle.ir_forms.specs.Instructions as whole
use Rattle.ir_print_law.proofs.OpsAgain.{op_reads, by_word, PlainAgain, unnamed_reads, plain_by_word}
use Rattle.ir_print_law.proofs.SameParts.{listed_same, result_same, global_same, argument_same}
use Rattle.ir_print_law.proofs.LongerTypes.{with_types, returned_again, argument_again}
use Rattle.ir_print_law.specs.Definitions.{defined_functions}
use Rattle.ir_print_law.specs.Definitions.{declared_functions}
use Rattle.ir_print_law.specs.EqualParts.{same3}

-- a call of these texts
abbrev call_by : (returned callee arguments : Text) → Text
call_by returned callee arguments = codes "call " ++ returned ++ 32 ∷ callee ++ 40 ∷ arguments ++ 41 ∷ []

-- the parts of a call, and what follows it
call_front : (returned callee arguments rest : Text) → call_by returned callee arguments ++ rest ≡ codes "call" ++ (32 ∷ (returned ++ (32 ∷ (callee ++ (40 ∷ (arguments ++ 41 ∷ rest))))))
call_front returned callee arguments rest = simp append_assoc

void_there : (x : Option IrType) → is_void x ≡ true → x ≡ Some type.Void
void_there (Some type.Void) e = refl
void_there _ e = absurd cc

-- a call is this one again, in each module later on
abbrev pub CallAgain : Module → (locals : List Text) → Call → Call → Input → Type 0
CallAgain m locals = IsLaterAgain (λ n others. IsCallAgain m n locals others)

module _ {m : Module} {f : Function} (v : Invariant m f) where
  -- `@f(T V, ..)`
  pub call_after_reads : (x : Call) (number : ℕ) (i : Input) (rest : Text) (s : ℕ) → IsIn (name_at m.symbols x.callee) (functions_of m) → AllByRecursion (IsArgument m f) x.arguments
      → ((n : Module) (others : List Text) → IsLater i n others → IsResultAgain m n x.returned number) → EndsLine rest
      → Ready v s i (32 ∷ (global_text m x.callee ++ (40 ∷ (listed (argument_text m f.locals) x.arguments ++ 41 ∷ rest)))) → Reads v s (calls.call_after number) i rest (CallAgain m f.locals x)
  unfolding calls.call_after calls.called class_of
  call_after_reads x number i rest s there own again ends ready =
      let name = name_at m.symbols x.callee in
      let good = CallAgain m f.locals x in
      let t2 = listed (argument_text m f.locals) x.arguments ++ 41 ∷ rest in
      let t1 = 40 ∷ t2 in
      let is = v.is_symbol true name there in
      let c = callees_are_read name i (32 ∷ []) t1 is.0 (ap (λ (wide : Bool). is_left_out wide name) ready.forms ∙ is.1) (symbol_few v i _ s name ready) refl refl ready.stands in
      let g1 = global_comes i.cursor (32 ∷ []) name t1 refl is.0 refl ready.stands in
      let a : Reads v s calls.called i (40 ∷ (listed (argument_text m f.locals) x.arguments ++ 41 ∷ rest)) (λ n o. slice_get o.symbols.names n ≡ Some (name_at m.symbols x.callee)) =
      looked v (λ i. kind i.cursor) calls.called_by i (40 ∷ (listed (argument_text m f.locals) x.arguments ++ 41 ∷ rest)) s (λ n o. slice_get o.symbols.names n ≡ Some (name_at m.symbols x.callee)) k.GlobalName g1.0
      (number_of name i.symbols.names, with_symbol_use true i, c.0, symbol_ready v true i _ t1 s name c.1 there ready (sign_less v 64 (32 ∷ []) (name_text blank.Kept name) t1) c.2, symbol_grows v true i, symbol_there v i name true c.1) in
      said_on v calls.signature (calls.call_parts number) i None rest s good (signature_said i g1.0)
      (on v v calls.called round_form i t1 rest s s (λ n o. slice_get o.symbols.names n ≡ Some (name_at m.symbols x.callee)) good a
      (λ fn o ready g named.
      on v v (expect k.OpenRound) (λ _. arguments_form fn) o t2 rest s s (λ _ q. advanced o ≡ q) good
      (sign_reads v 40 k.OpenRound o [] t2 s s refl refl refl (omega arith) ready)
      (λ _ q ready h e.
      on v v lists.arguments (close_form fn) q (41 ∷ rest) rest s s (AllArgumentsAgain m f.locals x.arguments) good
      (arguments_read v x.arguments q rest s own ready)
      (λ ys r ready hh arguments_again.
      on v v (expect k.CloseRound) (λ _. end_form fn ys) r rest rest s s (λ _ z. advanced r ≡ z) good
      (sign_reads v 41 k.CloseRound r [] rest s s refl refl refl (omega arith) ready)
      (λ _ z ready h3 e.
      said_on v (decorations spot.Call) (λ _. pure (made fn ys)) z tt rest s good (decorations_said spot.Call z (undecorated_line (begins_line z.cursor) (kind z.cursor) (ends.1 z ready.stands)))
      (given v (made fn ys) z rest s good ready
      (λ n others later.
      let laterr = later_before r z n others h3 later in
      let laterq = later_before q r n others hh laterr in
      let latero = later_before o q n others h laterq in
      let lateri = later_before i o n others g latero in
      (again n others lateri, stays o.symbols.names n.symbols fn (name_at m.symbols x.callee) latero.symbols named, arguments_again n others laterr))))))))
    where
      made : ℕ → List Argument → Call
      made fn ys = record { returned = number; callee = fn; arguments = ys }

      end_form : ℕ → List Argument → Form Call
      end_form fn ys = decorations spot.Call >> pure (made fn ys)

      close_form : ℕ → List Argument → Form Call
      close_form fn ys = expect k.CloseRound >> end_form fn ys

      arguments_form : ℕ → Form Call
      arguments_form fn = lists.arguments >>= close_form fn

      round_form : ℕ → Form Call
      round_form fn = expect k.OpenRound >> arguments_form fn

  -- `call void @f(T V, ..)`
  pub void_call_reads : (x : Call) (i : Input) (gap rest : Text) (s : ℕ) → IsVoid m x.returned → IsIn (name_at m.symbols x.callee) (functions_of m) → AllByRecursion (IsArgument m f) x.arguments
      → EndsLine rest → AreBlanks gap → Ready v s i (gap ++ (call_text m f.locals x ++ rest))
      → Reads v s calls.call_statement i rest (PlainAgain m f.locals (op.Call x))
  unfolding calls.call_statement calls.void_call class_of word_kind keywords
  void_call_reads x i gap rest s is_void there own ends blanks ready =
      let good = PlainAgain m f.locals (op.Call x) in
      let t2 = 32 ∷ (global_text m x.callee ++ (40 ∷ (listed (argument_text m f.locals) x.arguments ++ 41 ∷ rest))) in
      let t1 = codes "void" ++ t2 in
      let ready = subst (λ (y : Text). Ready v s i (gap ++ y)) (call_front (type_text m x.returned) (global_text m x.callee) (listed (argument_text m f.locals) x.arguments) rest) ready in
      let ready = subst (λ (y : Text). Ready v s i (gap ++ (codes "call" ++ (32 ∷ (y ++ t2))))) (void_shown m x.returned is_void) ready in
      on v v skip (λ _. calls.call_statement_after) i (32 ∷ t1) rest s s (λ _ o. advanced i ≡ o) good
      (word_skipped v (codes "call") i gap (32 ∷ t1) s s blanks refl refl (omega arith) ready)
      (λ _ o ready g e.
      let is = word_seen v (codes "void") o (32 ∷ []) t2 s refl refl refl ready in
      said_on v (decorations spot.Result) (λ _. look (λ i. kind i.cursor) calls.call_by) o tt rest s good (decorations_said spot.Result o (ap (begins_decoration spot.Result (begins_line o.cursor)) is))
      (looked v (λ i. kind i.cursor) calls.call_by o rest s good k.Void is
      (on v v (as_op op.Call calls.void_call) calls.unnamed o rest rest s s (OpAgain m f.locals (op.Call x)) good
      (on v v calls.void_call (λ y. pure (op.Call y)) o rest rest s s (CallAgain m f.locals x) (OpAgain m f.locals (op.Call x))
      (on v v (skip >> w.intern type.Void) calls.call_after o t2 rest s s (λ n q. slice_get q.types n ≡ Some type.Void) (CallAgain m f.locals x)
      (on v v skip (λ _. w.intern type.Void) o t2 t2 (s + 1) s (λ _ q. advanced o ≡ q) (λ n q. slice_get q.types n ≡ Some type.Void)
      (word_skipped v (codes "void") o (32 ∷ []) t2 s (s + 1) refl refl refl (omega arith) ready)
      (λ _ q ready h e. intern_reads v type.Void q t2 s tt ready))
      (λ n q ready h is_there. call_after_reads x n q rest s there own
      (λ later_module others later. inl (is_void, stays q.types later_module.types n type.Void later.types is_there)) ends ready))
      (λ y q ready h again. given v (op.Call y) q rest s (OpAgain m f.locals (op.Call x)) ready again))
      (λ y q ready h again. unnamed_reads v (op.Call x) y q rest s ends again ready))))

  -- one without a value, where an instruction is read
  pub plain_call_reads : (site : Site) (x : Call) (i : Input) (gap rest : Text) (s : ℕ) → AreBlanks gap → IsCall m f x → gives_value m (op.Call x) ≡ false → EndsLine rest
      → Ready v s i (gap ++ (op_text m f.locals (op.Call x) ++ rest)) → Reads v s (whole.instruction site) i rest (PlainAgain m f.locals (op.Call x))
  unfolding word_kind keywords class_of
  plain_call_reads site x i gap rest s blanks own gives ends ready =
      plain_by_word v site (op.Call x) (codes "call") _ i gap rest s blanks refl refl ready
      (void_call_reads x i gap rest s (void_there (slice_get m.types x.returned) (not_false (is_void (slice_get m.types x.returned)) gives)) own.1 own.2 ends blanks ready)

module _ {m : Module} {f : Function} (v u : Invariant m f) where
  -- `call T @f(T V, ..)`, whose value has a name
  pub call_reads : (shape : Shape) (value : ℕ) (x : Call) (i : Input) (gap rest : Text) (s : ℕ) → IsScalar m shape x.returned → IsIn (name_at m.symbols x.callee) (functions_of m)
      → AllByRecursion (IsArgument m f) x.arguments → Sets v u value → EndsLine rest → AreBlanks gap → Ready v s i (gap ++ (call_text m f.locals x ++ rest))
      → Reads u s (calls.call value) i rest (OpAgain m f.locals (op.Call x))
  unfolding calls.call class_of word_kind keywords
  call_reads shape value x i gap rest s scalar there own sets ends blanks ready =
      let good = OpAgain m f.locals (op.Call x) in
      let type_is = type_shown m shape x.returned scalar.0.0 scalar.0.1 in
      let t2 = 32 ∷ (global_text m x.callee ++ (40 ∷ (listed (argument_text m f.locals) x.arguments ++ 41 ∷ rest))) in
      let t1 = shown false shape ++ t2 in
      let is = v.is_symbol true (name_at m.symbols x.callee) there in
      let ready = subst (λ (y : Text). Ready v s i (gap ++ y)) (call_front (type_text m x.returned) (global_text m x.callee) (listed (argument_text m f.locals) x.arguments) rest) ready in
      let ready = subst (λ (y : Text). Ready v s i (gap ++ (codes "call" ++ (32 ∷ (y ++ t2))))) type_is ready in
      on v u skip (λ _. typed_form) i (32 ∷ t1) rest s s (λ _ o. advanced i ≡ o) good
      (word_skipped v (codes "call") i gap (32 ∷ t1) s s blanks refl refl (omega arith) ready)
      (λ _ o ready g e.
      let begins = type_begins v shape o (32 ∷ []) t2 scalar.0.2 refl refl ready.stands in
      said_on u (decorations spot.Result) (λ _. calls.named_call value) o tt rest s good (decorations_said spot.Result o (undecorated_type (begins_line o.cursor) (kind o.cursor) begins))
      (on v u w.result_type call_form o t2 rest s s (IsTypeRead shape 64) good
      (says_too v w.scalar w.result_type o t2 s (IsTypeRead shape 64) (result_said o)
      (scalar_reads v shape o (32 ∷ []) t2 s scalar.0.2 scalar.0.1 scalar.1 refl (ends_global (name_at m.symbols x.callee) (40 ∷ (listed (argument_text m f.locals) x.arguments ++ 41 ∷ rest)) is.0 refl) ready))
      (λ p q ready h read.
      let spelled = (global_comes q.cursor (32 ∷ []) (name_at m.symbols x.callee) (40 ∷ (listed (argument_text m f.locals) x.arguments ++ 41 ∷ rest)) refl is.0 refl ready.stands).1 in
      looked u stand_in (calls.named_call_by value p.id) q rest s good Itself (printed_itself m.wide (name_at m.symbols x.callee) q is.1 spelled)
      (op_reads u op.Call (calls.call_of value p.id) (λ n others. IsCallAgain m n f.locals others) x (op.Call x) q rest s (λ y o again. again)
      (on v u (calls.call_after p.id) (set_form p) q rest rest s s (CallAgain m f.locals x) (CallAgain m f.locals x)
      (call_after_reads v x p.id q rest s there own (λ n others later. inr (read_again m shape x.returned p.id q n others scalar.0.0 read.has_shape later)) ends ready)
      (λ y r ready hh again. set_reads v u (λ n others. IsCallAgain m n f.locals others) value (local.Value p.id) x y r rest s sets refl ready again))))))
    where
      set_form : WrittenType → Call → Form Call
      set_form p x = set_type value p.id >> pure x

      call_form : WrittenType → Form Op
      call_form p = look stand_in (calls.named_call_by value p.id)

      typed_form : Form Op
      typed_form = decorations spot.Result >> calls.named_call value

  -- what follows `%v =`
  pub named_call_reads : (site : Site) (value : ℕ) (x : Call) (i : Input) (gap rest : Text) (s : ℕ) → AreBlanks gap → IsCall m f x → gives_value m (op.Call x) ≡ true → Sets v u value → EndsLine rest
      → Ready v s i (gap ++ (op_text m f.locals (op.Call x) ++ rest)) → Reads u s (whole.named_op site value) i rest (OpAgain m f.locals (op.Call x))
  unfolding word_kind keywords class_of
  named_call_reads site value x i gap rest s blanks own gives sets ends ready = by own.0 where
    by : IsReturned m x.returned → Reads u s (whole.named_op site value) i rest (OpAgain m f.locals (op.Call x))
    by (inl void) = absurd (let e : is_void (slice_get m.types x.returned) ≡ true = ap is_void void in let both = sym e ∙ not_true (is_void (slice_get m.types x.returned)) gives in cc)
    by (inr scalar) =
        by_word v u site value (op.Call x) (codes "call") _ i gap rest s blanks refl refl ready
        (call_reads scalar.0 value x i gap rest s scalar.1 own.1 own.2 sets ends blanks ready)

-- ---- its word

-- its word is not that of a phi
pub call_no_phi : (m : Module) (locals : List Text) (x : Call) (place : Place) (rest : Text) → Stands place (32 ∷ (call_text m locals x ++ 10 ∷ rest)) → same_kind (kind place) k.Phi ≡ false
unfolding class_of word_kind keywords same_kind
call_no_phi m locals x place rest at = ap (λ (x : Kind). same_kind x k.Phi) (word_comes place (32 ∷ []) (codes "call") _ refl refl refl at).0

-- names of functions are bytes, and none is left out
abbrev pub AreKept : Module → Type 0
AreKept m = (name : Text) → IsIn name (functions_of m) → AreBytes name × (is_left_out m.wide name ≡ false)

-- a printed call that gives nothing is none that is dropped
pub call_undropped : (m : Module) (f : Function) → AreKept m → (x : Call) (place : Place) (rest : Text) → IsCall m f x → gives_value m (op.Call x) ≡ false
    → Stands place (10 ∷ 32 ∷ 32 ∷ (call_text m f.locals x ++ rest)) → drops_at place ≡ false
unfolding class_of word_kind keywords name_third name
call_undropped m f kept x place rest own gives at =
    let called = name_at m.symbols x.callee in
    let t3 = 40 ∷ (listed (argument_text m f.locals) x.arguments ++ 41 ∷ rest) in
    let t2 = 32 ∷ (global_text m x.callee ++ t3) in
    let at = subst (λ (y : Text). Stands place (10 ∷ 32 ∷ 32 ∷ y)) (call_front (type_text m x.returned) (global_text m x.callee) (listed (argument_text m f.locals) x.arguments) rest) at in
    let void = void_shown m x.returned (void_there (slice_get m.types x.returned) (not_false (is_void (slice_get m.types x.returned)) gives)) in
    let at = subst (λ (y : Text). Stands place (10 ∷ 32 ∷ 32 ∷ (codes "call" ++ (32 ∷ (y ++ t2))))) void at in
    let a = word_comes place (10 ∷ 32 ∷ 32 ∷ []) (codes "call") (32 ∷ (codes "void" ++ t2)) refl refl refl at in
    let b = word_comes (next place) (32 ∷ []) (codes "void") t2 refl refl refl a.3 in
    let is = kept called own.1 in
    let c = global_comes (next (next place)) (32 ∷ []) called t3 refl is.0 refl b.3 in
    let spelled : name_third place ≡ name_text blank.Kept called = ap (drop 1) c.1 in
    other_call_comes place a.0 (ap is_dropped spelled ∙ printed_not_dropped m.wide called is.1)

-- one without a value begins with the word of a call too
pub plain_call_kind : (m : Module) (locals : List Text) (x : Call) (place : Place) (rest : Text) → Stands place (10 ∷ 32 ∷ 32 ∷ (call_text m locals x ++ rest)) → kind place ≡ k.Call
unfolding class_of word_kind keywords
plain_call_kind m locals x place rest at = (word_comes place (10 ∷ 32 ∷ 32 ∷ []) (codes "call") _ refl refl refl at).0

-- ---- its text

module _ (m n : Module) (locals others : List Text) where
  -- one call, one text
  pub call_same : (x y : Call) → IsCallAgain m n locals others x y → call_text m locals x ≡ call_text n others y
  call_same x y h =
      same3 (λ a b c. codes "call " ++ a ++ 32 ∷ b ++ 40 ∷ c ++ 41 ∷ []) (result_same m n x.returned y.returned h.0) (global_same m n x.callee y.callee h.1)
      (listed_same (IsArgumentAgain m n locals others) (argument_text m locals) (argument_text n others) x.arguments y.arguments (argument_same m n locals others) h.2)

-- a call is printable where the module has more types, too
pub call_longer : (m : Module) (types : List IrType) (fs : List Function) (more : IsLonger m.types types) (same : defined_functions (with_types m types fs) ≡ defined_functions m) (f : Function)
    → (x : Call) → IsCall m f x → IsCall (with_types m types fs) f x
call_longer m types fs more same f x h = (
  returned_again m types fs more same f x.returned h.0,
  subst (λ (names : List Text). IsIn (name_at m.symbols x.callee) (declared_functions m ++ names)) (sym same) h.1,
  all_so (IsArgument m f) (IsArgument (with_types m types fs) f) x.arguments (argument_again m types fs more same f) h.2,
)
