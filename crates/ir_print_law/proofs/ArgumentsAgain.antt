-- Printed lists of arguments are read as these lists again.
use Rattle.std.proofs.Common.{◌≡◌, ℕ, Bool, true, false, not, List, [], ◌∷◌, ◌++◌, refl, ap, subst, ◌∙◌, arith, append_assoc}
use Rattle.std.specs.Prelude.{codes}
use Rattle.grammar.specs.Grammar.{pure, ◌>>=◌, ◌>>◌}
use Rattle.ir_ast.specs.declared.function.Function.{Function}
use Rattle.ir_ast.specs.declared.module.Module.{Module}
use Rattle.ir_ast.specs.declared.argument.Argument.{Argument}
use Rattle.ir_ast.specs.declared.operand.Operand.{Operand}
use Rattle.ir_tokens.specs.declared.token.Kind.{Kind}
use Rattle.ir_tokens.specs.declared.token.Kind.TheVariants as k
use Rattle.ir_tokens.specs.Bytes.{Text, class_of}
use Rattle.ir_forms.specs.Cursor.{kind, sees}
use Rattle.ir_forms.specs.declared.input.Input.{Input}
use Rattle.ir_forms.specs.declared.written.WrittenType.{WrittenType}
use Rattle.ir_forms.specs.Input.{Form, advanced, expect}
use Rattle.ir_forms.specs.Operand as form
use Rattle.ir_forms.specs.Written as w
use Rattle.ir_forms.specs.Decorations.{either}
use Rattle.ir_forms.specs.Lists as lists
use Rattle.ir_print.specs.Operands.{operand_text, argument_text}
use Rattle.ir_print_law.specs.Stands.{Stands, IsSeam, AreBlanks}
use Rattle.ir_print_law.specs.PartsAgain.{AreAlike, IsArgumentAgain}
use Rattle.ir_print_law.specs.Parts.{IsArgument}
use Rattle.ir_print_law.proofs.State.{Invariant, Ready, Reads, Any}
use Rattle.ir_print_law.proofs.Shown.{shown, IsTypeRead}
use Rattle.ir_print_law.proofs.Steps.{so, looked, given, sign_reads, unlike, grows_itself, grows_further, later_before}
use Rattle.ir_print_law.proofs.Types.{EndsType, Comes, ends_type}
use Rattle.ir_print_law.proofs.WholeTypes.{type_begins}
use Rattle.ir_print_law.proofs.PrintedTypes.{type_shown, read_again, scalar_reads}
use Rattle.ir_print_law.proofs.OperandsAgain.{OperandAgain, ends_operand}
use Rattle.ir_print_law.proofs.Parts.{IsLaterAgain, ArgumentAgain, operand_at}
use Rattle.ir_print_law.proofs.Setting.{on, said_on}
use Rattle.std.specs.List.{flat_map, AllByRecursion}
use Rattle.ir_forms.specs.Cursor.{begins_line}
use Rattle.ir_forms.specs.Decorations.{decorations, begins_decoration}
use Rattle.ir_forms.specs.declared.decorating.Spot.{Spot}
use Rattle.ir_forms.specs.declared.decorating.Spot.TheVariants as spot
use Rattle.ir_forms.specs.Input.{unexpected}
use Rattle.ir_print.specs.Operands.{listed}
use Rattle.ir_print_law.proofs.Undropped.{Undropped}
use Rattle.ir_print_law.proofs.Words.{seen}
use Rattle.ir_print_law.proofs.Steps.{sign_kind, test_reads}
use Rattle.ir_print_law.proofs.OperandsAgain.{begins_operand, operand_begins}

-- ---- what follows an instruction

-- a token of this kind may come next after an instruction
abbrev pub ends_line : Kind → Bool
ends_line k.LocalName = true
ends_line k.LocalNumber = true
ends_line k.Store = true
ends_line k.Call = true
ends_line k.Ret = true
ends_line k.Br = true
ends_line k.Switch = true
ends_line k.Unreachable = true
ends_line k.LabelName = true
ends_line k.LabelNumber = true
ends_line k.CloseBrace = true
ends_line _ = false

-- such a token comes next, and begins no call that is dropped
abbrev pub EndsLine : Text → Type 0
EndsLine rest = IsSeam rest × Comes ends_line rest × Undropped rest

-- such a token ends a type
type_ended : (x : Kind) → ends_line x ≡ true → ends_type x ≡ true
type_ended k.Star e = absurd cc
type_ended k.OpenRound e = absurd cc
type_ended _ e = refl

-- the end of a line ends a type
pub line_ends_type : (rest : Text) → EndsLine rest → EndsType rest
line_ends_type rest ends = (ends.0, λ i at. type_ended (kind i.cursor) (ends.1 i at))

-- ---- no decorations

-- no decoration of a call comes at the end of a line
pub undecorated_line : (first : Bool) (x : Kind) → ends_line x ≡ true → begins_decoration spot.Call first x ≡ false
undecorated_line first k.LowercaseWord e = absurd cc
undecorated_line first k.Align e = absurd cc
undecorated_line first k.External e = absurd cc
undecorated_line first k.ExternWeak e = absurd cc
undecorated_line first k.Comdat e = absurd cc
undecorated_line first k.AttributeGroup e = absurd cc
undecorated_line first k.MetadataName e = absurd cc
undecorated_line first _ e = refl

-- an operand is no decoration
pub undecorated_operand : (first : Bool) (x : Kind) → begins_operand x ≡ true → begins_decoration spot.Argument first x ≡ false
undecorated_operand first k.LowercaseWord e = absurd cc
undecorated_operand first k.Align e = absurd cc
undecorated_operand first k.External e = absurd cc
undecorated_operand first k.ExternWeak e = absurd cc
undecorated_operand first k.Comdat e = absurd cc
undecorated_operand first k.AttributeGroup e = absurd cc
undecorated_operand first k.MetadataName e = absurd cc
undecorated_operand first _ e = refl

-- a type is no decoration
pub undecorated_type : (first : Bool) (x : Kind) → w.begins_type x ≡ true → begins_decoration spot.Result first x ≡ false
undecorated_type first k.LowercaseWord e = absurd cc
undecorated_type first k.Align e = absurd cc
undecorated_type first k.External e = absurd cc
undecorated_type first k.ExternWeak e = absurd cc
undecorated_type first k.Comdat e = absurd cc
undecorated_type first k.AttributeGroup e = absurd cc
undecorated_type first k.MetadataName e = absurd cc
undecorated_type first _ e = refl

-- there are no decorations
pub decorations_said : (s : Spot) (i : Input) → begins_decoration s (begins_line i.cursor) (kind i.cursor) ≡ false → (decorations s).says i tt i
unfolding decorations
decorations_said s i e = ([], i, (ap not e, refl), (refl, refl))

-- a token of this kind closes no bracket
abbrev no_close : Kind → Bool
no_close k.CloseRound = false
no_close _ = true

-- arguments are these again, in each module later on
abbrev pub AllArgumentsAgain : Module → (locals : List Text) → List Argument → List Argument → Input → Type 0
AllArgumentsAgain m locals = IsLaterAgain (λ n others. AreAlike (IsArgumentAgain m n locals others))

module _ {m : Module} {f : Function} (v : Invariant m f) where
  -- ---- arguments

  -- further arguments, each after a comma
  abbrev further : List Argument → Text
  further xs = flat_map (λ x. codes ", " ++ argument_text m f.locals x) xs

  -- a token ends before them
  seam_further : (xs : List Argument) (rest : Text) → IsSeam (further xs ++ 41 ∷ rest)
  unfolding class_of
  seam_further [] rest = refl
  seam_further (x ∷ xs) rest = refl

  -- the parts of an argument, and what follows it
  argument_front : (x : Argument) (afterwards : Text) → IsArgument m f x → (own : IsArgument m f x)
      → argument_text m f.locals x ++ afterwards ≡ shown false own.0 ++ (32 ∷ (operand_text m f.locals x.written x.operand ++ afterwards))
  argument_front x afterwards a own = ap (λ (y : Text). (y ++ 32 ∷ operand_text m f.locals x.written x.operand) ++ afterwards) (type_shown m own.0 x.written own.1.0.0 own.1.0.1)
      ∙ append_assoc (shown false own.0) (32 ∷ operand_text m f.locals x.written x.operand) afterwards

  -- an argument begins with a type
  argument_begins : (x : Argument) (i : Input) (gap afterwards : Text) (s : ℕ) → IsArgument m f x → AreBlanks gap → IsSeam afterwards → Ready v s i (gap ++ (argument_text m f.locals x ++ afterwards)) → w.begins_type (kind i.cursor) ≡ true
  unfolding class_of
  argument_begins x i gap afterwards s own blanks seam ready =
      type_begins v own.0 i gap (32 ∷ (operand_text m f.locals x.written x.operand ++ afterwards)) own.1.0.2 blanks refl (subst (λ (y : Text). Stands i.cursor (gap ++ y)) (argument_front x afterwards own own) ready.stands)

  -- the text after the comma before further arguments, or the end of the list
  abbrev after_comma : List Argument → Text → Text
  after_comma [] rest = 41 ∷ rest
  after_comma (x ∷ xs) rest = 32 ∷ (argument_text m f.locals x ++ (further xs ++ 41 ∷ rest))

  -- what follows an argument: the end of the list, or a comma and a further argument
  separator_reads : (xs : List Argument) (i : Input) (rest : Text) (s : ℕ) → AllByRecursion (IsArgument m f) xs → Ready v s i (further xs ++ 41 ∷ rest)
      → Reads v s (lists.separator k.CloseRound) i (after_comma xs rest) Any
  unfolding lists.separator class_of
  separator_reads [] i rest s own ready =
      looked v (λ i. sees k.CloseRound i.cursor) (either (pure tt) (lists.comma k.CloseRound)) i (41 ∷ rest) s Any true (seen k.CloseRound i (sign_kind v 41 k.CloseRound i [] rest s refl refl refl ready))
      (given v tt i (41 ∷ rest) s Any ready tt)
  separator_reads (x ∷ xs) i rest s own ready =
      let afterwards = argument_text m f.locals x ++ (further xs ++ 41 ∷ rest) in
      let ready = subst (λ (y : Text). Ready v s i y) (append_assoc (codes ", " ++ argument_text m f.locals x) (further xs) (41 ∷ rest) ∙ append_assoc (codes ", ") (argument_text m f.locals x) (further xs ++ 41 ∷ rest)) ready in
      looked v (λ i. sees k.CloseRound i.cursor) (either (pure tt) (lists.comma k.CloseRound)) i (32 ∷ afterwards) s Any false
      (unlike k.CloseRound no_close i refl (ap no_close (sign_kind v 44 k.Comma i [] (32 ∷ afterwards) s refl refl refl ready)))
      (on v v (expect k.Comma) (λ _. lists.sees_no k.CloseRound) i (32 ∷ afterwards) (32 ∷ afterwards) s s (λ _ o. advanced i ≡ o) Any
      (sign_reads v 44 k.Comma i [] (32 ∷ afterwards) s s refl refl refl (omega arith) ready)
      (λ _ o ready g e. so v (lists.sees_no k.CloseRound) o (32 ∷ afterwards) s (λ _ p. o ≡ p) Any
      (test_reads v (λ i. not (sees k.CloseRound i.cursor)) unexpected o (32 ∷ afterwards) s
      (ap not (unlike k.CloseRound w.begins_type o refl (argument_begins x o (32 ∷ []) (further xs ++ 41 ∷ rest) s own.0 refl (seam_further xs rest) ready))) ready)
      (λ _ p g e. tt)))

  -- an argument is read, up to the one after it
  argument_reads : (x : Argument) (xs : List Argument) (i : Input) (gap rest : Text) (s : ℕ) → IsArgument m f x → AllByRecursion (IsArgument m f) xs → AreBlanks gap
      → Ready v s i (gap ++ (argument_text m f.locals x ++ (further xs ++ 41 ∷ rest))) → Reads v s lists.argument i (after_comma xs rest) (ArgumentAgain m f.locals x)
  unfolding lists.argument class_of
  argument_reads x xs i gap rest s own more blanks ready =
      let shape = own.0 in
      let scalar = own.1 in
      let type_is = type_shown m shape x.written scalar.0.0 scalar.0.1 in
      let good = ArgumentAgain m f.locals x in
      let end = after_comma xs rest in
      let t2 = further xs ++ 41 ∷ rest in
      let text = operand_text m f.locals x.written x.operand in
      let ready = subst (λ (y : Text). Ready v s i (gap ++ y)) (argument_front x (further xs ++ 41 ∷ rest) own own) ready in
      on v v w.scalar lists.argument_of i (32 ∷ (operand_text m f.locals x.written x.operand ++ t2)) end s s (IsTypeRead shape 64) good
      (scalar_reads v shape i gap (32 ∷ (operand_text m f.locals x.written x.operand ++ t2)) s scalar.0.2 scalar.0.1 scalar.1 blanks (ends_operand v shape x.written x.operand t2 scalar.0.0 own.2 (seam_further xs rest)) ready)
      (λ p o ready g read.
      let begins = operand_begins v shape x.written x.operand t2 scalar.0.0 own.2 (seam_further xs rest) o ready.stands in
      said_on v (decorations spot.Argument) (λ _. operand_form p) o tt end s good (decorations_said spot.Argument o (undecorated_operand (begins_line o.cursor) (kind o.cursor) begins))
      (on v v (form.operand (w.word_of p)) (separator_form p) o t2 end s s (OperandAgain m f.locals x.operand) good
      (operand_at v shape x.written x.operand p o o (32 ∷ []) t2 s read scalar.0.0 own.2 refl (seam_further xs rest) ready)
      (λ y q ready h again.
      on v v (lists.separator k.CloseRound) (λ _. pure (record { written = p.id; operand = y })) q end end s s Any good
      (separator_reads xs q rest s more ready)
      (λ _ r ready hh e. given v (record { written = p.id; operand = y }) r end s good ready
      (λ n others later.
      let laterq = later_before q r n others hh later in
      (read_again m shape x.written p.id o n others scalar.0.0 read.has_shape (later_before o q n others h laterq), again n others laterq))))))
    where
      separator_form : WrittenType → Operand → Form Argument
      separator_form p y = lists.separator k.CloseRound >> pure (record { written = p.id; operand = y })

      operand_form : WrittenType → Form Argument
      operand_form p = form.operand (w.word_of p) >>= separator_form p

  -- the arguments after a comma, up to the end of the list
  arguments_after : (xs : List Argument) (i : Input) (rest : Text) (s : ℕ) → AllByRecursion (IsArgument m f) xs → Ready v s i (after_comma xs rest)
      → Reads v s lists.arguments i (41 ∷ rest) (AllArgumentsAgain m f.locals xs)
  unfolding lists.arguments class_of
  arguments_after [] i rest s own ready =
      ([], i, (seen k.CloseRound i (sign_kind v 41 k.CloseRound i [] rest s refl refl refl ready), refl), ready, grows_itself i, λ n others later. tt)
  arguments_after (x ∷ xs) i rest s own ready =
      let opens = unlike k.CloseRound w.begins_type i refl (argument_begins x i (32 ∷ []) (further xs ++ 41 ∷ rest) s own.0 refl (seam_further xs rest) ready) in
      let a = argument_reads x xs i (32 ∷ []) rest s own.0 own.1 refl ready in
      let b = arguments_after xs a.1 rest s own.1 a.3 in (
        a.0 ∷ b.0,
        b.1,
        (opens, a.1, a.2, b.2),
        b.3,
        grows_further i a.1 b.1 a.4 b.4,
        λ n others later. (a.5 n others (later_before a.1 b.1 n others b.4 later), b.5 n others later),
      )

  -- the arguments of a call
  pub arguments_read : (xs : List Argument) (i : Input) (rest : Text) (s : ℕ) → AllByRecursion (IsArgument m f) xs → Ready v s i (listed (argument_text m f.locals) xs ++ 41 ∷ rest)
      → Reads v s lists.arguments i (41 ∷ rest) (AllArgumentsAgain m f.locals xs)
  unfolding lists.arguments class_of
  arguments_read [] i rest s own ready =
      ([], i, (seen k.CloseRound i (sign_kind v 41 k.CloseRound i [] rest s refl refl refl ready), refl), ready, grows_itself i, λ n others later. tt)
  arguments_read (x ∷ xs) i rest s own ready =
      let ready = subst (λ (y : Text). Ready v s i y) (append_assoc (argument_text m f.locals x) (further xs) (41 ∷ rest)) ready in
      let opens = unlike k.CloseRound w.begins_type i refl (argument_begins x i [] (further xs ++ 41 ∷ rest) s own.0 refl (seam_further xs rest) ready) in
      let a = argument_reads x xs i [] rest s own.0 own.1 refl ready in
      let b = arguments_after xs a.1 rest s own.1 a.3 in (
        a.0 ∷ b.0,
        b.1,
        (opens, a.1, a.2, b.2),
        b.3,
        grows_further i a.1 b.1 a.4 b.4,
        λ n others later. (a.5 n others (later_before a.1 b.1 n others b.4 later), b.5 n others later),
      )
