-- The body of a block, as it is read.
use Rattle.std.proofs.Common.{◌≡◌, ℕ, Bool, true, false, List, [], ◌∷◌, Option, None, Some, refl, sym, subst}
use Rattle.std.specs.List.{AllByRecursion}
use Rattle.grammar.specs.Grammar.{◌>>=◌}
use Rattle.ir_ast.specs.declared.function.Function.{Function}
use Rattle.ir_ast.specs.declared.instr.Instr.{Instr}
use Rattle.ir_ast.specs.declared.module.Module.{Module}
use Rattle.ir_ast.specs.declared.op.Op.{Op}
use Rattle.ir_ast.specs.declared.op.Op.TheVariants as op
use Rattle.ir_tokens.specs.declared.token.Kind.{Kind}
use Rattle.ir_tokens.specs.declared.token.Kind.TheVariants as k
use Rattle.ir_forms.specs.Calls.{valued, unnamed, typed_call, void_call, numbered_call, call_by, call_statement, tail_call_statement}
use Rattle.ir_forms.specs.Casts.{bitcast, freezes, freeze}
use Rattle.ir_forms.specs.Choices.{select}
use Rattle.ir_forms.specs.Cursor.{kind}
use Rattle.ir_forms.specs.Elements.{element}
use Rattle.ir_forms.specs.Input.{Form}
use Rattle.ir_forms.specs.Instructions.{wide_op_by, wide_op, named_op_by, named_op, named_after, instruction_by, instruction, placed, at_terminator, body}
use Rattle.ir_forms.specs.ManyWith.{Follows}
use Rattle.ir_forms.specs.Memory.{alloca, load, store}
use Rattle.ir_forms.specs.Numbers.{compare, integer_op}
use Rattle.ir_forms.specs.Ops.{as_op}
use Rattle.ir_forms.specs.Sites.{first_of, afterwards}
use Rattle.ir_forms.specs.declared.decorating.Spot.TheVariants as spot
use Rattle.ir_forms.specs.declared.input.Input.{Input}
use Rattle.ir_forms.specs.declared.site.Site.{Site}
use Rattle.ir_print_law.specs.Numbers.{IsNumberOp}
use Rattle.ir_print_law.specs.Elements.{IsElement}
use Rattle.ir_print_law.specs.Casts.{IsCast}
use Rattle.ir_print_law.specs.Choices.{IsChoice}
use Rattle.ir_print_law.specs.Printable.{IsOp, IsInstr, gives_value}
use Rattle.ir_print_law.proofs.Calls.{IsGivingCall, typed_call_keeps, call_keeps, tail_call_keeps, void_call_keeps}
use Rattle.ir_print_law.proofs.Casts.{bitcast_keeps, freeze_keeps}
use Rattle.ir_print_law.proofs.Choices.{select_keeps}
use Rattle.ir_print_law.proofs.Decorations.{decorations_pass}
use Rattle.ir_print_law.proofs.Records.{trailed_keeps}
use Rattle.ir_print_law.proofs.Elements.{element_keeps}
use Rattle.ir_print_law.proofs.Forms.{Keeps, Same, wrapped}
use Rattle.ir_print_law.proofs.Memory.{IsGivingMemory, alloca_keeps, load_keeps, store_keeps}
use Rattle.ir_print_law.proofs.Numbers.{compare_keeps, integer_op_keeps}
use Rattle.ir_print_law.proofs.Floats.{float_op_keeps, float_word_wide}
use Rattle.ir_forms.specs.FloatOps.{float_word_here, number_op, number_op_by, float_op, as_number}
use Rattle.ir_forms.specs.declared.float_ops.FloatWord.{FloatWord}
use Rattle.ir_ast.specs.declared.numbers.NumberOp.TheVariants as number
use Rattle.ir_print_law.proofs.Passes.{skip_passes, expect_passes}
use Rattle.ir_print_law.proofs.Reading.{Progress, with_named_value, Builder, within_of, naming_of}

-- an operation that gives a value, or none
abbrev IsGiving : Module → Function → (gives : Bool) → Op → Type 0
IsGiving m f gives x = IsOp m f x × (gives_value m x ≡ gives)

-- what is defined after the value of an instruction
abbrev pub with_result : Progress → Option ℕ → Progress
with_result g None = g
with_result g (Some value) = with_named_value g value

-- the same after several instructions
abbrev pub with_results : Progress → List Instr → Progress
with_results g [] = g
with_results g (x ∷ xs) = with_results (with_result g x.result) xs

module _ {m : Module} {f : Function} {Back : Input → Type 0} {Fore : Progress → Input → Type 0} {Open : Progress → ℕ → Input → Type 0} (b : Builder m f Back Fore Open) where
  abbrev Names : (g : Progress) (n : ℕ) → Form Op → Type 0
  Names g n form = (i : Input) → Keeps (Open g n) (λ _. Fore (with_named_value g n)) Back form (IsGiving m f true) i

  -- an operation of a family that always gives a value
  of_family : {A : Type 0} (g : Progress) (n : ℕ) (Good : A → Type 0) (wrap : A → Op) (form : Form A) → ((x : A) → Good x → IsGiving m f true (wrap x))
      → ((i : Input) → Keeps (Open g n) (λ _. Fore (with_named_value g n)) Back form Good i) → Names g n (as_op wrap form)
  of_family g n Good wrap form good on i = wrapped Back (Open g n) (Fore (with_named_value g n)) Good (IsGiving m f true) wrap form i good (on i)

  -- an operation on floating point numbers, where it is named
  number_op_keeps : (g : Progress) (n : ℕ) → Names g n (number_op n)
  unfolding number_op
  number_op_keeps g n i = by (float_word_here i) refl where
    by : (x : Option FloatWord) → float_word_here i ≡ x → Keeps (Open g n) (λ _. Fore (with_named_value g n)) Back (number_op_by n x) (IsGiving m f true) i
    by None e = of_family g n (IsNumberOp m f) op.Number (integer_op n) (λ x h. (h, refl)) (integer_op_keeps (naming_of b g n)) i
    by (Some x) e = wrapped Back (Open g n) (Fore (with_named_value g n)) (λ y. IsNumberOp m f (number.Float y)) (IsGiving m f true) as_number (float_op n x) i (λ y h. (h, refl)) (float_op_keeps (naming_of b g n) i x (float_word_wide i x e))

  wide_op_by_keeps : (g : Progress) (n : ℕ) (x : Bool) → Names g n (wide_op_by n x)
  wide_op_by_keeps g n true = of_family g n (IsCast m f) op.Cast (freeze n) (λ x h. (h, refl)) (freeze_keeps (naming_of b g n))
  wide_op_by_keeps g n false = number_op_keeps g n

  wide_op_keeps : (g : Progress) (n : ℕ) → Names g n (wide_op n)
  unfolding wide_op
  wide_op_keeps g n i = wide_op_by_keeps g n (freezes i) i

  named_op_by_keeps : (g : Progress) (n : ℕ) (site : Site) (x : Kind) → Names g n (named_op_by site n x)
  named_op_by_keeps g n site k.Alloca = of_family g n (IsGivingMemory m f true) op.Memory (alloca n) (λ x h. h) (alloca_keeps (naming_of b g n))
  named_op_by_keeps g n site k.Bitcast = of_family g n (IsCast m f) op.Cast (bitcast n) (λ x h. (h, refl)) (bitcast_keeps (naming_of b g n))
  named_op_by_keeps g n site k.Load = of_family g n (IsGivingMemory m f true) op.Memory (load n) (λ x h. h) (load_keeps (naming_of b g n))
  named_op_by_keeps g n site k.Getelementptr = of_family g n (IsElement m f) op.Element (element site n) (λ x h. (h, refl)) (element_keeps (naming_of b g n) site)
  named_op_by_keeps g n site k.Icmp = of_family g n (IsNumberOp m f) op.Number (compare n) (λ x h. (h, refl)) (compare_keeps (naming_of b g n))
  named_op_by_keeps g n site k.Select = of_family g n (IsChoice m f) op.Choice (select n) (λ x h. (h, refl)) (select_keeps (naming_of b g n))
  named_op_by_keeps g n site k.Call = call_keeps (naming_of b g n)
  named_op_by_keeps g n site k.Tail = tail_call_keeps (naming_of b g n)
  named_op_by_keeps g n site k.Notail = tail_call_keeps (naming_of b g n)
  named_op_by_keeps g n site k.LeftOut = wide_op_keeps g n
  named_op_by_keeps g n site _ = of_family g n (IsNumberOp m f) op.Number (integer_op n) (λ x h. (h, refl)) (integer_op_keeps (naming_of b g n))

  named_op_keeps : (g : Progress) (n : ℕ) (site : Site) → Names g n (named_op site n)
  unfolding named_op
  named_op_keeps g n site i = named_op_by_keeps g n site (kind i.cursor) i

  -- what this form reads is an instruction, and after it its value is defined
  abbrev Instructs : Progress → Form Instr → Input → Type 0
  Instructs g form i = Keeps (Fore g) (λ x. Fore (with_result g x.result)) Back form (IsInstr m f) i

  -- an operation with this value, and the decorations after it
  valued_keeps : (g : Progress) (n : ℕ) (x : Op) (i : Input) (y : Instr) (o : Input) → (valued n x).says i y o → Fore (with_named_value g n) i
      → Fore (with_result g y.result) o × (Back o → Back i × (IsGiving m f true x → IsInstr m f y))
  valued_keeps g n x i y o h fore =
      let a = trailed_keeps (within_of (b.kit (with_named_value g n))).reading x i h.0 h.1 h.2 fore in (
        subst (λ (z : Instr). Fore (with_result g z.result) o) h.3.0 (subst (Fore (with_named_value g n)) h.3.1 a.0),
        λ back.
            let ab = a.1 (subst Back (sym h.3.1) back) in
            (ab.0, λ is. let same = subst (IsGiving m f true) ab.1 is in subst (IsInstr m f) h.3.0 (same.0, sym same.1)),
      )

  -- an operation without a value, and the decorations after it
  unnamed_keeps : (g : Progress) (x : Op) (i : Input) (y : Instr) (o : Input) → (unnamed x).says i y o → Fore g i
      → Fore (with_result g y.result) o × (Back o → Back i × (IsGiving m f false x → IsInstr m f y))
  unnamed_keeps g x i y o h fore =
      let a = trailed_keeps (within_of (b.kit g)).reading x i h.0 h.1 h.2 fore in (
        subst (λ (z : Instr). Fore (with_result g z.result) o) h.3.0 (subst (Fore g) h.3.1 a.0),
        λ back.
            let ab = a.1 (subst Back (sym h.3.1) back) in
            (ab.0, λ is. let same = subst (IsGiving m f false) ab.1 is in subst (IsInstr m f) h.3.0 (same.0, sym same.1)),
      )

  -- one without a value, by its family
  plain_keeps : {A : Type 0} (g : Progress) (Good : A → Type 0) (wrap : A → Op) (form : Form A) → ((x : A) → Good x → IsGiving m f false (wrap x))
      → ((i : Input) → Keeps (Fore g) (Same (Fore g)) Back form Good i) → (i : Input) → Instructs g (as_op wrap form >>= unnamed) i
  plain_keeps g Good wrap form good on i y o h fore =
      let a = wrapped Back (Fore g) (Fore g) Good (IsGiving m f false) wrap form i good (on i) h.0 h.1 h.2 fore in
      let d = unnamed_keeps g h.0 h.1 y o h.3 a.0 in
      (d.0, λ back. let db = d.1 back in let ab = a.1 db.0 in (ab.0, db.1 ab.1))

  named_after_keeps : (g : Progress) (n : ℕ) (site : Site) (i : Input) (y : Instr) (o : Input) → (named_after site n).says i y o → Open g n i
      → Fore (with_result g y.result) o × (Back o → Back i × IsInstr m f y)
  named_after_keeps g n site i y o h fore =
      let t = h.3 in
      let a = expect_passes (within_of (b.open_kit g n)).reading k.Equals i h.0 h.1 h.2 fore in
      let c = named_op_keeps g n site h.1 t.0 t.1 t.2 a.0 in
      let d = valued_keeps g n t.0 t.1 y o t.3 c.0 in (
        d.0,
        λ back.
            let db = d.1 back in
            let cb = c.1 db.0 in
            ((a.1 cb.0).0, db.1 cb.1),
      )

  numbered_call_keeps : (g : Progress) (i : Input) → Instructs g numbered_call i
  unfolding numbered_call
  numbered_call_keeps g i y o h fore =
      let t = h.3 in
      let a = b.unnamed g i h.0 h.1 h.2 fore in
      let c = of_family g h.0 (IsGivingCall m f true) op.Call (typed_call h.0) (λ x h. h) (typed_call_keeps (naming_of b g h.0)) h.1 t.0 t.1 t.2 a.0 in
      let d = valued_keeps g h.0 t.0 t.1 y o t.3 c.0 in (
        d.0,
        λ back.
            let db = d.1 back in
            let cb = c.1 db.0 in
            ((a.1 cb.0).0, db.1 cb.1),
      )

  call_by_keeps : (g : Progress) (x : Kind) (i : Input) → Instructs g (call_by x) i
  call_by_keeps g k.Void = plain_keeps g (IsGivingCall m f false) op.Call void_call (λ x h. h) (void_call_keeps (within_of (b.kit g)))
  call_by_keeps g _ = numbered_call_keeps g

  call_statement_keeps : (g : Progress) (i : Input) → Instructs g call_statement i
  unfolding call_statement
  call_statement_keeps g i y o h fore =
      let r = (within_of (b.kit g)).reading in
      let t = h.3 in
      let a = skip_passes r i h.0 h.1 h.2 fore in
      let c = decorations_pass r spot.Result h.1 t.0 t.1 t.2 a.0 in
      let d = call_by_keeps g (kind t.1.cursor) t.1 y o t.3 c.0 in
      (d.0, λ back. let db = d.1 back in let cb = c.1 db.0 in ((a.1 cb.0).0, db.1))

  tail_statement_keeps : (g : Progress) (i : Input) → Instructs g tail_call_statement i
  unfolding tail_call_statement
  tail_statement_keeps g i y o h fore =
      let r = (within_of (b.kit g)).reading in
      let t = h.2 in
      let a = skip_passes r i t.0 t.1 t.2 fore in
      let same = t.3.1 in
      let d = call_statement_keeps g h.1 y o h.3 (subst (Fore g) same a.0) in
      (d.0, λ back. let db = d.1 back in ((a.1 (subst Back (sym same) db.0)).0, db.1))

  instruction_by_keeps : (g : Progress) (site : Site) (x : Kind) (i : Input) → kind i.cursor ≡ x → Instructs g (instruction_by site x) i
  instruction_by_keeps g site k.LocalName i is = λ y o h fore.
      let a = b.named g i is h.0 h.1 h.2 fore in
      let d = named_after_keeps g h.0 site h.1 y o h.3 a.0 in
      (d.0, λ back. let db = d.1 back in ((a.1 db.0).0, db.1))
  instruction_by_keeps g site k.LocalNumber i is = λ y o h fore.
      let a = b.numbered g i is h.0 h.1 h.2 fore in
      let d = named_after_keeps g h.0 site h.1 y o h.3 a.0 in
      (d.0, λ back. let db = d.1 back in ((a.1 db.0).0, db.1))
  instruction_by_keeps g site k.Call i is = call_statement_keeps g i
  instruction_by_keeps g site k.Tail i is = tail_statement_keeps g i
  instruction_by_keeps g site k.Notail i is = tail_statement_keeps g i
  instruction_by_keeps g site k.Store i is = plain_keeps g (IsGivingMemory m f false) op.Memory store (λ x h. h) (store_keeps (within_of (b.kit g))) i
  instruction_by_keeps g site _ i is = λ y o h f. absurd h

  placed_keeps : (g : Progress) (site : Site) (i : Input) → Instructs g (placed site) i
  unfolding instruction
  placed_keeps g site i y o h fore =
      let same = h.2.1 in
      let d = instruction_by_keeps g site (kind h.1.cursor) h.1 refl y o h.3 (subst (Fore g) same fore) in
      (d.0, λ back. let db = d.1 back in (subst Back (sym same) db.0, db.1))

  -- ---- the body of a block

  instructions_from : (g : Progress) (site : Site) (i : Input) (xs : List Instr) (o : Input) → Follows at_terminator (λ c. (placed c).says) afterwards site i xs o → Fore g i
      → Fore (with_results g xs) o × (Back o → Back i × AllByRecursion (IsInstr m f) xs)
  instructions_from g site i [] o h fore = (subst (Fore g) h.1 fore, λ back. (subst Back (sym h.1) back, tt))
  instructions_from g site i (x ∷ xs) o h fore =
      let a = placed_keeps g site i x h.1 h.2 fore in
      let c = instructions_from (with_result g x.result) (afterwards site x) h.1 xs o h.3 a.0 in
      (c.0, λ back. let cb = c.1 back in let ab = a.1 cb.0 in (ab.0, (ab.1, cb.1)))

  pub body_keeps : (number : ℕ) (g : Progress) (i : Input) → Keeps (Fore g) (λ xs. Fore (with_results g xs)) Back (body number) (AllByRecursion (IsInstr m f)) i
  unfolding body
  body_keeps number g i xs o h fore = instructions_from g (first_of number) i xs o h fore
