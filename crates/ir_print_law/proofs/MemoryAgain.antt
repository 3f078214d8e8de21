-- Printed operations on memory are read as these operations again; and their numbers are within the tables.
use Rattle.std.proofs.Common.{◌≡◌, ◌≤◌, ℕ, Bool, false, List, [], ◌∷◌, ◌++◌, length, Option, None, Some, refl, sym, subst, arith, append_assoc, ap, ◌∙◌, true, inl, inr}
use Rattle.std.specs.Prelude.{◌&&◌, if◌then◌else◌, codes}
use Rattle.grammar.specs.Grammar.{pure, checked, look, ◌>>=◌, ◌>>◌}
use Rattle.ir_ast.specs.declared.argument.Argument.{Argument}
use Rattle.ir_ast.specs.declared.function.Function.{Function}
use Rattle.ir_ast.specs.declared.function.LocalSort.TheVariants as local
use Rattle.ir_ast.specs.declared.memory.MemoryOp.{MemoryOp}
use Rattle.ir_ast.specs.declared.memory.MemoryOp.TheVariants as memory
use Rattle.ir_ast.specs.declared.module.Module.{Module}
use Rattle.ir_ast.specs.declared.operand.Operand.{Operand}
use Rattle.ir_tokens.specs.declared.token.Kind.{Kind}
use Rattle.ir_tokens.specs.declared.token.Kind.TheVariants as k
use Rattle.ir_tokens.specs.Bytes.{Text, class_of}
use Rattle.ir_tokens.specs.Keywords.{word_kind, keywords}
use Rattle.ir_forms.specs.Cursor.{sees, kind, kind_after, next, same_kind}
use Rattle.ir_forms.specs.declared.input.Input.{Input}
use Rattle.ir_forms.specs.declared.written.WrittenType.{WrittenType}
use Rattle.ir_forms.specs.Input.{Form, unexpected, advanced, skip, expect}
use Rattle.ir_forms.specs.Names.{set_type, set_slot}
use Rattle.ir_forms.specs.Operand as form
use Rattle.ir_forms.specs.Written as w
use Rattle.ir_forms.specs.Written.{has_opaque}
use Rattle.ir_forms.specs.Decorations.{optional, either}
use Rattle.ir_forms.specs.Memory as forms
use Rattle.ir_print.specs.Memory.{count_text, memory_op_text}
use Rattle.ir_print.specs.Operands.{operand_text, typed_text, argument_text}
use Rattle.ir_print.specs.Parts.{typed, placed_text}
use Rattle.ir_print_law.specs.Stands.{IsSeam, AreBlanks, Stands}
use Rattle.ir_print.specs.Types.{type_text}
use Rattle.ir_print_law.specs.Memory.{IsCount, IsCountAgain, IsMemoryOpAgain, IsMemoryOp, IsMemoryOpWithin, memory_gives_value}
use Rattle.ir_print_law.specs.ModuleNames.{HasModuleNames}
use Rattle.ir_print_law.specs.Parts.{IsType, IsScalar, IsOperand, IsPlaceType}
use Rattle.ir_print_law.specs.Shapes.{Shape, Integer, Pointer, Opaque, HasShape, IsWritten, is_scalar_shape, levels}
use Rattle.ir_print_law.proofs.DefinedWithin.{AreDefinedWithin}
use Rattle.ir_print_law.proofs.PartsLonger.{MeansAsMuch, type_longer, operand_longer}
use Rattle.ir_print_law.proofs.PartsWithin.{Wide, place_type_within, type_within, operand_within}
use Rattle.ir_print_law.proofs.State.{Invariant, Ready, Reads}
use Rattle.ir_print_law.proofs.Shown.{shown, IsTypeRead, read_stays, bits_read, scalar_read}
use Rattle.ir_print_law.proofs.Steps.{go_on, given, checked_then, looked, sign_kind, sign_reads, word_skipped, unlike, grows_further, later_before}
use Rattle.ir_print_law.proofs.Types.{EndsType}
use Rattle.ir_print_law.proofs.WholeTypes.{type_begins}
use Rattle.ir_print_law.proofs.PrintedTypes.{type_shown, read_again, any_type_reads, scalar_reads}
use Rattle.ir_print_law.proofs.OperandsAgain.{OperandAgain, operand_reads, ends_operand}
use Rattle.ir_print_law.proofs.AgainTypes.{pointer_again_reads, opaque_again_reads}
use Rattle.ir_print_law.proofs.Parts.{ends_comma, IsLaterAgain, ArgumentAgain, Sets, operand_at, typed_by, OpAgain}
use Rattle.ir_print_law.proofs.Setting.{on, said_on, set_reads}
use Rattle.ir_ast.specs.declared.op.Op.TheVariants as op
use Rattle.ir_print.specs.Instructions.{op_text}
use Rattle.ir_forms.specs.Place.{Place}
use Rattle.ir_print_law.proofs.Words.{seen, word_comes}
use Rattle.ir_forms.specs.declared.site.Site.{Site}
use Rattle.ir_forms.specs.Calls.{unnamed}
use Rattle.ir_forms.specs.Instructions as whole
use Rattle.ir_forms.specs.Ops.{as_op}
use Rattle.ir_forms.specs.declared.written.Word.TheVariants as sort
use Rattle.ir_print_law.proofs.ArgumentsAgain.{EndsLine, ends_line, line_ends_type}
use Rattle.ir_print_law.proofs.ListsAgain.{no_comma_seen}
use Rattle.ir_print_law.proofs.Constants.{integer_types_are_read}
use Rattle.ir_print_law.proofs.OpsAgain.{op_reads, by_word, PlainAgain, unnamed_reads, plain_by_word}
use Rattle.ir_print_law.proofs.SameParts.{argument_same, type_same, typed_same, placed_same}
use Rattle.ir_print_law.proofs.LongerTypes.{with_types, type_again, scalar_again, place_again, operand_again}
use Rattle.ir_ast.specs.declared.ir_type.IrType.{IrType}
use Rattle.ir_print_law.specs.Definitions.{defined_functions, defined_structs}
use Rattle.ir_print_law.proofs.OneKind.{IsLonger}
use Rattle.ir_print_law.specs.Shapes.{word_of_shape}
use Rattle.ir_print_law.specs.EqualParts.{same2}

-- an operation on memory is this one again, in each module later on
abbrev pub MemoryAgain : Module → (locals : List Text) → MemoryOp → MemoryOp → Input → Type 0
MemoryAgain m locals = IsLaterAgain (λ n others. IsMemoryOpAgain m n locals others)

-- a word that is not there
pub optional_said : (x : Kind) (i : Input) → sees x i.cursor ≡ false → (optional x).says i tt i
unfolding optional
optional_said x i e = subst (λ (t : Bool). (either skip (pure tt) t).says i tt i) (sym e) (refl, refl)

-- ---- what an alloca makes

-- the same forms after the type of an alloca
abbrev set_form : ℕ → WrittenType → MemoryOp → Form MemoryOp
set_form value p made = set_slot value p.id >> pure made

abbrev made_form : ℕ → WrittenType → Form MemoryOp
made_form value p = forms.local_of p >>= set_form value p

abbrev held_form : ℕ → Form MemoryOp
held_form value = look (λ i. i.wide) forms.held_by >>= made_form value

-- no count follows at the end of a line
no_count : (i : Input) → ends_line (kind i.cursor) ≡ true → forms.counts i ≡ false
unfolding forms.counts
no_count i e = by i.wide where
  by : (b : Bool) → (b && (sees k.Comma i.cursor && same_kind (kind_after i.cursor) k.IntegerType)) ≡ false
  by true = ap (λ (c : Bool). c && same_kind (kind_after i.cursor) k.IntegerType) (no_comma_seen i e)
  by false = refl

-- one follows where a comma comes, and then a type of integers
one_count : (i : Input) → i.wide ≡ true → kind i.cursor ≡ k.Comma → kind (advanced i).cursor ≡ k.IntegerType → forms.counts i ≡ true
unfolding forms.counts kind_after kind next same_kind
one_count i wide comma integer =
    ap (λ (b : Bool). b && (sees k.Comma i.cursor && same_kind (kind_after i.cursor) k.IntegerType)) wide
    ∙ ap (λ (b : Bool). b && same_kind (kind_after i.cursor) k.IntegerType) (seen k.Comma i comma)
    ∙ ap (λ (x : Kind). same_kind x k.IntegerType) integer

-- without a count a number or a pointer is a slot, and else a buffer
single_slot : (p : WrittenType) → w.is_scalar p ≡ true → forms.single p ≡ memory.Alloca p.id
single_slot p e = ap (λ (b : Bool). if b then memory.Alloca p.id else memory.Buffer p.id None) e

single_buffer : (p : WrittenType) → w.is_scalar p ≡ false → forms.single p ≡ memory.Buffer p.id None
single_buffer p e = ap (λ (b : Bool). if b then memory.Alloca p.id else memory.Buffer p.id None) e

-- it is made at the end of a line
single_said : (p : WrittenType) (i : Input) → ends_line (kind i.cursor) ≡ true → (forms.local_of p).says i (forms.single p) i
single_said p i e = subst (λ (b : Bool). (forms.local_by p b).says i (forms.single p) i) (sym (no_count i e)) (refl, refl)

module _ {m : Module} {f : Function} (v : Invariant m f) where
  -- the type of an alloca, with the wide forms or without
  held_reads : (shape : Shape) (i : Input) (gap rest : Text) (s : ℕ) → IsWritten m.wide (has_opaque m.types) (defined_structs m) shape → levels shape ≤ 64 → (m.wide ≡ false → is_scalar_shape shape ≡ true) → AreBlanks gap → EndsType rest
      → Ready v s i (gap ++ (shown false shape ++ rest)) → Reads v s (look (λ i. i.wide) forms.held_by) i rest (IsTypeRead shape 64)
  held_reads shape i gap rest s own le scalar blanks ends ready = looked v (λ (j : Input). j.wide) forms.held_by i rest s (IsTypeRead shape 64) m.wide ready.forms (by m.wide refl) where
    by : (b : Bool) → m.wide ≡ b → Reads v s (forms.held_by b) i rest (IsTypeRead shape 64)
    by true e = any_type_reads v shape i gap rest s own le blanks ends ready
    by false e = scalar_reads v shape i gap rest s own le (scalar e) blanks ends ready

  -- a type of integers
  count_type_reads : (bits t : ℕ) (i : Input) (gap rest : Text) (s : ℕ) → IsScalar m (Integer bits) t → AreBlanks gap → EndsType rest → Ready v s i (gap ++ (shown false (Integer bits) ++ rest)) → Reads v s forms.count_type i rest (IsTypeRead (Integer bits) 64)
  unfolding forms.count_type
  count_type_reads bits t i gap rest s own blanks ends ready =
      go_on v w.scalar (λ p. checked (λ _. forms.is_integer_word (w.word_of p)) unexpected >> pure p) i rest rest s s (IsTypeRead (Integer bits) 64) (IsTypeRead (Integer bits) 64)
      (scalar_reads v (Integer bits) i gap rest s own.0.2 own.0.1 own.1 blanks ends ready)
      (λ p o ready g read. checked_then v (λ _. forms.is_integer_word (w.word_of p)) unexpected (pure p) o rest s (IsTypeRead (Integer bits) 64)
      (ap forms.is_integer_word (bits_read (Integer bits) 64 p o read)) (given v p o rest s (IsTypeRead (Integer bits) 64) ready read))

  -- the count of a buffer's elements
  count_reads : (x : Argument) (bits : ℕ) (i : Input) (rest : Text) (s : ℕ) → IsScalar m (Integer bits) x.written → IsOperand m f (sort.Integer bits) x.operand → IsSeam rest → m.wide ≡ true
      → Ready v s i (codes ", " ++ (argument_text m f.locals x ++ rest)) → (forms.counts i ≡ true) × Reads v s forms.count i rest (ArgumentAgain m f.locals x)
  unfolding forms.count forms.counted_by class_of
  count_reads x bits i rest s own is_operand seam wide ready =
      let comma = sign_kind v 44 k.Comma i [] (32 ∷ (argument_text m f.locals x ++ rest)) s refl refl refl ready in
      let a = sign_reads v 44 k.Comma i [] (32 ∷ (argument_text m f.locals x ++ rest)) s s refl refl refl (omega arith) ready in
      let front = ap (λ (y : Text). (y ++ 32 ∷ operand_text m f.locals x.written x.operand) ++ rest) (type_shown m (Integer bits) x.written own.0.0 own.0.1)
      ∙ append_assoc (shown false (Integer bits)) (32 ∷ operand_text m f.locals x.written x.operand) rest in
      let number = integer_types_are_read bits a.1 (32 ∷ []) (32 ∷ (operand_text m f.locals x.written x.operand ++ rest)) own.0.2.0 own.0.2.1 refl refl (subst (λ (y : Text). Stands a.1.cursor (32 ∷ y)) front a.3.stands) in (
        one_count i (ready.forms ∙ wide) comma (ap (λ (j : Input). kind j.cursor) a.5 ∙ number.0),
        on v v (expect k.Comma) (λ _. forms.counted_by) i (32 ∷ (argument_text m f.locals x ++ rest)) rest s s (λ _ o. advanced i ≡ o) (ArgumentAgain m f.locals x) a
            (λ _ o ready g e. typed_by v forms.count_type x.written x.operand o (32 ∷ []) rest s (Integer bits, own, is_operand) seam
            (λ afterwards ends ready. count_type_reads bits x.written o (32 ∷ []) afterwards s own refl ends ready) ready),
      )

  -- `T* V`
  pub place_reads : (shape : Shape) (t place_type : ℕ) (x : Operand) (p : WrittenType) (i : Input) (gap rest : Text) (s : ℕ) → IsType m shape t → IsPlaceType m shape t place_type → IsOperand m f sort.Pointer x
      → IsTypeRead shape 64 p i → AreBlanks gap → IsSeam rest
      → Ready v s i (gap ++ (argument_text m f.locals (typed place_type x) ++ rest)) → Reads v s (forms.place_of p) i rest (ArgumentAgain m f.locals (typed place_type x))
  unfolding forms.place_of class_of
  place_reads shape t place_type x p i gap rest s own place is_operand read blanks seam ready = by place where
    good : Argument → Input → Type 0
    good = ArgumentAgain m f.locals (typed place_type x)

    place_form : ℕ → Form Argument
    place_form pointer = form.operand sort.Pointer >>= λ y. pure (record { written = pointer; operand = y })

    -- the type of the place has this shape
    of_shape : (q : Shape) → HasShape m.types m.struct_names q place_type → levels q ≤ 64
        → (Ready v s i (gap ++ (shown false q ++ (32 ∷ (operand_text m f.locals place_type x ++ rest)))) → Reads v s (w.pointer_again p) i (32 ∷ (operand_text m f.locals place_type x ++ rest)) (λ n o. HasShape o.types o.struct_names.names q n))
        → ((o : Input) → Ready v s o (32 ∷ (operand_text m f.locals place_type x ++ rest)) → Reads v s (form.operand sort.Pointer) o rest (OperandAgain m f.locals x))
        → Reads v s (w.pointer_again p >>= place_form) i rest good
    of_shape q has few again operand =
        let type_is = type_shown m q place_type has few in
        let ready = subst (λ (y : Text). Ready v s i (gap ++ ((y ++ 32 ∷ operand_text m f.locals place_type x) ++ rest))) type_is ready in
        let ready = subst (λ (y : Text). Ready v s i (gap ++ y)) (append_assoc (shown false q) (32 ∷ operand_text m f.locals place_type x) rest) ready in
        on v v (w.pointer_again p) place_form i (32 ∷ (operand_text m f.locals place_type x ++ rest)) rest s s (λ n o. HasShape o.types o.struct_names.names q n) good
        (again ready)
        (λ pointer o ready g there.
        on v v (form.operand sort.Pointer) (λ y. pure (record { written = pointer; operand = y })) o rest rest s s (OperandAgain m f.locals x) good
        (operand o ready)
        (λ y z ready h again. given v (record { written = pointer; operand = y }) z rest s good ready
        (λ n others later. (read_again m q place_type pointer o n others has there (later_before o z n others h later), again n others later))))

    by : IsPlaceType m shape t place_type → Reads v s (w.pointer_again p >>= place_form) i rest good
    by (inl typed) =
        let few = typed.2 in
        of_shape (Pointer shape) (t, typed.1, own.0) (omega (arith, few))
        (λ ready. pointer_again_reads v shape p i gap (32 ∷ (operand_text m f.locals place_type x ++ rest)) s typed.0 own.2 read few blanks ready)
        (λ o ready. operand_reads v (Pointer shape) place_type x o (32 ∷ []) rest s (t, typed.1, own.0) is_operand refl seam ready)
    by (inr opaque) =
        of_shape Opaque opaque.1 (omega arith) (λ ready. opaque_again_reads v p i gap (32 ∷ (operand_text m f.locals place_type x ++ rest)) s opaque.0 blanks refl ready)
        (λ o ready. operand_reads v Opaque place_type x o (32 ∷ []) rest s opaque.1 is_operand refl seam ready)

  -- `T V, T* W` after its word
  pub store_reads : (stored : ℕ) (x : Operand) (place_type : ℕ) (y : Operand) (i : Input) (gap rest : Text) (s : ℕ) → IsMemoryOp m f (memory.Store stored x place_type y)
      → AreBlanks gap → IsSeam rest
      → Ready v s i (gap ++ (memory_op_text m f.locals (memory.Store stored x place_type y) ++ rest)) → Reads v s forms.store i rest (MemoryAgain m f.locals (memory.Store stored x place_type y))
  unfolding forms.store class_of word_kind keywords
  store_reads stored x place_type y i gap rest s own blanks seam ready =
      let shape = own.0 in
      let scalar = own.1 in
      let type_is = type_shown m shape stored scalar.0.0 scalar.0.1 in
      let good = MemoryAgain m f.locals (memory.Store stored x place_type y) in
      let t3 = argument_text m f.locals (typed place_type y) ++ rest in
      let t2 = codes ", " ++ t3 in
      let t1 = shown false shape ++ (32 ∷ (operand_text m f.locals stored x ++ t2)) in
      let text = front (type_text m stored) (operand_text m f.locals stored x) (typed_text m f.locals place_type y) in
      let ready = subst (λ (z : Text). Ready v s i (gap ++ z)) text ready in
      let ready = subst (λ (z : Text). Ready v s i (gap ++ (codes "store" ++ (32 ∷ (z ++ (32 ∷ (operand_text m f.locals stored x ++ t2))))))) type_is ready in
      on v v skip (λ _. volatile_form) i (32 ∷ t1) rest s s (λ _ o. advanced i ≡ o) good
      (word_skipped v (codes "store") i gap (32 ∷ t1) s s blanks refl refl (omega arith) ready)
      (λ _ o ready g e.
      let begins = type_begins v shape o (32 ∷ []) (32 ∷ (operand_text m f.locals stored x ++ t2)) scalar.0.2 refl refl ready.stands in
      said_on v (optional k.Volatile) (λ _. forms.stored_afterwards) o tt rest s good (optional_said k.Volatile o (unlike k.Volatile w.begins_type o refl begins))
      (on v v w.scalar value_form o (32 ∷ (operand_text m f.locals stored x ++ t2)) rest s s (IsTypeRead shape 64) good
      (scalar_reads v shape o (32 ∷ []) (32 ∷ (operand_text m f.locals stored x ++ t2)) s scalar.0.2 scalar.0.1 scalar.1 refl (ends_operand v shape stored x t2 scalar.0.0 own.2 refl) ready)
      (λ p q ready h read.
      on v v (form.operand (w.word_of p)) (comma_form p) q t2 rest s s (OperandAgain m f.locals x) good
      (operand_at v shape stored x p q q (32 ∷ []) t2 s read scalar.0.0 own.2 refl refl ready)
      (λ value r ready hh again.
      on v v (expect k.Comma) (λ _. place_form p value) r (32 ∷ t3) rest s s (λ _ z. advanced r ≡ z) good
      (sign_reads v 44 k.Comma r [] (32 ∷ t3) s s refl refl refl (omega arith) ready)
      (λ _ z ready h3 e.
      let grows = grows_further q r z hh h3 in
      on v v (forms.place_of p) (λ place. pure (memory.Store p.id value place.written place.operand)) z rest rest s s (ArgumentAgain m f.locals (typed place_type y)) good
      (place_reads shape stored place_type y p z (32 ∷ []) rest s scalar.0 own.3 own.4 (read_stays shape 64 p q z grows read) refl seam ready)
      (λ place end ready h4 placed. given v (memory.Store p.id value place.written place.operand) end rest s good ready
      (λ n others later.
      let laterr = later_before r end n others (grows_further r z end h3 h4) later in
      let laterq = later_before q r n others hh laterr in
      let place_again = placed n others later in
      (read_again m shape stored p.id q n others scalar.0.0 read.has_shape laterq, again n others laterr, place_again.0, place_again.1))))))))
    where
      front : (a b c : Text) → (codes "store " ++ (a ++ 32 ∷ b) ++ codes ", " ++ c) ++ rest ≡ codes "store" ++ (32 ∷ (a ++ (32 ∷ (b ++ (codes ", " ++ (c ++ rest))))))
      front a b c = simp append_assoc

      place_form : WrittenType → Operand → Form MemoryOp
      place_form p value = forms.place_of p >>= λ place. pure (memory.Store p.id value place.written place.operand)

      comma_form : WrittenType → Operand → Form MemoryOp
      comma_form p value = expect k.Comma >> place_form p value

      value_form : WrittenType → Form MemoryOp
      value_form p = form.operand (w.word_of p) >>= comma_form p

      volatile_form : Form MemoryOp
      volatile_form = optional k.Volatile >> forms.stored_afterwards

  -- one without a value, where an instruction is read
  pub plain_memory_reads : (site : Site) (x : MemoryOp) (i : Input) (gap rest : Text) (s : ℕ) → AreBlanks gap → IsMemoryOp m f x → memory_gives_value x ≡ false → EndsLine rest
      → Ready v s i (gap ++ (op_text m f.locals (op.Memory x) ++ rest)) → Reads v s (whole.instruction site) i rest (PlainAgain m f.locals (op.Memory x))
  unfolding word_kind keywords class_of
  plain_memory_reads site (memory.Store stored a place_type place) i gap rest s blanks own gives ends ready =
      let x = memory.Store stored a place_type place in
      plain_by_word v site (op.Memory (memory.Store stored a place_type place)) (codes "store") _ i gap rest s blanks refl refl ready
      (on v v (as_op op.Memory forms.store) unnamed i rest rest s s (OpAgain m f.locals (op.Memory (memory.Store stored a place_type place))) (PlainAgain m f.locals (op.Memory (memory.Store stored a place_type place)))
      (op_reads v op.Memory forms.store (λ n others. IsMemoryOpAgain m n f.locals others) (memory.Store stored a place_type place) (op.Memory (memory.Store stored a place_type place)) i rest s (λ y o again. again)
      (store_reads stored a place_type place i gap rest s own blanks ends.0 ready))
      (λ y o ready g again. unnamed_reads v (op.Memory (memory.Store stored a place_type place)) y o rest s ends again ready))
  plain_memory_reads site (memory.Alloca held) i gap rest s blanks own gives ends ready = absurd cc
  plain_memory_reads site (memory.Buffer held count) i gap rest s blanks own gives ends ready = absurd cc
  plain_memory_reads site (memory.Load loaded place_type place) i gap rest s blanks own gives ends ready = absurd cc

module _ {m : Module} {f : Function} (v u : Invariant m f) where
  -- `load T, T* V`
  pub load_reads : (value loaded place_type : ℕ) (x : Operand) (i : Input) (gap rest : Text) (s : ℕ) → IsMemoryOp m f (memory.Load loaded place_type x) → Sets v u value
      → AreBlanks gap → IsSeam rest → Ready v s i (gap ++ (memory_op_text m f.locals (memory.Load loaded place_type x) ++ rest)) → Reads u s (forms.load value) i rest (MemoryAgain m f.locals (memory.Load loaded place_type x))
  unfolding forms.load class_of word_kind keywords
  load_reads value loaded place_type x i gap rest s own sets blanks seam ready =
      let shape = own.0 in
      let scalar = own.1 in
      let type_is = type_shown m shape loaded scalar.0.0 scalar.0.1 in
      let good = MemoryAgain m f.locals (memory.Load loaded place_type x) in
      let t3 = argument_text m f.locals (typed place_type x) ++ rest in
      let t2 = codes ", " ++ t3 in
      let t1 = shown false shape ++ t2 in
      let ready = subst (λ (z : Text). Ready v s i (gap ++ z)) (front (type_text m loaded) (argument_text m f.locals (typed place_type x))) ready in
      let ready = subst (λ (z : Text). Ready v s i (gap ++ (codes "load" ++ (32 ∷ (z ++ t2))))) type_is ready in
      on v u skip (λ _. volatile_form) i (32 ∷ t1) rest s s (λ _ o. advanced i ≡ o) good
      (word_skipped v (codes "load") i gap (32 ∷ t1) s s blanks refl refl (omega arith) ready)
      (λ _ o ready g e.
      let begins = type_begins v shape o (32 ∷ []) t2 scalar.0.2 refl refl ready.stands in
      said_on u (optional k.Volatile) (λ _. loaded_form) o tt rest s good (optional_said k.Volatile o (unlike k.Volatile w.begins_type o refl begins))
      (on v u w.scalar comma_form o t2 rest s s (IsTypeRead shape 64) good
      (scalar_reads v shape o (32 ∷ []) t2 s scalar.0.2 scalar.0.1 scalar.1 refl (ends_comma (32 ∷ t3)) ready)
      (λ p q ready h read.
      on v u (expect k.Comma) (λ _. place_form p) q (32 ∷ t3) rest s s (λ _ z. advanced q ≡ z) good
      (sign_reads v 44 k.Comma q [] (32 ∷ t3) s s refl refl refl (omega arith) ready)
      (λ _ z ready hh e.
      on v u (forms.place_of p) (set_form p) z rest rest s s (ArgumentAgain m f.locals (typed place_type x)) good
      (place_reads v shape loaded place_type x p z (32 ∷ []) rest s scalar.0 own.2 own.3 (read_stays shape 64 p q z hh read) refl seam ready)
      (λ place end ready h4 placed. set_reads v u (λ n others. IsMemoryOpAgain m n f.locals others) value (local.Value p.id) (memory.Load loaded place_type x) (memory.Load p.id place.written place.operand) end rest s sets refl ready
      (λ n others later.
      let place_again = placed n others later in
      (read_again m shape loaded p.id q n others scalar.0.0 read.has_shape (later_before q end n others (grows_further q z end hh h4) later), place_again.0, place_again.1)))))))
    where
      front : (a b : Text) → (codes "load " ++ (a ++ codes ", " ++ b)) ++ rest ≡ codes "load" ++ (32 ∷ (a ++ (codes ", " ++ (b ++ rest))))
      front a b = simp append_assoc

      set_form : WrittenType → Argument → Form MemoryOp
      set_form p place = set_type value p.id >> pure (memory.Load p.id place.written place.operand)

      place_form : WrittenType → Form MemoryOp
      place_form p = forms.place_of p >>= set_form p

      comma_form : WrittenType → Form MemoryOp
      comma_form p = expect k.Comma >> place_form p

      loaded_form : Form MemoryOp
      loaded_form = w.scalar >>= comma_form

      volatile_form : Form MemoryOp
      volatile_form = optional k.Volatile >> loaded_form

  -- `alloca T` of a number or a pointer
  pub alloca_reads : (value held : ℕ) (i : Input) (gap rest : Text) (s : ℕ) → IsMemoryOp m f (memory.Alloca held) → Sets v u value → AreBlanks gap → EndsLine rest
      → Ready v s i (gap ++ (codes "alloca" ++ (32 ∷ (type_text m held ++ rest)))) → Reads u s (forms.alloca value) i rest (MemoryAgain m f.locals (memory.Alloca held))
  unfolding forms.alloca class_of
  alloca_reads value held i gap rest s own sets blanks ends ready =
      let good = MemoryAgain m f.locals (memory.Alloca held) in
      let shape = own.0 in
      let scalar = own.1 in
      let type_is = type_shown m shape held scalar.0.0 scalar.0.1 in
      let ready = subst (λ (y : Text). Ready v s i (gap ++ (codes "alloca" ++ (32 ∷ (y ++ rest))))) type_is ready in
      let afterwards = 32 ∷ (shown false shape ++ rest) in
      on v u skip (λ _. held_form value) i afterwards rest s s (λ _ o. advanced i ≡ o) good
      (word_skipped v (codes "alloca") i gap afterwards s s blanks refl refl (omega arith) ready)
      (λ _ o ready g e.
      on v u (look (λ i. i.wide) forms.held_by) (made_form value) o rest rest s s (IsTypeRead shape 64) good
      (held_reads v shape o (32 ∷ []) rest s scalar.0.2 scalar.0.1 (λ _. scalar.1) refl (line_ends_type rest ends) ready)
      (λ p q ready h read.
      said_on u (forms.local_of p) (set_form value p) q (forms.single p) rest s good (single_said p q (ends.1 q ready.stands))
      (set_reads v u (λ n others. IsMemoryOpAgain m n f.locals others) value (local.Slot p.id) (memory.Alloca held) (forms.single p) q rest s sets refl ready
      (λ n others later.
      subst (IsMemoryOpAgain m n f.locals others (memory.Alloca held)) (sym (single_slot p (scalar_read shape 64 p q read ∙ scalar.1)))
      (read_again m shape held p.id q n others scalar.0.0 read.has_shape later)))))

  -- that of an array or a struct, or of what is counted
  pub buffer_reads : (value held : ℕ) (count : Option Argument) (i : Input) (gap rest : Text) (s : ℕ) → IsMemoryOp m f (memory.Buffer held count) → Sets v u value → AreBlanks gap → EndsLine rest
      → Ready v s i (gap ++ (codes "alloca" ++ (32 ∷ ((type_text m held ++ count_text m f.locals count) ++ rest)))) → Reads u s (forms.alloca value) i rest (MemoryAgain m f.locals (memory.Buffer held count))
  unfolding forms.alloca class_of
  buffer_reads value held count i gap rest s own sets blanks ends ready = by count own.1.2 ready where
    shape : Shape
    shape = own.1.0

    of_type : IsType m shape held
    of_type = own.1.1

    -- the type is read where a line ends or a comma comes
    type_then : (count : Option Argument) (after : Text) → EndsType after → Ready v s i (gap ++ (codes "alloca" ++ (32 ∷ (type_text m held ++ after))))
        → ((p : WrittenType) (q : Input) → Ready v s q after → IsTypeRead shape 64 p q → Reads u s (made_form value p) q rest (MemoryAgain m f.locals (memory.Buffer held count)))
        → Reads u s (skip >> held_form value) i rest (MemoryAgain m f.locals (memory.Buffer held count))
    type_then count after ends ready further =
        let type_is = type_shown m shape held of_type.0 of_type.1 in
        let ready = subst (λ (y : Text). Ready v s i (gap ++ (codes "alloca" ++ (32 ∷ (y ++ after))))) type_is ready in
        let afterwards = 32 ∷ (shown false shape ++ after) in
        on v u skip (λ _. held_form value) i afterwards rest s s (λ _ o. advanced i ≡ o) (MemoryAgain m f.locals (memory.Buffer held count))
        (word_skipped v (codes "alloca") i gap afterwards s s blanks refl refl (omega arith) ready)
        (λ _ o ready g e.
        on v u (look (λ i. i.wide) forms.held_by) (made_form value) o after rest s s (IsTypeRead shape 64) (MemoryAgain m f.locals (memory.Buffer held count))
        (held_reads v shape o (32 ∷ []) after s of_type.2 of_type.1 (λ no. let y = sym own.0 ∙ no in absurd cc) refl ends ready)
        (λ p q ready h read. further p q ready read))

    by : (count : Option Argument) → IsCount m f shape count → Ready v s i (gap ++ (codes "alloca" ++ (32 ∷ ((type_text m held ++ count_text m f.locals count) ++ rest))))
        → Reads u s (skip >> held_form value) i rest (MemoryAgain m f.locals (memory.Buffer held count))
    by None no_scalar ready =
        type_then None rest (line_ends_type rest ends) (subst (λ (y : Text). Ready v s i (gap ++ (codes "alloca" ++ (32 ∷ y)))) (append_assoc (type_text m held) [] rest) ready)
        (λ p q ready read.
        said_on u (forms.local_of p) (set_form value p) q (forms.single p) rest s (MemoryAgain m f.locals (memory.Buffer held None)) (single_said p q (ends.1 q ready.stands))
        (set_reads v u (λ n others. IsMemoryOpAgain m n f.locals others) value (local.Slot p.id) (memory.Buffer held None) (forms.single p) q rest s sets refl ready
        (λ n others later.
        subst (IsMemoryOpAgain m n f.locals others (memory.Buffer held None)) (sym (single_buffer p (scalar_read shape 64 p q read ∙ no_scalar)))
        (read_again m shape held p.id q n others of_type.0 read.has_shape later, tt))))
    by (Some x) counted ready =
        let again = IsLaterAgain (λ n others. IsMemoryOpAgain m n f.locals others) (memory.Buffer held (Some x)) in
        let text = append_assoc (type_text m held) (codes ", " ++ argument_text m f.locals x) rest ∙ ap (λ (y : Text). type_text m held ++ y) (append_assoc (codes ", ") (argument_text m f.locals x) rest) in
        type_then (Some x) (codes ", " ++ (argument_text m f.locals x ++ rest)) (ends_comma (32 ∷ (argument_text m f.locals x ++ rest)))
        (subst (λ (y : Text). Ready v s i (gap ++ (codes "alloca" ++ (32 ∷ y)))) text ready)
        (λ p q ready read.
        let c = count_reads v x counted.0 q rest s counted.1 counted.2 ends.0 own.0 ready in
        on v u (forms.local_of p) (set_form value p) q rest rest s s again again
        (looked v forms.counts (forms.local_by p) q rest s again true c.0
        (on v v forms.count (λ y. pure (forms.counted p y)) q rest rest s s (ArgumentAgain m f.locals x) again c.1
        (λ y z ready hh same. given v (forms.counted p y) z rest s again ready
        (λ n others later. (read_again m shape held p.id q n others of_type.0 read.has_shape (later_before q z n others hh later), same n others later)))))
        (λ made z ready hh same. set_reads v u (λ n others. IsMemoryOpAgain m n f.locals others) value (local.Slot p.id) (memory.Buffer held (Some x)) made z rest s sets refl ready same))

  -- an operation on memory is one of instructions
  as_memory : (form : Form MemoryOp) (x : MemoryOp) (i : Input) (rest : Text) (s : ℕ) → Reads u s form i rest (MemoryAgain m f.locals x) → Reads u s (as_op op.Memory form) i rest (OpAgain m f.locals (op.Memory x))
  as_memory form x i rest s h = op_reads u op.Memory form (λ n others. IsMemoryOpAgain m n f.locals others) x (op.Memory x) i rest s (λ y o again. again) h

  -- what follows `%v =`
  pub named_memory_reads : (site : Site) (value : ℕ) (x : MemoryOp) (i : Input) (gap rest : Text) (s : ℕ) → AreBlanks gap → IsMemoryOp m f x → memory_gives_value x ≡ true → Sets v u value → EndsLine rest
      → Ready v s i (gap ++ (op_text m f.locals (op.Memory x) ++ rest)) → Reads u s (whole.named_op site value) i rest (OpAgain m f.locals (op.Memory x))
  unfolding word_kind keywords class_of
  named_memory_reads site value (memory.Alloca held) i gap rest s blanks own gives sets ends ready =
      by_word v u site value (op.Memory (memory.Alloca held)) (codes "alloca") (32 ∷ (type_text m held ++ rest)) i gap rest s blanks refl refl ready
      (as_memory (forms.alloca value) (memory.Alloca held) i rest s (alloca_reads value held i gap rest s own sets blanks ends ready))
  named_memory_reads site value (memory.Buffer held count) i gap rest s blanks own gives sets ends ready =
      by_word v u site value (op.Memory (memory.Buffer held count)) (codes "alloca") (32 ∷ ((type_text m held ++ count_text m f.locals count) ++ rest)) i gap rest s blanks refl refl ready
      (as_memory (forms.alloca value) (memory.Buffer held count) i rest s (buffer_reads value held count i gap rest s own sets blanks ends ready))
  named_memory_reads site value (memory.Load loaded place_type place) i gap rest s blanks own gives sets ends ready =
      by_word v u site value (op.Memory (memory.Load loaded place_type place)) (codes "load") (32 ∷ (placed_text m f.locals loaded (typed place_type place) ++ rest)) i gap rest s blanks refl refl ready
      (as_memory (forms.load value) (memory.Load loaded place_type place) i rest s (load_reads value loaded place_type place i gap rest s own sets blanks ends.0 ready))
  named_memory_reads site value (memory.Store stored a place_type place) i gap rest s blanks own gives sets ends ready = absurd cc

-- ---- its word

-- its word is not that of a phi
pub memory_no_phi : (m : Module) (locals : List Text) (x : MemoryOp) (place : Place) (rest : Text) → memory_gives_value x ≡ true → Stands place (32 ∷ (memory_op_text m locals x ++ 10 ∷ rest)) → same_kind (kind place) k.Phi ≡ false
unfolding class_of word_kind keywords same_kind
memory_no_phi m locals (memory.Alloca held) place rest gives at = ap (λ (x : Kind). same_kind x k.Phi) (word_comes place (32 ∷ []) (codes "alloca") _ refl refl refl at).0
memory_no_phi m locals (memory.Buffer held count) place rest gives at = ap (λ (x : Kind). same_kind x k.Phi) (word_comes place (32 ∷ []) (codes "alloca") _ refl refl refl at).0
memory_no_phi m locals (memory.Load loaded place_type x) place rest gives at = ap (λ (x : Kind). same_kind x k.Phi) (word_comes place (32 ∷ []) (codes "load") _ refl refl refl at).0
memory_no_phi m locals (memory.Store stored value place_type x) place rest gives at = absurd cc

-- one without a value is a store
pub plain_memory_kind : (m : Module) (locals : List Text) (x : MemoryOp) (place : Place) (rest : Text) → memory_gives_value x ≡ false → Stands place (10 ∷ 32 ∷ 32 ∷ (memory_op_text m locals x ++ rest)) → kind place ≡ k.Store
unfolding class_of word_kind keywords
plain_memory_kind m locals (memory.Store stored value place_type at_place) place rest gives at = (word_comes place (10 ∷ 32 ∷ 32 ∷ []) (codes "store") _ refl refl refl at).0
plain_memory_kind m locals (memory.Alloca held) place rest gives at = absurd cc
plain_memory_kind m locals (memory.Buffer held count) place rest gives at = absurd cc
plain_memory_kind m locals (memory.Load loaded place_type x) place rest gives at = absurd cc

-- ---- its text

module _ (m n : Module) (locals others : List Text) where
  -- one count of elements, one text
  count_same : (x y : Option Argument) → IsCountAgain m n locals others x y → count_text m locals x ≡ count_text n others y
  count_same None None h = refl
  count_same (Some x) (Some y) h = ap (λ (z : Text). codes ", " ++ z) (argument_same m n locals others x y h)
  count_same None (Some y) h = absurd h
  count_same (Some x) None h = absurd h

  -- one operation on memory, one text
  pub memory_op_same : (x y : MemoryOp) → IsMemoryOpAgain m n locals others x y → memory_op_text m locals x ≡ memory_op_text n others y
  memory_op_same (memory.Alloca t) (memory.Alloca u) h = ap (λ (x : Text). codes "alloca " ++ x) (type_same m n t u h)
  memory_op_same (memory.Buffer t x) (memory.Buffer u y) h = same2 (λ a b. codes "alloca " ++ a ++ b) (type_same m n t u h.0) (count_same x y h.1)
  memory_op_same (memory.Load t place x) (memory.Load u other y) h = ap (λ (z : Text). codes "load " ++ z) (placed_same m n locals others t u (typed place x) (typed other y) h.0 (h.1, h.2))
  memory_op_same (memory.Store t v place x) (memory.Store u w other y) h =
      same2 (λ a b. codes "store " ++ a ++ codes ", " ++ b) (typed_same m n locals others t u v w h.0 h.1) (typed_same m n locals others place other x y h.2 h.3)
  memory_op_same _ _ h = absurd h

-- an operation on memory is printable where the module has more types, too
pub memory_longer : (m : Module) (types : List IrType) (fs : List Function) (more : IsLonger m.types types) (same : defined_functions (with_types m types fs) ≡ defined_functions m) (f : Function)
    → (x : MemoryOp) → IsMemoryOp m f x → IsMemoryOp (with_types m types fs) f x
memory_longer m types fs more same f (memory.Alloca held) h = (h.0, scalar_again m types fs more same h.0 held h.1)
memory_longer m types fs more same f (memory.Buffer held None) h = (h.0, (h.1.0, type_again m types fs more same h.1.0 held h.1.1, h.1.2))
memory_longer m types fs more same f (memory.Buffer held (Some x)) h =
    let c = h.1.2 in
    (h.0, (h.1.0, type_again m types fs more same h.1.0 held h.1.1, (c.0, scalar_again m types fs more same (Integer c.0) x.written c.1, operand_again m types fs more same f (sort.Integer c.0) x.operand c.2)))
memory_longer m types fs more same f (memory.Load loaded place_type place) h =
    (h.0, scalar_again m types fs more same h.0 loaded h.1, place_again m types fs more same h.0 loaded place_type h.2, operand_again m types fs more same f sort.Pointer place h.3)
memory_longer m types fs more same f (memory.Store stored value place_type place) h =
    (h.0, scalar_again m types fs more same h.0 stored h.1, operand_again m types fs more same f (word_of_shape h.0) value h.2, place_again m types fs more same h.0 stored place_type h.3, operand_again m types fs more same f sort.Pointer place h.4)

-- ---- types and names within the tables

module _ (m : Module) (f : Function) (own : HasModuleNames m) (h : AreDefinedWithin f) where
  pub memory_within : (x : MemoryOp) → Wide m f (λ m f. IsMemoryOp m f x) → IsMemoryOpWithin m f x
  memory_within (memory.Alloca held) is = type_within m f own h (is []).0 held [] (is []).1.0
  memory_within (memory.Buffer held None) is = (type_within m f own h (is []).1.0 held [] (is []).1.1, tt)
  memory_within (memory.Buffer held (Some x)) is = (
    type_within m f own h (is []).1.0 held [] (is []).1.1,
    (
      type_within m f own h (Integer (is []).1.2.0) x.written [] (is []).1.2.1.0,
      operand_within m f own h x.operand (λ more. (sort.Integer (is more).1.2.0, (is more).1.2.2)),
    ),
  )
  memory_within (memory.Load loaded place_type place) is = (
    type_within m f own h (is []).0 loaded [] (is []).1.0,
    place_type_within m (is []).0 loaded place_type (is []).2,
    operand_within m f own h place (λ more. (sort.Pointer, (is more).3)),
  )
  memory_within (memory.Store stored value place_type place) is = (
    type_within m f own h (is []).0 stored [] (is []).1.0,
    operand_within m f own h value (λ more. (word_of_shape (is more).0, (is more).2)),
    place_type_within m (is []).0 stored place_type (is []).3,
    operand_within m f own h place (λ more. (sort.Pointer, (is more).4)),
  )

module _ (m n : Module) (types : length m.types ≤ length n.types) (names : MeansAsMuch m n) (f : Function) where
  pub memory_within_longer : (x : MemoryOp) → IsMemoryOpWithin m f x → IsMemoryOpWithin n f x
  memory_within_longer (memory.Alloca held) h = type_longer m n types names held h
  memory_within_longer (memory.Buffer held None) h = (type_longer m n types names held h.0, tt)
  memory_within_longer (memory.Buffer held (Some x)) h = (type_longer m n types names held h.0, (type_longer m n types names x.written h.1.0, operand_longer m n types names f x.operand h.1.1))
  memory_within_longer (memory.Load loaded place_type place) h = (type_longer m n types names loaded h.0, type_longer m n types names place_type h.1, operand_longer m n types names f place h.2)
  memory_within_longer (memory.Store stored value place_type place) h =
      (type_longer m n types names stored h.0, operand_longer m n types names f value h.1, type_longer m n types names place_type h.2, operand_longer m n types names f place h.3)
