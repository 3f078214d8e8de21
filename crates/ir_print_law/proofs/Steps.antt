-- One form after another, and the forms that read a token.
use Rattle.std.proofs.Common.{◌≡◌, ℕ, ◌+◌, ◌<◌, ◌≤◌, ◌^◌, Bool, true, false, not, List, [], ◌∷◌, ◌++◌, length, slice_get, Some, refl, sym, ap, subst, ◌∙◌, arith, length-append}
use Rattle.ir_print_law.proofs.Seams.{sign_class}
use Rattle.ir_print_law.proofs.OneKind.{no_other_kind, type_in_order}
use Rattle.ir_print_law.proofs.StarsRead.{interned}
use Rattle.grammar.specs.Grammar.{pure, step, checked, look, ◌>>=◌, ◌>>◌}
use Rattle.ir_ast.specs.declared.function.Function.{Function}
use Rattle.ir_ast.specs.declared.ir_type.IrType.{IrType}
use Rattle.ir_ast.specs.declared.module.Module.{Module}
use Rattle.ir_ast.specs.Types.{number_of_type}
use Rattle.ir_tokens.specs.declared.class.ByteClass.TheVariants as c
use Rattle.ir_tokens.specs.declared.token.Kind.{Kind}
use Rattle.ir_tokens.specs.Bytes.{Text, class_of}
use Rattle.ir_tokens.specs.Keywords.{word_kind}
use Rattle.ir_tokens.specs.Tokens.{begins_gap}
use Rattle.ir_forms.specs.Cursor.{kind, next, sees}
use Rattle.ir_forms.specs.declared.fault.Fault.{Fault}
use Rattle.ir_forms.specs.declared.fault.Fault.TheVariants.{OtherPointer}
use Rattle.ir_forms.specs.declared.input.Input.{Input}
use Rattle.ir_forms.specs.Input.{Form, left, advanced, skip, expect, sees_is}
use Rattle.ir_forms.specs.Written.{has_opaque, intern, intern_pointer, interned_pointer, is_second_kind, with_type_interned}
use Rattle.name_text.specs.Names.{is_plain}
use Rattle.ir_print_law.specs.Stands.{Stands, IsSeam, AreBlanks}
use Rattle.ir_print_law.proofs.Words.{word_comes, sign_comes, expected}
use Rattle.ir_print_law.proofs.Tables.{IsInOrder, begins_itself, begins_further, type_begins, type_there, type_length}
use Rattle.ir_print_law.proofs.State.{Invariant, HasRoom, Ready, Grows, IsLater, Reads}

-- nothing was read
pub grows_itself : (i : Input) → Grows i i
grows_itself i = record {
  types = begins_itself i.types;
  structs = begins_itself i.struct_names.names;
  symbols = begins_itself i.symbols.names;
  locals = begins_itself i.locals.names;
}

-- what was read stays as further parts are read
pub grows_further : (i m o : Input) → Grows i m → Grows m o → Grows i o
grows_further i m o a b = record {
  types = begins_further i.types m.types o.types a.types b.types;
  structs = begins_further i.struct_names.names m.struct_names.names o.struct_names.names a.structs b.structs;
  symbols = begins_further i.symbols.names m.symbols.names o.symbols.names a.symbols b.symbols;
  locals = begins_further i.locals.names m.locals.names o.locals.names a.locals b.locals;
}

-- what comes later than a state comes later than those before it
pub later_before : (i o : Input) (n : Module) (others : List Text) → Grows i o → IsLater o n others → IsLater i n others
later_before i o n others a b = record {
  types = begins_further i.types o.types n.types a.types b.types;
  structs = begins_further i.struct_names.names o.struct_names.names n.struct_names a.structs b.structs;
  symbols = begins_further i.symbols.names o.symbols.names n.symbols a.symbols b.symbols;
  locals = begins_further i.locals.names o.locals.names others a.locals b.locals;
}

-- less room than there is
pub less_room : (i : Input) (a b : ℕ) → a ≤ b → HasRoom i b → HasRoom i a
less_room i a b le room = record {
  types = let h = room.types in omega (arith, le, h);
  structs = let h = room.structs in omega (arith, le, h);
  symbols = let h = room.symbols in omega (arith, le, h);
  locals = let h = room.locals in omega (arith, le, h);
}

module _ {m : Module} {f : Function} (v : Invariant m f) where
  -- ---- one form after another

  -- a form, and then the one that its value tells
  pub go_on : {A B : Type 0} (form : Form A) (g : A → Form B) (i : Input) (afterwards rest : Text) (s t : ℕ) (P : A → Input → Type 0) (Q : B → Input → Type 0)
      → Reads v s form i afterwards P → ((a : A) (o : Input) → Ready v s o afterwards → Grows i o → P a o → Reads v t (g a) o rest Q) → Reads v t (form >>= g) i rest Q
  go_on form g i afterwards rest s t P Q h k =
      let n = k h.0 h.1 h.3 h.4 h.5 in
      (n.0, n.1, (h.0, h.1, h.2, n.2), n.3, grows_further i h.1 n.1 h.4 n.4, n.5)

  -- what is known further of what was read
  pub so : {A : Type 0} (form : Form A) (i : Input) (rest : Text) (s : ℕ) (P Q : A → Input → Type 0) → Reads v s form i rest P → ((a : A) (o : Input) → Grows i o → P a o → Q a o) → Reads v s form i rest Q
  so form i rest s P Q h k = (h.0, h.1, h.2, h.3, h.4, k h.0 h.1 h.4 h.5)

  -- a form that says what another one says
  pub says_too : {A : Type 0} (form other : Form A) (i : Input) (rest : Text) (s : ℕ) (Q : A → Input → Type 0) → ((a : A) (o : Input) → form.says i a o → other.says i a o)
      → Reads v s form i rest Q → Reads v s other i rest Q
  says_too form other i rest s Q said h = (h.0, h.1, said h.0 h.1 h.2, h.3, h.4, h.5)

  -- a value, and nothing is read
  pub given : {A : Type 0} (a : A) (i : Input) (rest : Text) (s : ℕ) (Q : A → Input → Type 0) → Ready v s i rest → Q a i → Reads v s (pure {E = Fault} {left = left} a) i rest Q
  given a i rest s Q ready q = (a, i, (refl, refl), ready, grows_itself i, q)

  -- a test that is passed
  pub test_reads : (test : Input → Bool) (fault : Input → Fault) (i : Input) (rest : Text) (s : ℕ) → test i ≡ true → Ready v s i rest
      → Reads v s (checked {left = left} test fault) i rest (λ _ o. i ≡ o)
  test_reads test fault i rest s e ready = (tt, i, (e, refl), ready, grows_itself i, refl)

  -- a test that is passed, and then a form
  pub checked_then : {A : Type 0} (test : Input → Bool) (fault : Input → Fault) (form : Form A) (i : Input) (rest : Text) (t : ℕ) (Q : A → Input → Type 0)
      → test i ≡ true → Reads v t form i rest Q → Reads v t (checked test fault >> form) i rest Q
  checked_then test fault form i rest t Q e h = (h.0, h.1, (tt, i, (e, refl), h.2), h.3, h.4, h.5)

  -- the form that the state tells
  pub looked : {K A : Type 0} (of : Input → K) (g : K → Form A) (i : Input) (rest : Text) (t : ℕ) (Q : A → Input → Type 0) (x : K)
      → of i ≡ x → Reads v t (g x) i rest Q → Reads v t (look of g) i rest Q
  looked of g i rest t Q x e h = subst (λ (y : _). Reads v t (g y) i rest Q) (sym e) h

  -- ---- tokens

  -- less room to spare
  pub less_spare : (i : Input) (bytes : Text) (s t : ℕ) → t ≤ s → Ready v s i bytes → Ready v t i bytes
  less_spare i bytes s t le ready = record {
    stands = ready.stands;
    ordered = ready.ordered;
    forms = ready.forms;
    room = less_room i (length bytes + t) (length bytes + s) (omega (arith, le)) ready.room;
    holds = ready.holds;
  }

  -- after a token
  pub passed : (i : Input) (bytes rest : Text) (s t : ℕ) → Ready v s i bytes → Stands (next i.cursor) rest → length rest + t ≤ length bytes + s → Ready v t (advanced i) rest
  passed i bytes rest s t ready at le = record {
    stands = at;
    ordered = ready.ordered;
    forms = ready.forms;
    room = let room = less_room i (length rest + t) (length bytes + s) le ready.room in record { types = room.types; structs = room.structs; symbols = room.symbols; locals = room.locals };
    holds = v.on_token i ready.holds;
  }

  -- a token changes no table
  pub grows_advanced : (i : Input) → Grows i (advanced i)
  grows_advanced i = record {
    types = begins_itself i.types;
    structs = begins_itself i.struct_names.names;
    symbols = begins_itself i.symbols.names;
    locals = begins_itself i.locals.names;
  }

  -- a token is skipped
  pub skip_reads : (i : Input) (bytes rest : Text) (s t : ℕ) → Ready v s i bytes → Stands (next i.cursor) rest → length rest + t ≤ length bytes + s → Reads v t skip i rest (λ _ o. advanced i ≡ o)
  skip_reads i bytes rest s t ready at le = (tt, advanced i, (refl, refl), passed i bytes rest s t ready at le, grows_advanced i, refl)

  -- a token of this kind is read
  pub expect_reads : (x : Kind) (i : Input) (bytes rest : Text) (s t : ℕ) → kind i.cursor ≡ x → Ready v s i bytes → Stands (next i.cursor) rest → length rest + t ≤ length bytes + s
      → Reads v t (expect x) i rest (λ _ o. advanced i ≡ o)
  expect_reads x i bytes rest s t is ready at le = (tt, advanced i, expected x i is, passed i bytes rest s t ready at le, grows_advanced i, refl)

  -- a form of which it is known what it says
  pub said_then : {A B : Type 0} (form : Form A) (g : A → Form B) (i o : Input) (a : A) (rest : Text) (t : ℕ) (Q : B → Input → Type 0)
      → form.says i a o → Grows i o → Reads v t (g a) o rest Q → Reads v t (form >>= g) i rest Q
  said_then form g i o a rest t Q said grows n = (n.0, n.1, (a, o, said, n.2), n.3, grows_further i o n.1 grows n.4, n.5)

  -- a form that reads one token
  pub token_then : {A B : Type 0} (form : Form A) (g : A → Form B) (i : Input) (a : A) (bytes afterwards rest : Text) (s t u : ℕ) (Q : B → Input → Type 0)
      → form.says i a (advanced i) → Ready v s i bytes → Stands (next i.cursor) afterwards → length afterwards + t ≤ length bytes + s
      → (Ready v t (advanced i) afterwards → Reads v u (g a) (advanced i) rest Q) → Reads v u (form >>= g) i rest Q
  token_then form g i a bytes afterwards rest s t u Q said ready at le k =
      said_then form g i (advanced i) a rest u Q said (grows_advanced i) (k (passed i bytes afterwards s t ready at le))

  -- a step to the next token that gives a value
  pub step_reads : {A : Type 0} (value : Input → A) (falls : (i : Input) → left (advanced i) ≤ left i) (i : Input) (bytes rest : Text) (s t : ℕ) → Ready v s i bytes → Stands (next i.cursor) rest
      → length rest + t ≤ length bytes + s → Reads v t (step {E = Fault} {left = left} value advanced falls) i rest (λ a o. (value i ≡ a) × (advanced i ≡ o))
  step_reads value falls i bytes rest s t ready at le = (value i, advanced i, (refl, refl), passed i bytes rest s t ready at le, grows_advanced i, (refl, refl))

  -- a word leaves fewer bytes
  pub shorter : (gap word rest : Text) (s t : ℕ) → t ≤ s + length word → length rest + t ≤ length (gap ++ (word ++ rest)) + s
  shorter gap word rest s t le = let a = length-append gap (word ++ rest) in let b = length-append word rest in omega (arith, a, b, le)

  -- a sign is read
  pub sign_reads : (b : ℕ) (x : Kind) (i : Input) (gap rest : Text) (s t : ℕ) → AreBlanks gap → sign_class b ≡ c.Sign x → begins_gap (b ∷ rest) ≡ false → t ≤ s + 1
      → Ready v s i (gap ++ b ∷ rest) → Reads v t (expect x) i rest (λ _ o. advanced i ≡ o)
  sign_reads b x i gap rest s t blanks class begins le ready =
      let w = sign_comes i.cursor gap b rest x blanks class begins ready.stands in
      expect_reads x i (gap ++ b ∷ rest) rest s t w.0 ready w.3 (shorter gap (b ∷ []) rest s t le)

  -- a sign is skipped
  pub sign_skipped : (b : ℕ) (x : Kind) (i : Input) (gap rest : Text) (s t : ℕ) → AreBlanks gap → sign_class b ≡ c.Sign x → begins_gap (b ∷ rest) ≡ false → t ≤ s + 1
      → Ready v s i (gap ++ b ∷ rest) → Reads v t skip i rest (λ _ o. advanced i ≡ o)
  sign_skipped b x i gap rest s t blanks class begins le ready =
      let w = sign_comes i.cursor gap b rest x blanks class begins ready.stands in
      skip_reads i (gap ++ b ∷ rest) rest s t ready w.3 (shorter gap (b ∷ []) rest s t le)

  -- a sign is seen
  pub sign_kind : (b : ℕ) (x : Kind) (i : Input) (gap rest : Text) (s : ℕ) → AreBlanks gap → sign_class b ≡ c.Sign x → begins_gap (b ∷ rest) ≡ false
      → Ready v s i (gap ++ b ∷ rest) → kind i.cursor ≡ x
  sign_kind b x i gap rest s blanks class begins ready = (sign_comes i.cursor gap b rest x blanks class begins ready.stands).0

  -- a word is read
  pub word_reads : (w : Text) (i : Input) (gap rest : Text) (s t : ℕ) → AreBlanks gap → is_plain w ≡ true → IsSeam rest → t ≤ s + length w
      → Ready v s i (gap ++ (w ++ rest)) → Reads v t (expect (word_kind w)) i rest (λ _ o. advanced i ≡ o)
  word_reads w i gap rest s t blanks plain seam le ready =
      let r = word_comes i.cursor gap w rest blanks plain seam ready.stands in
      expect_reads (word_kind w) i (gap ++ (w ++ rest)) rest s t r.0 ready r.3 (shorter gap w rest s t le)

  -- a word is skipped
  pub word_skipped : (w : Text) (i : Input) (gap rest : Text) (s t : ℕ) → AreBlanks gap → is_plain w ≡ true → IsSeam rest → t ≤ s + length w
      → Ready v s i (gap ++ (w ++ rest)) → Reads v t skip i rest (λ _ o. advanced i ≡ o)
  word_skipped w i gap rest s t blanks plain seam le ready =
      let r = word_comes i.cursor gap w rest blanks plain seam ready.stands in
      skip_reads i (gap ++ (w ++ rest)) rest s t ready r.3 (shorter gap w rest s t le)

  -- a word is seen
  pub word_seen : (w : Text) (i : Input) (gap rest : Text) (s : ℕ) → AreBlanks gap → is_plain w ≡ true → IsSeam rest → Ready v s i (gap ++ (w ++ rest)) → kind i.cursor ≡ word_kind w
  word_seen w i gap rest s blanks plain seam ready = (word_comes i.cursor gap w rest blanks plain seam ready.stands).0

  -- ---- types

  -- a type that comes into the table leaves those before it
  grows_interned : (t : IrType) (i : Input) → Grows i (with_type_interned t i)
  grows_interned t i = record {
    types = type_begins t i.types;
    structs = begins_itself i.struct_names.names;
    symbols = begins_itself i.symbols.names;
    locals = begins_itself i.locals.names;
  }

  -- a type comes into the table, and is at its number
  pub intern_reads : (t : IrType) (i : Input) (bytes : Text) (s : ℕ) → IsInOrder (has_opaque m.types) (length i.types) t → Ready v (s + 1) i bytes
      → Reads v s (intern t) i bytes (λ n o. slice_get o.types n ≡ Some t)
  intern_reads t i bytes s last ready =
      let room = ready.room in
      let types = room.types in
      let longer = type_length t i.types in
      let few : length i.types < 2 ^ 32 = omega (arith, types) in
      let o = with_type_interned t i in (
        number_of_type t i.types,
        with_type_interned t i,
        interned t i few,
        record {
          stands = ready.stands;
          ordered = type_in_order (has_opaque m.types) t i.types last ready.ordered;
          forms = ready.forms;
          room = record {
            types = omega (arith, types, longer);
            structs = let h = room.structs in omega (arith, h);
            symbols = let h = room.symbols in omega (arith, h);
            locals = let h = room.locals in omega (arith, h);
          };
          holds = v.on_type i t ready.holds;
        },
        grows_interned t i,
        type_there t i.types,
      )

  -- so it is with a pointer type
  pub intern_pointer_reads : (start : ℕ) (t : IrType) (i : Input) (bytes : Text) (s : ℕ) → IsInOrder (has_opaque m.types) (length i.types) t → Ready v (s + 1) i bytes
      → Reads v s (intern_pointer start t) i bytes (λ n o. slice_get o.types n ≡ Some t)
  unfolding intern_pointer is_second_kind
  intern_pointer_reads start t i bytes s own ready =
      let good : ℕ → Input → Type 0 = λ n o. slice_get o.types n ≡ Some t in
      looked (is_second_kind t) (interned_pointer start t) i bytes s good false (no_other_kind (has_opaque m.types) (length i.types) t i.types own ready.ordered)
      (go_on (intern t) (λ id. checked (λ _. not false) (λ _. OtherPointer start) >> pure id) i bytes bytes s s good good
      (intern_reads t i bytes s own ready)
      (λ n o ready g there. checked_then (λ _. not false) (λ _. OtherPointer start) (pure n) o bytes s good refl (given n o bytes s good ready there)))

-- what a token is not
pub unlike : (x : Kind) (test : Kind → Bool) (i : Input) → test x ≡ false → test (kind i.cursor) ≡ true → sees x i.cursor ≡ false
unlike x test i other is_so = by (sees x i.cursor) refl where
  by : (b : Bool) → sees x i.cursor ≡ b → b ≡ false
  by false e = refl
  by true e = let is = sees_is x i e in let both : test x ≡ true = sym (ap test is) ∙ is_so in absurd (let h = sym both ∙ other in cc)
