-- Parts of instructions that give a value: one form after another, and what is known once the value's sort is set.
use Rattle.std.proofs.Common.{◌≡◌, ℕ, false, List, [], ◌∷◌, ◌++◌, refl, subst, arith, append_assoc}
use Rattle.std.specs.Prelude.{codes}
use Rattle.grammar.specs.Grammar.{pure, ◌>>=◌, ◌>>◌}
use Rattle.ir_ast.specs.declared.argument.Argument.{Argument}
use Rattle.ir_ast.specs.declared.function.Function.{Function}
use Rattle.ir_ast.specs.declared.function.LocalSort.{LocalSort}
use Rattle.ir_ast.specs.declared.function.LocalSort.TheVariants as local
use Rattle.ir_ast.specs.declared.module.Module.{Module}
use Rattle.ir_ast.specs.declared.operand.Operand.{Operand}
use Rattle.ir_tokens.specs.declared.token.Kind.TheVariants as k
use Rattle.ir_tokens.specs.Bytes.{Text, class_of}
use Rattle.ir_tokens.specs.Keywords.{word_kind, keywords}
use Rattle.ir_forms.specs.declared.input.Input.{Input}
use Rattle.ir_forms.specs.declared.written.WrittenType.{WrittenType}
use Rattle.ir_forms.specs.Input.{Form, advanced, expect}
use Rattle.ir_forms.specs.Names.{with_sort, set_sort, set_type}
use Rattle.ir_forms.specs.Written as w
use Rattle.ir_forms.specs.Lists as lists
use Rattle.ir_print.specs.Operands.{typed_text}
use Rattle.ir_print.specs.Parts.{typed, converted_text}
use Rattle.ir_print_law.specs.Stands.{AreBlanks, IsSeam}
use Rattle.ir_print_law.specs.PartsAgain.{IsTypeAgain, IsArgumentAgain}
use Rattle.ir_print_law.specs.Parts.{IsNoFloat, IsConverted}
use Rattle.ir_print_law.proofs.State.{Invariant, Ready, Grows, IsLater, Reads}
use Rattle.ir_print_law.proofs.Shown.{shown, IsTypeRead}
use Rattle.ir_print_law.proofs.Steps.{word_reads, grows_itself, grows_further, later_before}
use Rattle.ir_print_law.proofs.Types.{EndsType}
use Rattle.ir_print_law.proofs.PrintedTypes.{type_shown, read_again, scalar_reads, integer_scalar_reads}
use Rattle.ir_print_law.proofs.Parts.{IsLaterAgain, ArgumentAgain, IsValueSort, Sets, typed_reads, typed_integer_reads, flat_shape}
use Rattle.ir_forms.specs.Numbers as numbers

-- one form after another, where other things are known of the names after the second
pub on : {m : Module} {f : Function} (v w : Invariant m f) {A B : Type 0} (form : Form A) (g : A → Form B) (i : Input) (afterwards rest : Text) (s t : ℕ) (P : A → Input → Type 0) (Q : B → Input → Type 0)
    → Reads v s form i afterwards P → ((a : A) (o : Input) → Ready v s o afterwards → Grows i o → P a o → Reads w t (g a) o rest Q) → Reads w t (form >>= g) i rest Q
on v w form g i afterwards rest s t P Q h k =
    let n = k h.0 h.1 h.3 h.4 h.5 in
    (n.0, n.1, (h.0, h.1, h.2, n.2), n.3, grows_further i h.1 n.1 h.4 n.4, n.5)

-- a form that reads nothing, and then another one
pub said_on : {m : Module} {f : Function} (v : Invariant m f) {A B : Type 0} (form : Form A) (g : A → Form B) (i : Input) (a : A) (rest : Text) (t : ℕ) (Q : B → Input → Type 0)
    → form.says i a i → Reads v t (g a) i rest Q → Reads v t (form >>= g) i rest Q
said_on v form g i a rest t Q said n = (n.0, n.1, (a, i, said, n.2), n.3, n.4, n.5)

-- the sort of a value changes no table of names
later_set : (value : ℕ) (sort : LocalSort) (i : Input) (n : Module) (others : List Text) → IsLater (with_sort value sort i) n others → IsLater i n others
later_set value sort i n others later = record { types = later.types; structs = later.structs; symbols = later.symbols; locals = later.locals }

module _ {m : Module} {f : Function} (v u : Invariant m f) where
  -- the sort of the value is set, and what was read stays
  pub sort_set : {A B : Type 0} (Again : Module → List Text → A → B → Type 0) (value : ℕ) (sort : LocalSort) (x : A) (again : B) (i : Input) (rest : Text) (s : ℕ) → Sets v u value → IsValueSort sort
      → Ready v s i rest → IsLaterAgain Again x again i → Reads u s (set_sort value sort) i rest (λ _ o. IsLaterAgain Again x again o)
  sort_set Again value sort x again i rest s sets is ready same = (
    tt,
    with_sort value sort i,
    (refl, refl),
    record { stands = ready.stands; ordered = ready.ordered; forms = ready.forms; room = let r = ready.room in record { types = r.types; structs = r.structs; symbols = r.symbols; locals = r.locals }; holds = sets i sort is ready.holds },
    (let g = grows_itself i in record {
      types = g.types;
      structs = g.structs;
      symbols = g.symbols;
      locals = g.locals;
    }),
    λ n others later. same n others (later_set value sort i n others later),
  )

  -- and it is what is given
  pub set_reads : {A B : Type 0} (Again : Module → List Text → A → B → Type 0) (value : ℕ) (sort : LocalSort) (x : A) (again : B) (i : Input) (rest : Text) (s : ℕ) → Sets v u value → IsValueSort sort
      → Ready v s i rest → IsLaterAgain Again x again i → Reads u s (set_sort value sort >> pure again) i rest (IsLaterAgain Again x)
  set_reads Again value sort x again i rest s sets is ready same =
      let h = sort_set Again value sort x again i rest s sets is ready same in
      (again, h.1, (tt, h.1, h.2, (refl, refl)), h.3, h.4, h.5)

  -- `T V to U`, of which a part is made, where the operand and the second type are read by these forms
  pub converted_by : {A B : Type 0} (Again : Module → List Text → A → B → Type 0) (make : Argument → ℕ → B) (argument_form : Form Argument) (into_form : Form WrittenType) (x : A) (value from : ℕ) (a : Operand) (to : ℕ) (i : Input) (gap rest : Text) (s : ℕ)
      → ((n : Module) (others : List Text) (b : Argument) (k : ℕ) → IsArgumentAgain m n f.locals others (typed from a) b → IsTypeAgain m n to k → Again n others x (make b k))
      → (own : IsConverted m f from a to)
      → ((afterwards : Text) → IsSeam afterwards → Ready v s i (gap ++ (typed_text m f.locals from a ++ afterwards)) → Reads v s argument_form i afterwards (ArgumentAgain m f.locals (typed from a)))
      → ((q : Input) → Ready v s q (32 ∷ (shown false own.1.0 ++ rest)) → Reads v s into_form q rest (IsTypeRead own.1.0 64))
      → Sets v u value → Ready v s i (gap ++ (converted_text m f.locals (typed from a) to ++ rest))
      → Reads u s (argument_form >>= λ from. expect k.To >> (into_form >>= λ to. set_type value to.id >> pure (make from to.id))) i rest (IsLaterAgain Again x)
  unfolding class_of word_kind keywords
  converted_by {B = B} Again make argument_form into_form x value from a to i gap rest s makes own reads into sets ready =
      let good = IsLaterAgain Again x in
      let shape = own.1.0 in
      let scalar = own.1.1 in
      let type_is = type_shown m shape to scalar.0.0 scalar.0.1 in
      let t2 = shown false shape ++ rest in
      let t1 = codes " to " ++ t2 in
      let ready = subst (λ (y : Text). Ready v s i (gap ++ ((typed_text m f.locals from a ++ codes " to " ++ y) ++ rest))) type_is ready in
      let ready = subst (λ (y : Text). Ready v s i (gap ++ y)) (front (typed_text m f.locals from a) (shown false shape)) ready in
      on v u argument_form to_form i t1 rest s s (ArgumentAgain m f.locals (typed from a)) good
      (reads t1 refl ready)
      (λ b o ready g again.
      on v u (expect k.To) (λ _. type_form b) o (32 ∷ t2) rest s s (λ _ q. advanced o ≡ q) good
      (word_reads v (codes "to") o (32 ∷ []) (32 ∷ t2) s s refl refl refl (omega arith) ready)
      (λ _ q ready h e.
      on v u into_form (set_form b) q rest rest s s (IsTypeRead shape 64) good
      (into q ready)
      (λ p r ready hh read. set_reads Again value (local.Value p.id) x (make b p.id) r rest s sets refl ready
      (λ n others later.
      let latero = later_before o r n others (grows_further o q r h hh) later in
      makes n others b p.id (again n others latero) (read_again m shape to p.id r n others scalar.0.0 read.has_shape later)))))
    where
      front : (a b : Text) → (a ++ codes " to " ++ b) ++ rest ≡ a ++ (codes " to " ++ (b ++ rest))
      front a b = simp append_assoc

      set_form : Argument → WrittenType → Form B
      set_form b p = set_type value p.id >> pure (make b p.id)

      type_form : Argument → Form B
      type_form b = into_form >>= set_form b

      to_form : Argument → Form B
      to_form b = expect k.To >> type_form b

  -- `T V to U`
  pub converted_reads : {A B : Type 0} (Again : Module → List Text → A → B → Type 0) (make : Argument → ℕ → B) (x : A) (value from : ℕ) (a : Operand) (to : ℕ) (i : Input) (gap rest : Text) (s : ℕ)
      → ((n : Module) (others : List Text) (b : Argument) (k : ℕ) → IsArgumentAgain m n f.locals others (typed from a) b → IsTypeAgain m n to k → Again n others x (make b k))
      → IsConverted m f from a to → Sets v u value → AreBlanks gap → EndsType rest
      → Ready v s i (gap ++ (converted_text m f.locals (typed from a) to ++ rest))
      → Reads u s (lists.typed >>= λ from. expect k.To >> (w.scalar >>= λ to. set_type value to.id >> pure (make from to.id))) i rest (IsLaterAgain Again x)
  converted_reads Again make x value from a to i gap rest s makes own sets blanks ends ready =
      converted_by Again make lists.typed w.scalar x value from a to i gap rest s makes own
      (λ afterwards seam ready. typed_reads v from a i gap afterwards s own.0 blanks seam ready)
      (λ q ready. scalar_reads v own.1.0 q (32 ∷ []) rest s own.1.1.0.2 own.1.1.0.1 own.1.1.1 refl ends ready) sets ready

  -- `T V to U`, of integers or pointers
  pub integer_converted_reads : {A B : Type 0} (Again : Module → List Text → A → B → Type 0) (make : Argument → ℕ → B) (x : A) (value from : ℕ) (a : Operand) (to : ℕ) (i : Input) (gap rest : Text) (s : ℕ)
      → ((n : Module) (others : List Text) (b : Argument) (k : ℕ) → IsArgumentAgain m n f.locals others (typed from a) b → IsTypeAgain m n to k → Again n others x (make b k))
      → IsNoFloat m from → IsNoFloat m to → IsConverted m f from a to → Sets v u value → AreBlanks gap → EndsType rest
      → Ready v s i (gap ++ (converted_text m f.locals (typed from a) to ++ rest))
      → Reads u s (numbers.typed_integer >>= λ from. expect k.To >> (w.integer_scalar >>= λ to. set_type value to.id >> pure (make from to.id))) i rest (IsLaterAgain Again x)
  integer_converted_reads Again make x value from a to i gap rest s makes flat_from flat_to own sets blanks ends ready =
      converted_by Again make numbers.typed_integer w.integer_scalar x value from a to i gap rest s makes own
      (λ afterwards seam ready. typed_integer_reads v from a i gap afterwards s flat_from own.0 blanks seam ready)
      (λ q ready. integer_scalar_reads v own.1.0 q (32 ∷ []) rest s own.1.1.0.2 own.1.1.0.1 own.1.1.1 (flat_shape v own.1.0 to own.1.1.0.0 flat_to) refl ends ready) sets ready
