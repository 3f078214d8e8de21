-- Forms that define names: what is known of the names changes with them.
use Rattle.std.proofs.Common.{◌≡◌, ℕ, Bool, true, List, refl, sym, subst}
use Rattle.grammar.specs.Grammar.{pure, checked, look, ◌>>=◌, ◌>>◌}
use Rattle.ir_ast.specs.declared.function.Function.{Function}
use Rattle.ir_ast.specs.declared.module.Module.{Module}
use Rattle.ir_tokens.specs.Bytes.{Text}
use Rattle.ir_forms.specs.declared.fault.Fault.{Fault}
use Rattle.ir_forms.specs.declared.input.Input.{Input}
use Rattle.ir_forms.specs.Input.{Form, left}
use Rattle.ir_print_law.proofs.Tables.{Begins, begins_itself, begins_further}
use Rattle.ir_print_law.proofs.State.{Invariant, Ready, Grows, IsLater, Reads}
use Rattle.ir_print_law.proofs.Known.{Far, AreNamed, known}

-- further types and names come after those that were read
pub record Widens (i o : Input) : Type 0 where
  pub types : Begins i.types o.types
  pub structs : Begins i.struct_names.names o.struct_names.names
  pub symbols : Begins i.symbols.names o.symbols.names
  pub locals : Begins i.locals.names o.locals.names

pub widens_itself : (i : Input) → Widens i i
widens_itself i = record { types = begins_itself i.types; structs = begins_itself i.struct_names.names; symbols = begins_itself i.symbols.names; locals = begins_itself i.locals.names }

pub widens_further : (i m o : Input) → Widens i m → Widens m o → Widens i o
widens_further i m o a b = record {
  types = begins_further i.types m.types o.types a.types b.types;
  structs = begins_further i.struct_names.names m.struct_names.names o.struct_names.names a.structs b.structs;
  symbols = begins_further i.symbols.names m.symbols.names o.symbols.names a.symbols b.symbols;
  locals = begins_further i.locals.names m.locals.names o.locals.names a.locals b.locals;
}

pub grows_widens : (i o : Input) → Grows i o → Widens i o
grows_widens i o g = record { types = g.types; structs = g.structs; symbols = g.symbols; locals = g.locals }

pub later_widened : (i o : Input) (n : Module) (others : List Text) → Widens i o → IsLater o n others → IsLater i n others
later_widened i o n others a b = record {
  types = begins_further i.types o.types n.types a.types b.types;
  structs = begins_further i.struct_names.names o.struct_names.names n.struct_names a.structs b.structs;
  symbols = begins_further i.symbols.names o.symbols.names n.symbols a.symbols b.symbols;
  locals = begins_further i.locals.names o.locals.names others a.locals b.locals;
}

-- The form reads the bytes up to these, what it gives is good then, and this is known of the names.
abbrev pub Goes : {m : Module} {f : Function} (v : Invariant m f) (spare : ℕ) {A : Type 0} → Form A → Input → (rest : Text) → (Good : A → Input → Type 0) → Type 0
Goes v spare {A = A} form i rest Good = (a : A) × (o : Input) × form.says i a o × Ready v spare o rest × Widens i o × Good a o

pub goes : {m : Module} {f : Function} (v : Invariant m f) {A : Type 0} (form : Form A) (i : Input) (rest : Text) (s : ℕ) (P : A → Input → Type 0) → Reads v s form i rest P → Goes v s form i rest P
goes v form i rest s P h = (h.0, h.1, h.2, h.3, grows_widens i h.1 h.4, h.5)

-- one form after another
pub goes_on : {m : Module} {f g : Function} (v : Invariant m f) (w : Invariant m g) {A B : Type 0} (form : Form A) (next_form : A → Form B) (i : Input) (afterwards rest : Text) (s t : ℕ) (P : A → Input → Type 0) (Q : B → Input → Type 0)
    → Goes v s form i afterwards P → ((a : A) (o : Input) → Ready v s o afterwards → Widens i o → P a o → Goes w t (next_form a) o rest Q) → Goes w t (form >>= next_form) i rest Q
goes_on v w form next_form i afterwards rest s t P Q h k =
    let n = k h.0 h.1 h.3 h.4 h.5 in
    (n.0, n.1, (h.0, h.1, h.2, n.2), n.3, widens_further i h.1 n.1 h.4 n.4, n.5)

-- a form of types, operands or operations, and then another one
pub reads_on : {m : Module} {f g : Function} (v : Invariant m f) (w : Invariant m g) {A B : Type 0} (form : Form A) (next_form : A → Form B) (i : Input) (afterwards rest : Text) (s t : ℕ) (P : A → Input → Type 0) (Q : B → Input → Type 0)
    → Reads v s form i afterwards P → ((a : A) (o : Input) → Ready v s o afterwards → Widens i o → P a o → Goes w t (next_form a) o rest Q) → Goes w t (form >>= next_form) i rest Q
reads_on v w form next_form i afterwards rest s t P Q h k = goes_on v w form next_form i afterwards rest s t P Q (goes v form i afterwards s P h) k

-- a form of which it is known what it says, which leaves the state
pub stays_on : {m : Module} {g : Function} (w : Invariant m g) {A B : Type 0} (form : Form A) (next_form : A → Form B) (i : Input) (a : A) (rest : Text) (t : ℕ) (Q : B → Input → Type 0)
    → form.says i a i → Goes w t (next_form a) i rest Q → Goes w t (form >>= next_form) i rest Q
stays_on w form next_form i a rest t Q said n = (n.0, n.1, (a, i, said, n.2), n.3, n.4, n.5)

-- the form that the state tells
pub looks_on : {m : Module} {g : Function} (w : Invariant m g) {K A : Type 0} (of : Input → K) (form : K → Form A) (i : Input) (rest : Text) (t : ℕ) (Q : A → Input → Type 0) (x : K)
    → of i ≡ x → Goes w t (form x) i rest Q → Goes w t (look of form) i rest Q
looks_on w of form i rest t Q x e h = subst (λ (y : _). Goes w t (form y) i rest Q) (sym e) h

-- what is known further
pub goes_so : {m : Module} {f : Function} (v : Invariant m f) {A : Type 0} (form : Form A) (i : Input) (rest : Text) (s : ℕ) (P Q : A → Input → Type 0) → Goes v s form i rest P
    → ((a : A) (o : Input) → Widens i o → P a o → Q a o) → Goes v s form i rest Q
goes_so v form i rest s P Q h k = (h.0, h.1, h.2, h.3, h.4, k h.0 h.1 h.4 h.5)

pub goes_given : {m : Module} {f : Function} (v : Invariant m f) {A : Type 0} (a : A) (i : Input) (rest : Text) (s : ℕ) (Q : A → Input → Type 0) → Ready v s i rest → Q a i
    → Goes v s (pure {E = Fault} {left = left} a) i rest Q
goes_given v a i rest s Q ready q = (a, i, (refl, refl), ready, widens_itself i, q)

-- this test is passed
pub test_on : {m : Module} {g : Function} (w : Invariant m g) {B : Type 0} (test : Input → Bool) (fault : Input → Fault) (form : Form B) (i : Input) (rest : Text) (t : ℕ) (Q : B → Input → Type 0)
    → test i ≡ true → Goes w t form i rest Q → Goes w t (checked test fault >> form) i rest Q
test_on w test fault form i rest t Q e h = (h.0, h.1, (tt, i, (e, refl), h.2), h.3, h.4, h.5)

-- the same place, where other things are known of the names
pub ready_as : {m : Module} {f g : Function} (v : Invariant m f) (w : Invariant m g) (i : Input) (bytes : Text) (s : ℕ) → (v.Holds i → w.Holds i) → Ready v s i bytes → Ready w s i bytes
ready_as v w i bytes s so ready = record { stands = ready.stands; ordered = ready.ordered; forms = ready.forms; room = ready.room; holds = so ready.holds }

-- ---- forms after which more is known of the names

-- The form reads the bytes up to these, and then this much is known of the names.
abbrev pub Leads : (m : Module) (f : Function) (named : AreNamed m f) (spare : ℕ) {A : Type 0} → Form A → Input → (rest : Text) → (Good : A → Far → Input → Type 0) → Type 0
Leads m f named spare {A = A} form i rest Good =
    (a : A) × (o : Input) × (far : Far) × form.says i a o × Ready (known m f named far) spare o rest × Widens i o × Good a far o

-- one form, and then another one
pub leads_on : {m : Module} {f g : Function} (v : Invariant m g) (named : AreNamed m f) {A B : Type 0} (form : Form A) (next_form : A → Form B) (i : Input) (afterwards rest : Text) (s t : ℕ)
    (P : A → Input → Type 0) (Q : B → Far → Input → Type 0) → Goes v s form i afterwards P
    → ((a : A) (o : Input) → Ready v s o afterwards → Widens i o → P a o → Leads m f named t (next_form a) o rest Q) → Leads m f named t (form >>= next_form) i rest Q
leads_on v named form next_form i afterwards rest s t P Q h k =
    let n = k h.0 h.1 h.3 h.4 h.5 in
    (n.0, n.1, n.2, (h.0, h.1, h.2, n.3), n.4, widens_further i h.1 n.1 h.4 n.5, n.6)

pub reads_lead : {m : Module} {f g : Function} (v : Invariant m g) (named : AreNamed m f) {A B : Type 0} (form : Form A) (next_form : A → Form B) (i : Input) (afterwards rest : Text) (s t : ℕ)
    (P : A → Input → Type 0) (Q : B → Far → Input → Type 0) → Reads v s form i afterwards P
    → ((a : A) (o : Input) → Ready v s o afterwards → Widens i o → P a o → Leads m f named t (next_form a) o rest Q) → Leads m f named t (form >>= next_form) i rest Q
reads_lead v named form next_form i afterwards rest s t P Q h k = leads_on v named form next_form i afterwards rest s t P Q (goes v form i afterwards s P h) k

-- a form of which it is known what it says, which leaves the state
pub stays_lead : {m : Module} {f : Function} (named : AreNamed m f) {A B : Type 0} (form : Form A) (next_form : A → Form B) (i : Input) (a : A) (rest : Text) (t : ℕ) (Q : B → Far → Input → Type 0)
    → form.says i a i → Leads m f named t (next_form a) i rest Q → Leads m f named t (form >>= next_form) i rest Q
stays_lead named form next_form i a rest t Q said n = (n.0, n.1, n.2, (a, i, said, n.3), n.4, n.5, n.6)

-- one form after which more is known, and then another one
pub leads_further : {m : Module} {f : Function} (named : AreNamed m f) {A B : Type 0} (form : Form A) (next_form : A → Form B) (i : Input) (afterwards rest : Text) (s t : ℕ)
    (P : A → Far → Input → Type 0) (Q : B → Far → Input → Type 0) → Leads m f named s form i afterwards P
    → ((a : A) (far : Far) (o : Input) → Ready (known m f named far) s o afterwards → Widens i o → P a far o → Leads m f named t (next_form a) o rest Q) → Leads m f named t (form >>= next_form) i rest Q
leads_further named form next_form i afterwards rest s t P Q h k =
    let n = k h.0 h.2 h.1 h.4 h.5 h.6 in
    (n.0, n.1, n.2, (h.0, h.1, h.3, n.3), n.4, widens_further i h.1 n.1 h.5 n.5, n.6)

pub looks_lead : {m : Module} {f : Function} (named : AreNamed m f) {K A : Type 0} (of : Input → K) (form : K → Form A) (i : Input) (rest : Text) (t : ℕ) (Q : A → Far → Input → Type 0) (x : K)
    → of i ≡ x → Leads m f named t (form x) i rest Q → Leads m f named t (look of form) i rest Q
looks_lead {m = m} {f = f} named of form i rest t Q x e h = subst (λ (y : _). Leads m f named t (form y) i rest Q) (sym e) h

pub lead_so : {m : Module} {f : Function} (named : AreNamed m f) {A : Type 0} (form : Form A) (i : Input) (rest : Text) (s : ℕ) (P Q : A → Far → Input → Type 0) → Leads m f named s form i rest P
    → ((a : A) (far : Far) (o : Input) → Widens i o → P a far o → Q a far o) → Leads m f named s form i rest Q
lead_so named form i rest s P Q h k = (h.0, h.1, h.2, h.3, h.4, h.5, k h.0 h.2 h.1 h.5 h.6)
