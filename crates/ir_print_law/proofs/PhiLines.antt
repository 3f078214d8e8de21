-- The lines of the phis of a block.
use Rattle.std.proofs.Common.{◌≡◌, ℕ, ◌+◌, ◌<◌, ◌≤◌, Bool, true, false, ◌&&◌, List, [], ◌∷◌, ◌++◌, length, map, slice_get, Some, not, refl, sym, ap, subst, ◌∙◌, arith, append_assoc, length-append, inl, inr}
use Rattle.std.specs.Prelude.{codes}
use Rattle.std.specs.List.{AllByRecursion, flat_map}
use Rattle.std.proofs.lemmas.List.{append-nil}
use Rattle.lemmas.specs.Lists.{last_in}
use Rattle.grammar.specs.Many.{Listed}
use Rattle.ir_ast.specs.declared.choices.Phi.{Phi}
use Rattle.ir_ast.specs.declared.function.Function.{Function}
use Rattle.ir_ast.specs.declared.module.Module.{Module}
use Rattle.ir_tokens.specs.declared.token.Kind.{Kind}
use Rattle.ir_tokens.specs.declared.token.Kind.TheVariants as k
use Rattle.ir_tokens.specs.Bytes.{Text, class_of}
use Rattle.ir_tokens.specs.Keywords.{word_kind, keywords}
use Rattle.ir_forms.specs.Cursor.{kind, kind_after, kind_third, next, same_kind}
use Rattle.ir_forms.specs.Place.{Place}
use Rattle.ir_forms.specs.declared.input.Input.{Input}
use Rattle.ir_forms.specs.Choices.{is_local, begins_phi, at_no_phi, phi_value, phi_value_by, phi}
use Rattle.ir_print.specs.Choices.{incoming_text, phi_line}
use Rattle.ir_print.specs.Names.{name_at, key_text, local_text}
use Rattle.ir_print.specs.Operands.{listed}
use Rattle.ir_print_law.specs.Stands.{Stands, IsSeam, AreBlanks}
use Rattle.ir_print.specs.Types.{type_text}
use Rattle.ir_print_law.specs.PartsAgain.{AreAlike}
use Rattle.ir_print_law.specs.Again.{IsPhiAgain}
use Rattle.ir_print_law.specs.Definitions.{phi_key}
use Rattle.ir_print_law.specs.Printable.{IsPhi}
use Rattle.ir_print_law.specs.Readings.{IsKey}
use Rattle.ir_print_law.proofs.Tables.{stays}
use Rattle.ir_print_law.proofs.State.{Ready}
use Rattle.ir_print_law.proofs.Begins.{IsLocalKind}
use Rattle.ir_print_law.proofs.InnerLines.{far_result}
use Rattle.ir_print_law.proofs.Known.{Far, AreNamed, known}
use Rattle.ir_print_law.proofs.NamesRead.{digits_text, name_key_text}
use Rattle.ir_print_law.proofs.NewValues.{IsNext, unnamed_then, far_value, value_by, value_goes, kind_then}
use Rattle.ir_print_law.proofs.OpNeeds.{begins_body_line, EndsOp, OpsRead, phi_rest}
use Rattle.ir_print_law.proofs.Undropped.{begins_call, no_call_comes}
use Rattle.ir_print_law.proofs.Parts.{IsLaterAgain}
use Rattle.ir_print_law.proofs.Steady.{Steady, Onward, onward_itself, onward_further, next_key, steady_value}
use Rattle.ir_print_law.proofs.WholeForms.{Widens, widens_itself, widens_further, grows_widens, Leads, later_widened}
use Rattle.ir_print_law.proofs.Words.{word_comes, sign_comes, local_comes, local_number_comes}

-- ---- with which tokens a phi begins

-- a local name comes, and then what follows it
pub local_passed : (place : Place) (gap key rest : Text) → IsKey key → AreBlanks gap → IsSeam rest → Stands place (gap ++ 37 ∷ (key_text key ++ rest)) → IsLocalKind (kind place) × Stands (next place) rest
local_passed place gap key rest (inl digits) blanks seam at =
    let c = local_number_comes place gap key rest blanks digits.0 seam (subst (λ (x : Text). Stands place (gap ++ 37 ∷ (x ++ rest))) (digits_text key digits.0) at) in
    (inr c.0, c.3)
local_passed place gap key rest (inr named) blanks seam at =
    let e = named.2 in
    let c = local_comes place gap named.0 rest blanks named.1 seam (subst (λ (x : Text). Stands place (gap ++ 37 ∷ (x ++ rest))) (ap key_text e ∙ name_key_text named.0) at) in
    (inl c.0, c.3)

-- the tokens of `%v = phi`
three_tokens : (x y z : Kind) → IsLocalKind x → y ≡ k.Equals → z ≡ k.Phi → is_local x && (same_kind y k.Equals && same_kind z k.Phi) ≡ true
unfolding same_kind
three_tokens x y z (inl e) f g = rw (e, f, g) refl
three_tokens x y z (inr e) f g = rw (e, f, g) refl

-- another word after `%v =`
pub other_word : (x y z : Kind) → same_kind z k.Phi ≡ false → is_local x && (same_kind y k.Equals && same_kind z k.Phi) ≡ false
other_word x y z e = both (is_local x) (same_kind y k.Equals) (same_kind z k.Phi) e where
  both : (a b c : Bool) → c ≡ false → a && (b && c) ≡ false
  both false b c e = refl
  both true false c e = refl
  both true true c e = e

-- another token than a local name
pub no_local : (i : Input) → is_local (kind i.cursor) ≡ false → begins_phi i ≡ false
no_local i e = ap (λ (a : Bool). a && (same_kind (kind_after i.cursor) k.Equals && same_kind (kind_third i.cursor) k.Phi)) e

-- no phi begins where these bytes come next
abbrev pub BeginsNoPhi : Text → Type 0
BeginsNoPhi rest = (i : Input) → Stands i.cursor rest → begins_phi i ≡ false

-- the line of a phi, and what follows it
pub phi_line_is : (m : Module) (locals : List Text) (x : Phi) (rest : Text) → phi_line m locals x ++ rest ≡ 32 ∷ 32 ∷ 37 ∷ (key_text (name_at locals x.value) ++ (32 ∷ phi_rest m locals x (10 ∷ rest)))
phi_line_is m locals x rest = front (local_text locals x.value) (type_text m x.written) (listed (incoming_text m locals x.written) x.incoming) where
  front : (a b c : Text) → (codes "  " ++ a ++ codes " = phi " ++ b ++ 32 ∷ c ++ codes "\n") ++ rest ≡ 32 ∷ 32 ∷ (a ++ (codes " = phi " ++ (b ++ (32 ∷ (c ++ 10 ∷ rest)))))
  front a b c = simp append_assoc

-- a phi begins there
phi_begins : (m : Module) (locals : List Text) (x : Phi) (i : Input) (rest : Text) → IsKey (name_at locals x.value) → Stands i.cursor (10 ∷ (phi_line m locals x ++ rest))
    → IsLocalKind (kind i.cursor) × (begins_phi i ≡ true)
unfolding class_of word_kind keywords kind kind_after kind_third next
phi_begins m locals x i rest own at =
    let at = subst (λ (t : Text). Stands i.cursor (10 ∷ t)) (phi_line_is m locals x rest) at in
    let a = local_passed i.cursor (10 ∷ 32 ∷ 32 ∷ []) (name_at locals x.value) (32 ∷ phi_rest m locals x (10 ∷ rest)) own refl refl at in
    let b = sign_comes (next i.cursor) (32 ∷ []) 61 _ k.Equals refl refl refl a.1 in
    let c = word_comes (next (next i.cursor)) (32 ∷ []) (codes "phi") _ refl refl refl b.3 in
    (a.0, three_tokens (kind i.cursor) (kind_after i.cursor) (kind_third i.cursor) a.0 b.0 c.0)

local_line : (x : Kind) → IsLocalKind x → begins_body_line x ≡ true
local_line x (inl e) = ap begins_body_line e
local_line x (inr e) = ap begins_body_line e

pub local_no_call : (x : Kind) → IsLocalKind x → begins_call x ≡ false
local_no_call x (inl e) = ap begins_call e
local_no_call x (inr e) = ap begins_call e

-- a token ends before a new line
pub seam_line : (rest : Text) → IsSeam (10 ∷ rest)
unfolding class_of
seam_line rest = refl

module _ (m : Module) (f : Function) (named : AreNamed m f) (ops : OpsRead m f named) where
  -- the name of the value of a phi, by its token
  value_says : (far : Far) (key : Text) (is : IsNext far.unnamed key) (i p : Input) (n : ℕ) → kind i.cursor ≡ kind_then k.LocalNumber k.LocalName far.unnamed key is
      → (value_by m f named far key is).says i n p → phi_value.says i n p
  unfolding phi_value
  value_says far key (inl e) i p n is said = subst (λ (y : Kind). (phi_value_by y).says i n p) (sym is) said
  value_says far key (inr e) i p n is said = subst (λ (y : Kind). (phi_value_by y).says i n p) (sym is) said

  -- the phi is this one again, and reading has gone on after its value
  abbrev IsOneRead : Far → (more : List Text) → Phi → Phi → Far → Input → Type 0
  IsOneRead far more x y now o = Onward far now (phi_key f.locals x ∷ []) [] more × IsLaterAgain (λ n others. IsPhiAgain m n f.locals others) x y o

  one_goes : (x : Phi) (more : List Text) (far : Far) (i : Input) (rest : Text) → IsPhi m f x → Steady far (phi_key f.locals x ∷ more) → length far.values + 1 ≤ 1000000 → length far.labels ≤ 65535
      → EndsOp (10 ∷ rest) → Ready (known m f named far) 0 i (10 ∷ (phi_line m f.locals x ++ rest)) → Leads m f named 0 phi i (10 ∷ rest) (IsOneRead far more x)
  unfolding phi class_of
  one_goes x more far i rest own steady room blocks ends ready =
      let key = name_at f.locals x.value in
      let next = next_key far.seen far.unnamed key more steady.defines_next in
      let is = next.1.0 in
      let counted = steady.counted in
      let few = steady.few_unnamed in
      let many : far.count < 1000000 = omega (arith, room, counted) in
      let numbers : far.unnamed < 4294967295 = omega (arith, room, counted, few, blocks) in
      let here = subst (λ (t : Text). Ready (known m f named far) 0 i (10 ∷ t)) (phi_line_is m f.locals x rest) ready in
      let w = value_goes m f named far key is i (10 ∷ 32 ∷ 32 ∷ []) (32 ∷ phi_rest m f.locals x (10 ∷ rest)) 0 next.0 many numbers steady.none_waits refl refl here in
      let n = w.1.0 in
      let p = w.1.1 in
      let unnamed = unnamed_then far.unnamed key is in
      let r = ops.phi_read x key n (far_value m f named far key n unnamed) p (32 ∷ []) (10 ∷ rest) own refl (last_in key far.seen) (λ label. next.0 (steady.labels_seen key label)) refl ends w.1.3 in
      let o = r.1 in
      let wide = grows_widens p o r.4 in (
        r.0,
        r.1,
        far_result m f named ops far key unnamed,
        (n, p, value_says far key is i p n w.0 w.1.2, r.2),
        r.3,
        widens_further i p o w.1.4 wide,
        (
          record { values_are = refl; labels_are = sym (append-nil far.labels); steady = steady_value far key more is steady next.1.1; same_outside = refl },
          λ later_m others later.
              let there = stays o.locals.names others n key later.locals (stays p.locals.names o.locals.names n key wide.locals w.1.5) in
              let parts = r.5.1 later_m others later in
              (subst (λ (v : ℕ). slice_get others v ≡ Some key) (sym r.5.0) there, parts.0, parts.1),
        ),
      )

  -- ---- the phis of a block

  abbrev pub phi_lines : List Phi → Text
  phi_lines xs = flat_map (phi_line m f.locals) xs

  -- the first of these lines begins with the name of a value
  first_kind : (x : Phi) (xs : List Phi) (i : Input) (rest : Text) → IsKey (phi_key f.locals x) → Stands i.cursor (10 ∷ (phi_lines (x ∷ xs) ++ rest)) → IsLocalKind (kind i.cursor)
  first_kind x xs i rest key at =
      (phi_begins m f.locals x i (phi_lines xs ++ rest) key (subst (λ (t : Text). Stands i.cursor (10 ∷ t)) (append_assoc (phi_line m f.locals x) (phi_lines xs) rest) at)).0

  -- the next line is one of a phi, or what follows the phis
  pub phis_end : (xs : List Phi) (rest : Text) → AllByRecursion IsKey (map (phi_key f.locals) xs) → EndsOp (10 ∷ rest) → EndsOp (10 ∷ (phi_lines xs ++ rest))
  phis_end [] rest keys ends = ends
  phis_end (x ∷ xs) rest keys ends = (
    seam_line (phi_lines (x ∷ xs) ++ rest),
    λ i at. local_line (kind i.cursor) (first_kind x xs i rest keys.0 at),
    λ i at. no_call_comes i.cursor (local_no_call (kind i.cursor) (first_kind x xs i rest keys.0 at)),
  )

  abbrev pub PhisGo : List Phi → (more : List Text) → Far → Input → (rest : Text) → Type 0
  PhisGo xs more far i rest =
      (ys : List Phi) × (o : Input) × (now : Far) × Listed at_no_phi phi.says i ys o × Ready (known m f named now) 0 o (10 ∷ rest) × Widens i o
      × Onward far now (map (phi_key f.locals) xs) [] more × IsLaterAgain (λ n others. AreAlike (IsPhiAgain m n f.locals others)) xs ys o

  pub phis_go : (xs : List Phi) (more : List Text) (far : Far) (i : Input) (rest : Text) → AllByRecursion (IsPhi m f) xs → AllByRecursion IsKey (map (phi_key f.locals) xs)
      → Steady far (map (phi_key f.locals) xs ++ more) → length far.values + length xs ≤ 1000000 → length far.labels ≤ 65535 → EndsOp (10 ∷ rest) → BeginsNoPhi (10 ∷ rest)
      → Ready (known m f named far) 0 i (10 ∷ (phi_lines xs ++ rest)) → PhisGo xs more far i rest
  phis_go [] more far i rest own keys steady room blocks ends none ready =
      ([], i, far, (ap not (none i ready.stands), refl), ready, widens_itself i, onward_itself far more steady, λ n others later. tt)
  phis_go (x ∷ xs) more far i rest own keys steady room blocks ends none ready =
      let here = subst (λ (t : Text). Ready (known m f named far) 0 i (10 ∷ t)) (append_assoc (phi_line m f.locals x) (phi_lines xs) rest) ready in
      let begins = (phi_begins m f.locals x i (phi_lines xs ++ rest) keys.0 here.stands).1 in
      let one = one_goes x (map (phi_key f.locals) xs ++ more) far i (phi_lines xs ++ rest) own.0 steady (omega (arith, room)) blocks (phis_end xs rest keys.1 ends) here in
      let p = one.1 in
      let mid = one.2 in
      let on = one.6.0 in
      let value_count : length one.2.values ≡ length far.values + 1 = ap length on.values_are ∙ length-append far.values (phi_key f.locals x ∷ []) in
      let label_count : length one.2.labels ≡ length far.labels = ap length on.labels_are ∙ ap length (append-nil far.labels) in
      let further = phis_go xs more one.2 one.1 rest own.1 keys.1 on.steady (omega (arith, room, value_count)) (omega (arith, blocks, label_count)) ends none one.4 in (
        one.0 ∷ further.0,
        further.1,
        further.2,
        (ap not begins, p, one.3, further.3),
        further.4,
        widens_further i p further.1 one.5 further.5,
        onward_further far mid further.2 (phi_key f.locals x ∷ []) [] (map (phi_key f.locals) xs) [] (map (phi_key f.locals) xs ++ more) more on further.6,
        λ n others later. (one.6.1 n others (later_widened p further.1 n others further.5 later), further.7 n others later),
      )
