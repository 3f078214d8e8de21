-- Values and labels that a function names, as they are read.
use Rattle.std.proofs.Common.{◌≡◌, ℕ, ◌+◌, ◌<◌, true, false, not, List, [], length, slice_get, unwrap_or, Option, None, Some, refl, sym, ap, subst, ◌∙◌, arith}
use Rattle.std.specs.Prelude.{nat_lt}
use Rattle.std.specs.Fmt as text
use Rattle.std.proofs.lemmas.Bool.Decides.{nat_tests}
use Rattle.lemmas.specs.Bools.{not_true}
use Rattle.lemmas.specs.Lists.{IsIn}
use Rattle.ir_ast.specs.LocalKeys.{key_of_name, key_of_digits}
use Rattle.ir_ast.specs.Names.{numbered, number_of}
use Rattle.ir_ast.specs.declared.function.Function.{Function}
use Rattle.ir_ast.specs.declared.function.LocalSort.{LocalSort}
use Rattle.ir_ast.specs.declared.function.LocalSort.TheVariants as local
use Rattle.ir_ast.specs.declared.module.Module.{Module}
use Rattle.ir_tokens.specs.Bytes.{Text}
use Rattle.ir_forms.specs.Cursor.{kind, spelled, local_key, is_local_number}
use Rattle.ir_forms.specs.Table.{mentioned, defined}
use Rattle.ir_forms.specs.declared.table.Table.{Table}
use Rattle.ir_forms.specs.declared.input.Input.{Input}
use Rattle.ir_forms.specs.Input.{Form, advanced}
use Rattle.ir_forms.specs.Names.{is_local, is_known_local, is_written_next, with_number_taken, take_number, next_number, local_number, with_value, new_value, numbered_value, key_number, with_unwritten_value, unnamed_value, with_label, new_label, numbered_label, with_unwritten_label, unnamed_label}
use Rattle.ir_print.specs.Names.{name_at}
use Rattle.ir_print_law.proofs.DefinedLocals.{label_named, label_numbered}
use Rattle.ir_print_law.proofs.DefinedNames.{IsNameKey, number_is_new}
use Rattle.ir_print_law.proofs.Forms.{Keeps, Any}
use Rattle.ir_print_law.proofs.FunctionState.{Holds, Ends, value_holds, label_holds, own_ends, token_ends, mention_ends, kit, sort_holds, sort_ends}
use Rattle.ir_print_law.proofs.FunctionPlaces.{key_there, value_places, label_places}
use Rattle.ir_print_law.proofs.LocalNames.{Locals, keys_at, mention_keeps, key_is_new, value_named, value_numbered}
use Rattle.ir_print_law.proofs.NumberKeys.{number_key}
use Rattle.ir_print_law.proofs.Outside.{Outside, with_own}
use Rattle.ir_print_law.proofs.Reading.{Progress, with_named_value, with_named_label, Builder}
use Rattle.ir_print_law.proofs.Tables.{begins_itself, name_there}

-- ---- what the rules say

-- a number that is written is the next one
abbrev pub IsTaken : Input → Input → Type 0
IsTaken i o = (i.unnamed < 4294967295) × (with_number_taken i ≡ o)

pub taken : (i : Input) (a : Unit {0}) (o : Input) → take_number.says i a o → IsTaken i o
unfolding take_number
taken i a o h =
    let e = h.2.1 in
    let few : nat_lt i.unnamed 4294967295 ≡ true = h.2.0 in
    (grind (arith, nat_tests), ap with_number_taken e ∙ h.3.1)

pub next_taken : (i : Input) (a : Unit {0}) (o : Input) → next_number.says i a o → (is_written_next i ≡ true) × IsTaken i o
unfolding next_number
next_taken i a o h = (h.2.0, subst (λ (j : Input). IsTaken j o) (sym h.2.1) (taken h.1 a o h.3))

-- a value that was not defined before
abbrev pub IsNewValue : Input → ℕ → Input → Type 0
IsNewValue i n o = (is_known_local i ≡ false) × (i.values < 1000000) × (local_number i ≡ n) × (with_value i ≡ o)

pub new_value_is : (i : Input) (n : ℕ) (o : Input) → new_value.says i n o → IsNewValue i n o
unfolding new_value
new_value_is i n o h =
    let rules = h.2 in
    let new = rules.2 in
    let first = new.2.1 in
    let second = first ∙ new.3.1 in
    let same = second ∙ rules.3.1 in
    let few : nat_lt i.values 1000000 ≡ true = ap (λ (j : Input). nat_lt j.values 1000000) second ∙ rules.3.0 in
    (not_true (is_known_local i) (ap (λ (j : Input). not (is_known_local j)) first ∙ new.3.0), grind (arith, nat_tests), ap local_number same ∙ h.3.0, ap with_value same ∙ h.3.1)

-- a label that was not defined before
abbrev pub IsNewLabel : (block : ℕ) → Input → ℕ → Input → Type 0
IsNewLabel block i n o = (is_known_local i ≡ false) × (local_number i ≡ n) × (with_label block i ≡ o)

pub new_label_is : (block : ℕ) (i : Input) (n : ℕ) (o : Input) → (new_label block).says i n o → IsNewLabel block i n o
unfolding new_label
new_label_is block i n o h =
    let rules = h.2 in
    let first = rules.2.1 in
    let same = first ∙ rules.3.1 in
    (not_true (is_known_local i) (ap (λ (j : Input). not (is_known_local j)) first ∙ rules.3.0), ap local_number same ∙ h.3.0, ap (with_label block) same ∙ h.3.1)

-- ---- keys

name_key : (i : Input) → is_local_number (kind i.cursor) ≡ false → local_key i.cursor ≡ key_of_name (spelled i.cursor)
unfolding local_key
name_key i none = rw none refl

digits_key : (i : Input) → is_local_number (kind i.cursor) ≡ true → local_key i.cursor ≡ key_of_digits (spelled i.cursor)
unfolding local_key
digits_key i is = rw is refl

-- a key that is defined nowhere has a number that names nothing
fresh_number : (g : Progress) (key : Text) (names : List Text) → (IsIn key (keys_at (numbered key names) g.names) → ⊥) → IsIn (number_of key names) g.names → ⊥
fresh_number g key names new there =
    let more = numbered key names in
    let at : name_at more (number_of key names) ≡ key = ap (λ (x : Option Text). unwrap_or x []) (name_there key names) in
    new (subst (λ x. IsIn x (keys_at more g.names)) at (key_there more g.names (number_of key names) there))

-- a key that means nothing so far, and one that is the next number
fresh_name : (g : Progress) (t : Table LocalSort) (unnamed : ℕ) (key : Text) → Locals g None t unnamed
    → is_local (slice_get (mentioned key local.Unknown t).sorts (number_of key t.names)) ≡ false
    → IsIn (number_of key t.names) g.names → ⊥
fresh_name g t unnamed key h none =
    let more = mentioned key local.Unknown t in
    fresh_number g key t.names (key_is_new g more unnamed key (number_of key t.names) (mention_keeps g None t unnamed key h) (name_there key t.names) none)

fresh_next : (g : Progress) (t : Table LocalSort) (unnamed : ℕ) (key : Text) → Locals g None t unnamed → unnamed < 4294967295 → key ≡ text.decimal unnamed
    → IsIn (number_of key t.names) g.names → ⊥
fresh_next g t unnamed key h few is =
    let more = mention_keeps g None t unnamed key h in
    let new = number_is_new [] 0 (keys_at (numbered key t.names) g.names) unnamed (omega (arith, few)) more.defines in
    fresh_number g key t.names (λ there. new (subst (λ x. IsIn x (keys_at (numbered key t.names) g.names)) is there))

module _ {m : Module} (w : Outside m) where
  -- a name that is written is the key of a name
  written_name : (i : Input) → w.reading.Fore i → is_local_number (kind i.cursor) ≡ false → IsNameKey (local_key i.cursor)
  written_name i fore none = (spelled i.cursor, w.bytes i fore, name_key i none)

  -- a number that is written is the next one in decimal
  written_number : (i : Input) → w.reading.Fore i → is_local_number (kind i.cursor) ≡ true → is_written_next i ≡ true → local_key i.cursor ≡ text.decimal i.unnamed
  written_number i fore is next = digits_key i is ∙ number_key (spelled i.cursor) i.unnamed (w.digits i fore is) next

  -- ---- values

  value_outside : (i : Input) (next : ℕ) → w.reading.Fore i
      → w.reading.Fore (with_own (mentioned (local_key i.cursor) local.Unknown i.locals) i.local_uses (i.values + 1) next (advanced i))
  value_outside i next fore = w.on_own (advanced i) (mentioned (local_key i.cursor) local.Unknown i.locals) i.local_uses (i.values + 1) next (w.reading.on_token i fore)

  named_fore : (g : Progress) (i : Input) (n : ℕ) (o : Input) → is_local_number (kind i.cursor) ≡ false → IsNewValue i n o → Holds m w g None i
      → Holds m w (with_named_value g n) (Some n) o
  named_fore g i n o none new h =
      let key = local_key i.cursor in
      let t = mentioned key local.Unknown i.locals in
      let more = mention_keeps g None i.locals i.unnamed key h.names in
      let names = value_named g t i.unnamed key (local_number i) more (name_there key i.locals.names) new.0 (written_name i h.outside none) in
      let places = value_places g i.locals i.local_uses key h.places (fresh_name g i.locals i.unnamed key h.names new.0) in
      let held = value_holds w g (local_number i) i (with_value i) h (value_outside i i.unnamed h.outside) names refl new.1 h.numbers places in
      subst (λ (x : ℕ). Holds m w (with_named_value g x) (Some x) o) new.2 (subst (Holds m w (with_named_value g (local_number i)) (Some (local_number i))) new.3 held)

  numbered_fore : (g : Progress) (i m1 : Input) (n : ℕ) (o : Input) → is_local_number (kind i.cursor) ≡ true → is_written_next i ≡ true → IsTaken i m1 → IsNewValue m1 n o
      → Holds m w g None i
      → Holds m w (with_named_value g n) (Some n) o
  numbered_fore g i m1 n o is next took new h =
      let key = local_key i.cursor in
      let t = mentioned key local.Unknown i.locals in
      let few = took.0 in
      let first = with_number_taken i in
      let room : i.values < 1000000 = subst (λ (j : Input). j.values < 1000000) (sym took.1) new.1 in
      let there = name_there key i.locals.names ∙ ap Some (written_number i h.outside is next) in
      let names = value_numbered g t i.unnamed (local_number i) (omega (arith, few)) (mention_keeps g None i.locals i.unnamed key h.names) there in
      let places = value_places g i.locals i.local_uses key h.places (fresh_next g i.locals i.unnamed key h.names few (written_number i h.outside is next)) in
      let held = value_holds w g (local_number i) i (with_value first) h (value_outside i (i.unnamed + 1) h.outside) names refl room (omega (arith, few)) places in
      let number : local_number first ≡ n = ap local_number took.1 ∙ new.2 in
      let end : with_value first ≡ o = ap with_value took.1 ∙ new.3 in
      subst (λ (x : ℕ). Holds m w (with_named_value g x) (Some x) o) number (subst (Holds m w (with_named_value g (local_number i)) (Some (local_number i))) end held)

  -- a value without a written name
  unnamed_fore : (g : Progress) (i : Input) → i.unnamed < 4294967295 → i.values < 1000000 → Holds m w g None i
      → Holds m w (with_named_value g (key_number (text.decimal i.unnamed) i)) (Some (key_number (text.decimal i.unnamed) i))
      (with_unwritten_value (text.decimal i.unnamed) (with_number_taken i))
  unnamed_fore g i few room h =
      let key = text.decimal i.unnamed in
      let t = mentioned key local.Unknown i.locals in
      let n = key_number key i in
      let names = value_numbered g t i.unnamed n (omega (arith, few)) (mention_keeps g None i.locals i.unnamed key h.names) (name_there key i.locals.names) in
      let places = value_places g i.locals i.local_uses key h.places (fresh_next g i.locals i.unnamed key h.names few refl) in
      value_holds w g n i (with_unwritten_value key (with_number_taken i)) h (w.on_own i t i.local_uses (i.values + 1) (i.unnamed + 1) h.outside) names refl room
      (omega (arith, few)) places

  -- ---- labels

  label_fore : (g : Progress) (i : Input) (n : ℕ) (o : Input) → is_local_number (kind i.cursor) ≡ false → IsNewLabel (length g.labels) i n o → Holds m w g None i
      → Holds m w (with_named_label g n) None o
  label_fore g i n o none new h =
      let key = local_key i.cursor in
      let t = mentioned key local.Unknown i.locals in
      let b = length g.labels in
      let more = mention_keeps g None i.locals i.unnamed key h.names in
      let names = label_named g t i.unnamed key (local_number i) more (name_there key i.locals.names) new.0 (written_name i h.outside none) in
      let outside = w.on_own (advanced i) (defined (local_number i) (local.Block b) t) i.local_uses i.values i.unnamed (w.reading.on_token i h.outside) in
      let places = label_places g i.locals i.local_uses key h.places (fresh_name g i.locals i.unnamed key h.names new.0) more.same in
      let held = label_holds w g (local_number i) i (with_label b i) h outside names refl h.numbers places in
      subst (λ (x : ℕ). Holds m w (with_named_label g x) None o) new.1 (subst (Holds m w (with_named_label g (local_number i)) None) new.2 held)

  numbered_label_fore : (g : Progress) (i m1 : Input) (n : ℕ) (o : Input) → is_local_number (kind i.cursor) ≡ true → is_written_next i ≡ true → IsTaken i m1
      → IsNewLabel (length g.labels) m1 n o → Holds m w g None i
      → Holds m w (with_named_label g n) None o
  numbered_label_fore g i m1 n o is next took new h =
      let key = local_key i.cursor in
      let t = mentioned key local.Unknown i.locals in
      let b = length g.labels in
      let few = took.0 in
      let first = with_number_taken i in
      let there = name_there key i.locals.names ∙ ap Some (written_number i h.outside is next) in
      let more = mention_keeps g None i.locals i.unnamed key h.names in
      let names = label_numbered g t i.unnamed (local_number i) (omega (arith, few)) more there in
      let places = label_places g i.locals i.local_uses key h.places (fresh_next g i.locals i.unnamed key h.names few (written_number i h.outside is next)) more.same in
      let outside = w.on_own (advanced i) (defined (local_number i) (local.Block b) t) i.local_uses i.values (i.unnamed + 1) (w.reading.on_token i h.outside) in
      let held = label_holds w g (local_number i) i (with_label b first) h outside names refl (omega (arith, few)) places in
      let number : local_number first ≡ n = ap local_number took.1 ∙ new.1 in
      let end : with_label b first ≡ o = ap (with_label b) took.1 ∙ new.2 in
      subst (λ (x : ℕ). Holds m w (with_named_label g x) None o) number (subst (Holds m w (with_named_label g (local_number i)) None) end held)

  unnamed_label_fore : (g : Progress) (i : Input) → i.unnamed < 4294967295 → Holds m w g None i
      → Holds m w (with_named_label g (key_number (text.decimal i.unnamed) i)) None (with_unwritten_label (text.decimal i.unnamed) (length g.labels) (with_number_taken i))
  unnamed_label_fore g i few h =
      let key = text.decimal i.unnamed in
      let t = mentioned key local.Unknown i.locals in
      let n = key_number key i in
      let b = length g.labels in
      let more = mention_keeps g None i.locals i.unnamed key h.names in
      let names = label_numbered g t i.unnamed n (omega (arith, few)) more (name_there key i.locals.names) in
      let places = label_places g i.locals i.local_uses key h.places (fresh_next g i.locals i.unnamed key h.names few refl) more.same in
      let outside = w.on_own i (defined n (local.Block b) t) i.local_uses i.values (i.unnamed + 1) h.outside in
      label_holds w g n i (with_unwritten_label key b (with_number_taken i)) h outside names refl (omega (arith, few)) places

  -- ---- the forms

  module _ (f : Function) (t : Table LocalSort) (last : ℕ) where
    -- where the end is known after a name that was read, it is known before it
    value_back : (i : Input) → Ends m w f t last (with_value i) → Ends m w f t last i
    value_back i h =
        token_ends w f t last i
        (mention_ends w f t last (advanced i) (local_key i.cursor) (mentioned (local_key i.cursor) local.Unknown i.locals).sorts (i.values + 1) i.unnamed h)

    label_back : (b : ℕ) (i : Input) → Ends m w f t last (with_label b i) → Ends m w f t last i
    label_back b i h =
        token_ends w f t last i
        (mention_ends w f t last (advanced i) (local_key i.cursor)
        (defined (local_number i) (local.Block b) (mentioned (local_key i.cursor) local.Unknown i.locals)).sorts i.values i.unnamed h)

    taken_back : (i o : Input) → IsTaken i o → Ends m w f t last o → Ends m w f t last i
    taken_back i o took h =
        own_ends w f t last i i.locals i.local_uses i.values (i.unnamed + 1) (subst (Ends m w f t last) (sym took.1) h) (begins_itself i.locals.names) (λ u there. there)

    abbrev Values : Progress → Form ℕ → Input → Type 0
    Values g form i = Keeps (Holds m w g None) (λ n. Holds m w (with_named_value g n) (Some n)) (Ends m w f t last) form Any i

    abbrev Labels : Progress → Form ℕ → Input → Type 0
    Labels g form i = Keeps (Holds m w g None) (λ n. Holds m w (with_named_label g n) None) (Ends m w f t last) form Any i

    named_keeps : (g : Progress) (i : Input) → is_local_number (kind i.cursor) ≡ false → Values g new_value i
    named_keeps g i none n o said h =
        let new = new_value_is i n o said in
        (named_fore g i n o none new h, λ back. (value_back i (subst (Ends m w f t last) (sym new.3) back), tt))

    numbered_keeps : (g : Progress) (i : Input) → is_local_number (kind i.cursor) ≡ true → Values g numbered_value i
    unfolding numbered_value
    numbered_keeps g i is n o said h =
        let next = next_taken i said.0 said.1 said.2 in
        let new = new_value_is said.1 n o said.3 in
        (numbered_fore g i said.1 n o is next.0 next.1 new h, λ back. (taken_back i said.1 next.1 (value_back said.1 (subst (Ends m w f t last) (sym new.3) back)), tt))

    unnamed_keeps : (g : Progress) (i : Input) → Values g unnamed_value i
    unfolding unnamed_value
    unnamed_keeps g i n o said h =
        let key = text.decimal i.unnamed in
        let took = taken i said.0 said.1 said.2 in
        let form = said.3 in
        let rules = form.2 in
        let same = rules.2.1 ∙ rules.3.1 in
        let few : nat_lt i.values 1000000 ≡ true = ap (λ (j : Input). nat_lt j.values 1000000) (took.1 ∙ rules.2.1) ∙ rules.3.0 in
        let first = with_number_taken i in
        let number : key_number key first ≡ n = ap (key_number key) (took.1 ∙ same) ∙ form.3.0 in
        let end : with_unwritten_value key first ≡ o = ap (with_unwritten_value key) (took.1 ∙ same) ∙ form.3.1 in
        let held = unnamed_fore g i took.0 (grind (arith, nat_tests)) h in (
          subst (λ (x : ℕ). Holds m w (with_named_value g x) (Some x) o) number (subst (Holds m w (with_named_value g (key_number key i)) (Some (key_number key i))) end held),
          λ back. (mention_ends w f t last i key (mentioned key local.Unknown i.locals).sorts (i.values + 1) (i.unnamed + 1) (subst (Ends m w f t last) (sym end) back), tt),
        )

    label_keeps : (g : Progress) (i : Input) → is_local_number (kind i.cursor) ≡ false → Labels g (new_label (length g.labels)) i
    label_keeps g i none n o said h =
        let new = new_label_is (length g.labels) i n o said in
        (label_fore g i n o none new h, λ back. (label_back (length g.labels) i (subst (Ends m w f t last) (sym new.2) back), tt))

    numbered_label_keeps : (g : Progress) (i : Input) → is_local_number (kind i.cursor) ≡ true → Labels g (numbered_label (length g.labels)) i
    unfolding numbered_label
    numbered_label_keeps g i is n o said h =
        let next = next_taken i said.0 said.1 said.2 in
        let new = new_label_is (length g.labels) said.1 n o said.3 in (
          numbered_label_fore g i said.1 n o is next.0 next.1 new h,
          λ back. (taken_back i said.1 next.1 (label_back (length g.labels) said.1 (subst (Ends m w f t last) (sym new.2) back)), tt),
        )

    unnamed_label_keeps : (g : Progress) (i : Input) → Labels g (unnamed_label (length g.labels)) i
    unfolding unnamed_label
    unnamed_label_keeps g i n o said h =
        let key = text.decimal i.unnamed in
        let b = length g.labels in
        let took = taken i said.0 said.1 said.2 in
        let form = said.3 in
        let same = form.2.1 in
        let first = with_number_taken i in
        let number : key_number key first ≡ n = ap (key_number key) (took.1 ∙ same) ∙ form.3.0 in
        let end : with_unwritten_label key b first ≡ o = ap (with_unwritten_label key b) (took.1 ∙ same) ∙ form.3.1 in
        let held = unnamed_label_fore g i took.0 h in (
          subst (λ (x : ℕ). Holds m w (with_named_label g x) None o) number (subst (Holds m w (with_named_label g (key_number key i)) None) end held),
          λ back. (
            mention_ends w f t last i key (defined (key_number key i) (local.Block b) (mentioned key local.Unknown i.locals)).sorts i.values (i.unnamed + 1)
                (subst (Ends m w f t last) (sym end) back),
            tt,
          ),
        )

    -- what holds while a function is read
    pub builder : Builder m f (Ends m w f t last) (λ g. Holds m w g None) (λ g n. Holds m w (with_named_value g n) (Some n))
    builder = record {
      kit = λ g. kit w f t last g None;
      open_kit = λ g n. kit w f t last (with_named_value g n) (Some n);
      on_sort = λ g n i sort is h. sort_holds w g n i sort is h;
      from_sort = λ n i sort h. sort_ends w f t last n i sort h;
      named = λ g i is. named_keeps g i (ap is_local_number is);
      numbered = λ g i is. numbered_keeps g i (ap is_local_number is);
      unnamed = λ g i. unnamed_keeps g i;
      named_label = λ g i is. label_keeps g i (ap is_local_number is);
      numbered_label_is = λ g i is. numbered_label_keeps g i (ap is_local_number is);
      unnamed_label_is = λ g i. unnamed_label_keeps g i;
    }
