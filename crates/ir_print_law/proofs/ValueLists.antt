-- Lists of parts of a function of which each names a value, as they are read.
use Rattle.std.proofs.Common.{◌≡◌, ℕ, Bool, List, [], ◌∷◌, refl, sym, subst}
use Rattle.std.specs.List.{AllByRecursion}
use Rattle.grammar.specs.Many.{Listed}
use Rattle.ir_forms.specs.declared.input.Input.{Input}
use Rattle.ir_forms.specs.Input.{Form}
use Rattle.ir_print_law.proofs.Forms.{Keeps}
use Rattle.ir_print_law.proofs.Reading.{Progress, with_named_value}

-- what is defined after the values that these parts name
abbrev pub with_values : {A : Type 0} → (value_of : A → ℕ) → Progress → List A → Progress
with_values value_of g [] = g
with_values value_of g (x ∷ xs) = with_values value_of (with_named_value g (value_of x)) xs

pub values_from : {A : Type 0} (Back : Input → Type 0) (Fore : Progress → Input → Type 0) (value_of : A → ℕ) (P : A → Type 0) (stop : Input → Bool) (form : Form A)
    → ((g : Progress) (i : Input) → Keeps (Fore g) (λ x. Fore (with_named_value g (value_of x))) Back form P i) → (g : Progress) (i : Input) (xs : List A) (o : Input)
    → Listed stop form.says i xs o → Fore g i → Fore (with_values value_of g xs) o × (Back o → Back i × AllByRecursion P xs)
values_from Back Fore value_of P stop form on g i [] o h fore = (subst (Fore g) h.1 fore, λ back. (subst Back (sym h.1) back, tt))
values_from Back Fore value_of P stop form on g i (x ∷ xs) o h fore =
    let a = on g i x h.1 h.2 fore in
    let d = values_from Back Fore value_of P stop form on (with_named_value g (value_of x)) h.1 xs o h.3 a.0 in
    (d.0, λ back. let db = d.1 back in let ab = a.1 db.0 in (ab.0, (ab.1, db.1)))

pub values_labels : {A : Type 0} (value_of : A → ℕ) (g : Progress) (xs : List A) → (with_values value_of g xs).labels ≡ g.labels
values_labels value_of g [] = refl
values_labels value_of g (x ∷ xs) = values_labels value_of (with_named_value g (value_of x)) xs
