-- Where reading is within a function: the names that it has defined, and those that it still defines.
use Rattle.std.proofs.Common.{◌≡◌, ℕ, ◌+◌, ◌≤◌, List, [], ◌∷◌, ◌++◌, length, refl, sym, ap, subst, ◌∙◌, arith, append_assoc, length-append, inl, inr}
use Rattle.std.proofs.lemmas.List.{append-nil}
use Rattle.lemmas.specs.Lists.{in_first, in_longer, last_in, IsIn}
use Rattle.ir_tokens.specs.Bytes.{Text}
use Rattle.ir_print_law.specs.Definitions.{AreDefined}
use Rattle.ir_print_law.proofs.Known.{Far}
use Rattle.ir_print_law.proofs.NewValues.{IsNext, unnamed_then}

-- no value waits for its type, and these keys are defined next
pub record Steady (far : Far) (keys : List Text) : Type 0 where
  pub none_waits : far.pending ≡ []
  pub few_unnamed : far.unnamed ≤ far.count + length far.labels
  pub counted : far.count ≡ length far.values
  pub labels_seen : (key : Text) → IsIn key far.labels → IsIn key far.seen
  pub values_seen : (key : Text) → IsIn key far.values → IsIn key far.seen
  pub defines_next : AreDefined far.seen far.unnamed keys

-- what does not change within a function
abbrev pub outside : Far → Far
outside far = record far { seen = []; values = []; labels = []; pending = []; count = 0; unnamed = 0 }

-- reading has gone on within a function: these values and labels were defined, and these keys are still to come
pub record Onward (far now : Far) (values labels : List Text) (more : List Text) : Type 0 where
  pub values_are : now.values ≡ far.values ++ values
  pub labels_are : now.labels ≡ far.labels ++ labels
  pub steady : Steady now more
  pub same_outside : outside now ≡ outside far

pub onward_itself : (far : Far) (more : List Text) → Steady far more → Onward far far [] [] more
onward_itself far more steady = record {
  values_are = sym (append-nil far.values);
  labels_are = sym (append-nil far.labels);
  steady = steady;
  same_outside = refl;
}

pub onward_further : (far mid now : Far) (values labels others more_labels : List Text) (between more : List Text) → Onward far mid values labels between → Onward mid now others more_labels more
    → Onward far now (values ++ others) (labels ++ more_labels) more
onward_further far mid now values labels others more_labels between more a b = record {
  values_are = b.values_are ∙ ap (λ (l : List Text). l ++ others) a.values_are ∙ append_assoc far.values values others;
  labels_are = b.labels_are ∙ ap (λ (l : List Text). l ++ more_labels) a.labels_are ∙ append_assoc far.labels labels more_labels;
  steady = b.steady;
  same_outside = b.same_outside ∙ a.same_outside;
}

-- the key that is defined next is new, and is the next number or a name
pub next_key : (seen : List Text) (unnamed : ℕ) (key : Text) (keys : List Text) → AreDefined seen unnamed (key ∷ keys)
    → (IsIn key seen → ⊥) × ((is : IsNext unnamed key) × AreDefined (seen ++ key ∷ []) (unnamed_then unnamed key is) keys)
next_key seen unnamed key keys h = elim h.1 [
  | inl a ↦ (h.0, (inl a.0, a.1))
  | inr b ↦ (h.0, (inr b.0, b.1))
]

-- one number is taken at most
pub taken : (unnamed : ℕ) (key : Text) (is : IsNext unnamed key) → unnamed_then unnamed key is ≤ unnamed + 1
taken unnamed key (inl e) = omega arith
taken unnamed key (inr named) = omega arith

pub seen_still : (xs seen : List Text) (key : Text) → ((k : Text) → IsIn k xs → IsIn k seen) → (k : Text) → IsIn k xs → IsIn k (seen ++ key ∷ [])
seen_still xs seen key h = λ k is. in_first k seen (key ∷ []) (h k is)

pub seen_too : (xs seen : List Text) (key : Text) → ((k : Text) → IsIn k xs → IsIn k seen) → (k : Text) → IsIn k (xs ++ key ∷ []) → IsIn k (seen ++ key ∷ [])
seen_too xs seen key h = λ k is. elim (in_longer k xs key is) [
  | inl a ↦ in_first k seen (key ∷ []) (h k a)
  | inr e ↦ subst (λ (x : Text). IsIn x (seen ++ key ∷ [])) (sym e) (last_in key seen)
]

-- after a value
pub steady_value : (far : Far) (key : Text) (keys : List Text) (is : IsNext far.unnamed key) → Steady far (key ∷ keys) → AreDefined (far.seen ++ key ∷ []) (unnamed_then far.unnamed key is) keys
    → Steady (record far { seen = far.seen ++ key ∷ []; values = far.values ++ key ∷ []; pending = []; count = far.count + 1; unnamed = unnamed_then far.unnamed key is }) keys
steady_value far key keys is steady further = record {
  none_waits = refl;
  few_unnamed = let a = steady.few_unnamed in let b = taken far.unnamed key is in omega (arith, a, b);
  counted = let a = steady.counted in let b = length-append far.values (key ∷ []) in omega (arith, a, b);
  labels_seen = seen_still far.labels far.seen key steady.labels_seen;
  values_seen = seen_too far.values far.seen key steady.values_seen;
  defines_next = further;
}

-- after a label
pub steady_label : (far : Far) (key : Text) (keys : List Text) (is : IsNext far.unnamed key) → Steady far (key ∷ keys) → AreDefined (far.seen ++ key ∷ []) (unnamed_then far.unnamed key is) keys
    → Steady (record far { seen = far.seen ++ key ∷ []; labels = far.labels ++ key ∷ []; pending = []; unnamed = unnamed_then far.unnamed key is }) keys
steady_label far key keys is steady further = record {
  none_waits = refl;
  few_unnamed = let a = steady.few_unnamed in let b = taken far.unnamed key is in let c = length-append far.labels (key ∷ []) in omega (arith, a, b, c);
  counted = steady.counted;
  labels_seen = seen_too far.labels far.seen key steady.labels_seen;
  values_seen = seen_still far.values far.seen key steady.values_seen;
  defines_next = further;
}
