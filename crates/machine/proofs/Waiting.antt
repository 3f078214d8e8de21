-- Registers of which those that are set are kept.
use Rattle.std.proofs.Common.{◌≡◌, ◌+◌, ◌-◌, ◌<◌, ◌++◌, ℕ, suc, List, [], ◌∷◌, length, get_or, take, slice_set, refl, sym, ap, ◌∙◌, arith, false}
use Rattle.std.specs.Prelude.{replicate}
use Rattle.std.proofs.lemmas.List.{take_more, length-take-le}
use Rattle.machine.specs.Kinds.{is_set}
use Rattle.machine.specs.Waiting.{set_each}
use Rattle.machine.specs.declared.value.Value.{Value}
use Rattle.machine.specs.declared.value.Value.TheVariants as value
use Rattle.machine.specs.declared.waiting_frame.RegisterValue.{RegisterValue}

-- one register more is set
pub set_more : (set : List RegisterValue) (one : RegisterValue) (registers : List Value) → set_each (set ++ one ∷ []) registers ≡ slice_set (set_each set registers) one.register one.value
set_more [] one registers = refl
set_more (first ∷ set) one registers = set_more set one (slice_set registers first.register first.value)

-- a value takes the place of the first one after these
put_after : (front rest : List Value) (old new : Value) → slice_set (front ++ old ∷ rest) (length front) new ≡ (front ++ new ∷ []) ++ rest
put_after [] rest old new = refl
put_after (v ∷ front) rest old new = ap (λ l. v ∷ l) (put_after front rest old new)

-- a value that is not set
unset : (v : Value) → is_set v ≡ false → v ≡ value.Unset
unset value.Unset e = refl
unset (value.Number n) e = absurd cc
unset value.Null e = absurd cc
unset (value.Cell layout at) e = absurd cc
unset (value.Address at) e = absurd cc

-- one value between others
after_one : (front : List Value) (v : Value) (rest : List Value) → (front ++ v ∷ []) ++ rest ≡ front ++ v ∷ rest
after_one [] v rest = refl
after_one (first ∷ front) v rest = ap (λ l. first ∷ l) (after_one front v rest)

-- the first registers, and the others not set
abbrev pub front_of : List Value → ℕ → List Value
front_of registers i = take i registers ++ replicate (length registers - i) value.Unset

-- one register more is set as it was
pub one_set : (registers : List Value) (i : ℕ) (d : Value) → i < length registers
    → slice_set (front_of registers i) i (get_or registers i d) ≡ front_of registers (i + 1)
one_set registers i d within =
    let k = length registers - (i + 1) in
    let more : length registers - i ≡ suc k = omega (arith, within) in
    let size : length (take i registers) ≡ i = length-take-le i registers (omega (arith, within)) in
    ap (λ n. slice_set (take i registers ++ replicate n value.Unset) i (get_or registers i d)) more
    ∙ ap (λ j. slice_set (take i registers ++ value.Unset ∷ replicate k value.Unset) j (get_or registers i d)) (sym size)
    ∙ put_after (take i registers) (replicate k value.Unset) value.Unset (get_or registers i d)
    ∙ ap (λ l. l ++ replicate k value.Unset) (sym (take_more registers i d within))

-- or stays not set
pub one_unset : (registers : List Value) (i : ℕ) (d : Value) → i < length registers → is_set (get_or registers i d) ≡ false → front_of registers i ≡ front_of registers (i + 1)
one_unset registers i d within e =
    let k = length registers - (i + 1) in
    let more : length registers - i ≡ suc k = omega (arith, within) in
    ap (λ n. take i registers ++ replicate n value.Unset) more
    ∙ sym (after_one (take i registers) value.Unset (replicate k value.Unset))
    ∙ ap (λ v. (take i registers ++ v ∷ []) ++ replicate k value.Unset) (sym (unset (get_or registers i d) e))
    ∙ ap (λ l. l ++ replicate k value.Unset) (sym (take_more registers i d within))
