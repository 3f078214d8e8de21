-- What looks the same word by word says the same, and how many functions are checked.
use Rattle.std.proofs.Common.{◌≡◌, ◌+◌, ◌&&◌, ℕ, zero, suc, Bool, true, false, List, [], ◌∷◌, ◌++◌, length, Option, Some, None, refl, ap, sym, subst, ◌∙◌, arith, eq-eqb}
use Rattle.std.specs.Prelude.{if◌then◌else◌, nat_eq}
use Rattle.std.specs.Option.{option_eq}
use Rattle.std.proofs.lemmas.List.{length-append}
use Rattle.lemmas.specs.Bools.{and_true}
use Rattle.ir_ast.specs.declared.function.Function.{Function}
use Rattle.ir_ast.specs.declared.function.Parameter.{Parameter}
use Rattle.ir_ast.specs.declared.module.Module.{Module}
use Rattle.certs.specs.declared.section.Mark.{Mark}
use Rattle.certs.specs.declared.section.Mark.TheVariants as mark
use Rattle.certs.specs.declared.section.Promise.{Promise}
use Rattle.certs.specs.declared.section.Section.{Section}
use Rattle.answers.specs.Edited.{is_caller, callers_below, touched, IfUnseen}
use Rattle.answers.specs.declared.callers.Callers.{Callers}
use Rattle.answers.specs.declared.callers.Callers.TheVariants.{SeeChange, SeeNone}
use Rattle.recheck.specs.Interface.{same_truth, same_mark, same_types, same_promise, interface, says_same, all_said, tells_same, is_interface_same, callers_before}

-- ---- what is the same passes

one_number : (n : ℕ) → nat_eq n n ≡ true
one_number n = eq-eqb n n refl

one_option : (x : Option ℕ) → option_eq nat_eq x x ≡ true
one_option None = refl
one_option (Some n) = one_number n

one_truth : (b : Bool) → same_truth b b ≡ true
one_truth true = refl
one_truth false = refl

one_mark : (m : Mark) → same_mark m m ≡ true
one_mark mark.May = refl
one_mark mark.None = refl

one_promise : (p : Promise) → same_promise p p ≡ true
one_promise p =
    let layouts = option_eq nat_eq p.layout p.layout in
    let nulls = same_truth p.nonnull p.nonnull in
    let bounds = option_eq nat_eq p.below p.below in
    and_true (layouts && nulls && bounds) (same_truth p.number p.number) (and_true (layouts && nulls) bounds (and_true layouts nulls (one_option p.layout) (one_truth p.nonnull)) (one_option p.below)) (one_truth p.number)

all_one : (m : Module) (parameters : List Parameter) (promises : List (Option Promise)) → all_said m parameters promises promises ≡ true
all_one m [] promises = refl
all_one m (p ∷ parameters) [] = refl
all_one m (p ∷ parameters) (x ∷ promises) = and_true (says_same m p.written x x) (all_said m parameters promises promises) (one_promise (interface m p.written x)) (all_one m parameters promises)

-- two functions of the same types, whose sections say the same word by word, tell their callers the same
pub tells_by_words : (m : Module) (old new : Function) (past next : Section) → same_types old new ≡ true → next.mark ≡ past.mark → next.parameters ≡ past.parameters → next.result ≡ past.result → tells_same m old new past next ≡ true
tells_by_words m old new past next types marks parameters result =
    let of_mark : same_mark past.mark next.mark ≡ true = subst (λ (x : Mark). same_mark past.mark x ≡ true) (sym marks) (one_mark past.mark) in
    let of_parameters : all_said m new.parameters past.parameters next.parameters ≡ true =
    subst (λ (x : List (Option Promise)). all_said m new.parameters past.parameters x ≡ true) (sym parameters) (all_one m new.parameters past.parameters) in
    let of_result : says_same m new.returned past.result next.result ≡ true = subst (λ (x : Option Promise). says_same m new.returned past.result x ≡ true) (sym result) (one_promise (interface m new.returned past.result)) in
    and_true (same_types old new && same_mark past.mark next.mark && all_said m new.parameters past.parameters next.parameters) (says_same m new.returned past.result next.result)
    (and_true (same_types old new && same_mark past.mark next.mark) (all_said m new.parameters past.parameters next.parameters) (and_true (same_types old new) (same_mark past.mark next.mark) types of_mark) of_parameters) of_result

-- so it is where they are looked up among others
pub interface_by_words : (m : Module) (f : Option Function) (s : Option Section) (old new : Function) (past next : Section) → f ≡ Some new → s ≡ Some next → tells_same m old new past next ≡ true
    → is_interface_same m (Some old) f (Some past) s ≡ true
interface_by_words m f s old new past next is_new is_next e = ap (λ (x : Option Function). is_interface_same m (Some old) x (Some past) s) is_new ∙ ap (is_interface_same m (Some old) (Some new) (Some past)) is_next ∙ e

-- ---- how many are checked

callers_counted : (m : Module) (func count : ℕ) → length (callers_below m func count) ≡ callers_before m func count
callers_counted m func zero = refl
callers_counted m func (suc count) = by (is_caller m func count) (callers_counted m func count)
  where
    by : (b : Bool) → length (callers_below m func count) ≡ callers_before m func count
        → length (if b then callers_below m func count ++ count ∷ [] else callers_below m func count) ≡ callers_before m func count + (if b then 1 else 0)
    by true same = length-append (callers_below m func count) (count ∷ []) ∙ ap (λ n. n + 1) same
    by false same = omega (arith, same)

-- where the callers are told something else, the function and all callers are checked
counted : (m : Module) (func : ℕ) (callers : Callers) (interface_same : Bool) (checked : ℕ) → checked ≡ length (touched m func callers) → IfUnseen callers (interface_same ≡ true) → interface_same ≡ false
    → checked ≡ 1 + callers_before m func (length m.functions)
counted m func SeeNone interface_same checked is unseen e = absurd (let both : true ≡ false = sym unseen ∙ e in cc)
counted m func SeeChange interface_same checked is unseen e =
    let all : checked ≡ suc (length (callers_below m func (length m.functions))) = is in
    omega (arith, all, callers_counted m func (length m.functions))

-- so it is of the module as it is looked at twice
pub all_checked : (m one two : Module) → one ≡ m → two ≡ m → (func : ℕ) (callers : Callers) (interface_same : Module → Bool) (checked : ℕ) → checked ≡ length (touched m func callers) → IfUnseen callers (interface_same one ≡ true)
    → interface_same two ≡ false → checked ≡ 1 + callers_before two func (length two.functions)
all_checked m one two is_one is_two func callers interface_same checked is unseen e =
    subst (λ (x : Module). checked ≡ 1 + callers_before x func (length x.functions)) (sym is_two)
    (counted m func callers (interface_same m) checked is (subst (λ (x : Module). IfUnseen callers (interface_same x ≡ true)) is_one unseen) (ap interface_same (sym is_two) ∙ e))
