-- The values that phis take.
use Rattle.std.proofs.Common.{◌≡◌, ℕ, List, [], ◌∷◌, length, ◌<◌, ◌+◌, ◌++◌, get_or, take, refl, sym, ap, ◌∙◌}
use Rattle.std.specs.Prelude.{map, slice_set}
use Rattle.std.proofs.lemmas.List.{take_more, take_more_set, map-append}
use Rattle.ir_ast.specs.declared.function.Function.{Function}
use Rattle.ir_ast.specs.declared.choices.Phi.{Phi}
use Rattle.ir_ast.specs.declared.module.Module.{Module}
use Rattle.machine.specs.declared.value.Value.{Value}
use Rattle.machine.specs.Jumps.{put_each, put_phis, phi_value}

-- values that were taken beforehand are those that the phis take
pub all_put : (m : Module) (f : Function) (before : List Value) (from : ℕ) (phis : List Phi) (values registers : List Value)
    → take (length phis) values ≡ map (phi_value m f before from) phis
    → put_each phis values registers ≡ put_phis m f before from phis registers
all_put m f before from [] [] registers e = refl
all_put m f before from [] (v ∷ values) registers e = refl
all_put m f before from (phi ∷ phis) [] registers e = absurd cc
all_put m f before from (phi ∷ phis) (v ∷ values) registers e =
    let first : v ≡ phi_value m f before from phi = cc in
    let others : take (length phis) values ≡ map (phi_value m f before from) phis = cc in
    ap (λ w. put_each phis values (slice_set registers phi.value w)) first
    ∙ all_put m f before from phis values (slice_set registers phi.value (phi_value m f before from phi)) others

-- one phi's value more is taken
pub one_taken : {X Y : Type 0} (f : X → Y) (xs : List X) (ys : List Y) (i : ℕ) (x : X) (y : Y) → i < length xs → i < length ys
    → take i ys ≡ map f (take i xs) → y ≡ f (get_or xs i x) → take (i + 1) (slice_set ys i y) ≡ map f (take (i + 1) xs)
one_taken f xs ys i x y inside room e is =
    take_more_set ys i y room ∙ ap (λ l. l ++ y ∷ []) e ∙ ap (λ z. map f (take i xs) ++ z ∷ []) is
    ∙ sym (map-append f (take i xs) (get_or xs i x ∷ [])) ∙ ap (map f) (sym (take_more xs i x inside))

-- no phi is left
pub no_phi : (phis : List Phi) (values registers : List Value) → length phis ≡ 0 → put_each phis values registers ≡ registers
no_phi [] [] registers e = refl
no_phi [] (v ∷ values) registers e = refl
no_phi (phi ∷ phis) values registers e = absurd cc

-- no value is left
pub no_value : (phis : List Phi) (values registers : List Value) → length values ≡ 0 → put_each phis values registers ≡ registers
no_value [] [] registers e = refl
no_value (phi ∷ phis) [] registers e = refl
no_value phis (v ∷ values) registers e = absurd cc
