-- Results that are equal.
use Rattle.std.proofs.Common.{◌≡◌, Option, Some, None, Result, Ok, Err}

abbrev ok : {E X : Type 0} → X → Result X E
ok x = Ok x

abbrev err : {E X : Type 0} → E → Result X E
err e = Err e

pub same_ok : {E X : Type 0} (x y : X) → ok {E = E} x ≡ ok y → x ≡ y
same_ok x y same = cc

pub same_err : {E X : Type 0} (e f : E) → err {X = X} e ≡ err f → e ≡ f
same_err e f same = cc

pub ok_or_err : {E X : Type 0} (x : X) (e : E) → ok x ≡ err e → ⊥
ok_or_err x e same = absurd cc

pub err_or_ok : {E X : Type 0} (x : X) (e : E) → err e ≡ ok x → ⊥
err_or_ok x e same = absurd cc

abbrev some : {X : Type 0} → X → Option X
some x = Some x

abbrev none : {X : Type 0} → Option X
none = None

pub none_or_some : {X : Type 0} (x : X) → none ≡ some x → ⊥
none_or_some x same = absurd cc

pub same_some : {X : Type 0} (x y : X) → some x ≡ some y → x ≡ y
same_some x y same = cc
