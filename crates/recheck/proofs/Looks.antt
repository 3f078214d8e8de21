-- What looks the same word by word is the same to a caller.
use Rattle.std.proofs.Common.{◌≡◌, ℕ, true, ◌&&◌, ◌==◌, List, [], ◌∷◌, length, map, Option, Some, refl, ap, ◌∙◌, eqb-true}
use Rattle.lemmas.specs.Bools.{and_first, and_second}
use Rattle.ir_ast.specs.declared.function.Function.{Function}
use Rattle.ir_ast.specs.declared.function.Parameter.{Parameter}
use Rattle.certs.specs.declared.section.Section.{Section}
use Rattle.answers.specs.Local.{types_of, interface_of}
use Rattle.recheck.specs.Interface.{same_types, all_written}

-- the types of parameters, by which they are compared
each_written : (one other : List Parameter) → length one ≡ length other → all_written one other ≡ true → map (λ (p : Parameter). p.written) one ≡ map (λ (p : Parameter). p.written) other
each_written [] [] count e = refl
each_written [] (y ∷ other) count e = absurd cc
each_written (x ∷ one) [] count e = absurd cc
each_written (x ∷ one) (y ∷ other) count e =
    let rest : length one ≡ length other = cc in
    ap (λ (n : ℕ). n ∷ map (λ (p : Parameter). p.written) one) (eqb-true x.written y.written (and_first _ _ e))
    ∙ ap (λ (l : List ℕ). y.written ∷ l) (each_written one other rest (and_second _ _ e))

one_types : (old new : Function) → same_types old new ≡ true → types_of (Some new) ≡ types_of (Some old)
one_types old new e =
    let lengths = length old.parameters == length new.parameters in
    let heads = and_first ((old.returned == new.returned) && lengths) (all_written old.parameters new.parameters) e in
    let returned : old.returned ≡ new.returned = eqb-true old.returned new.returned (and_first (old.returned == new.returned) lengths heads) in
    let written : map (λ (p : Parameter). p.written) old.parameters ≡ map (λ (p : Parameter). p.written) new.parameters =
    each_written old.parameters new.parameters (eqb-true (length old.parameters) (length new.parameters) (and_second (old.returned == new.returned) lengths heads))
    (and_second ((old.returned == new.returned) && lengths) (all_written old.parameters new.parameters) e) in
    cc

-- two functions of the same types, whose sections say the same, are one to a caller
pub one_interface : (old new : Function) (past next : Section) → same_types old new ≡ true → next.mark ≡ past.mark → next.parameters ≡ past.parameters → next.result ≡ past.result
    → interface_of (Some new) (Some next) ≡ interface_of (Some old) (Some past)
one_interface old new past next types mark parameters result = let t = one_types old new types in cc

-- so they are where they are looked up among others
pub seen_same : (f : Option Function) (s : Option Section) (old new : Function) (past next : Section) → f ≡ Some new → s ≡ Some next → interface_of (Some new) (Some next) ≡ interface_of (Some old) (Some past)
    → interface_of f s ≡ interface_of (Some old) (Some past)
seen_same f s old new past next is_new is_next e = ap (λ (x : Option Function). interface_of x s) is_new ∙ ap (interface_of (Some new)) is_next ∙ e
