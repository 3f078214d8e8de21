use Rattle.std.proofs.Common.{◌≡◌, find}
use Rattle.std.specs.Array.Iter.{array_into_iter_items}
use Rattle.std.specs.Str.{str_eq_ignore_ascii_case}
use Rattle.explain.specs.Codes.{code_named, name_of}
use Rattle.explain.proofs.code.Code.named.Given as goal

abbrev pub invariant-loop-code : goal.invariant-loop-code
invariant-loop-code l =
    find (λ code. str_eq_ignore_ascii_case (name_of code) l.name) (array_into_iter_items l.code-iterator) ≡ code_named l.name
