-- Recursions on how many levels or stars there may be, beside code that counts down.
use Rattle.std.proofs.Common.{◌≡◌, ℕ, zero, suc, ◌-◌, ◌<◌, true, false, Ok, Err, refl, arith}
use Rattle.grammar.specs.Outcome.{and_then}
use Rattle.ir_tokens.specs.declared.token.Kind.TheVariants as k
use Rattle.ir_ast.specs.declared.ir_type.IrType.TheVariants as type
use Rattle.ir_forms.specs.declared.input.Input.{Input}
use Rattle.ir_forms.specs.Cursor.{sees, start}
use Rattle.ir_forms.specs.Input.{limit, unexpected, advanced}
use Rattle.ir_forms.specs.Outside.{outside, outside_name, outside_begin, outside_rest}
use Rattle.ir_forms.specs.Written.{pointers, intern_pointer, part, firm, base, starred, no_type, again_within, again_over, no_parameters}

pub pointers_none : (from n pointee : ℕ) (i : Input) → sees k.Star i.cursor ≡ false → (pointers from n pointee).read i ≡ Ok ((n, pointee), i)
unfolding pointers
pointers_none from zero pointee i e = rw e refl
pointers_none from (suc n) pointee i e = rw e refl

pub pointers_full : (from n pointee : ℕ) (i : Input) → sees k.Star i.cursor ≡ true → n ≡ 0 → (pointers from n pointee).read i ≡ Err (limit i)
unfolding pointers
pointers_full from n pointee i e z = rw (z, e) refl

pub pointers_more : (from n pointee : ℕ) (i : Input) → sees k.Star i.cursor ≡ true → 0 < n
    → (pointers from n pointee).read i ≡ and_then ((intern_pointer from (type.Pointer pointee)).read (advanced i)) (λ p. (pointers from (n - 1) p).read)
unfolding pointers
pointers_more from zero pointee i e less = absurd (omega arith)
pointers_more from (suc n) pointee i e less = let d : suc n - 1 ≡ n = omega arith in rw (d, e) refl

pub outside_none : (n : ℕ) (i : Input) → n ≡ 0 → (outside n).read i ≡ outside_name.read i
unfolding outside
outside_none n i e = rw e refl

pub outside_more : (n : ℕ) (i : Input) → 0 < n → (outside n).read i ≡ and_then (outside_begin.read i) (λ follows. (outside_rest (outside (n - 1)) follows).read)
unfolding outside
outside_more zero i less = absurd (omega arith)
outside_more (suc n) i less = let e : suc n - 1 ≡ n = omega arith in rw e refl

pub part_none : (n : ℕ) (i : Input) → n ≡ 0 → (part n).read i ≡ no_type.read i
unfolding firm
part_none n i e = rw e refl

pub part_more : (n : ℕ) (i : Input) → 0 < n → (part n).read i ≡ and_then ((base (n - 1) (firm (n - 1))).read i) (λ p. (starred (start i.cursor) p).read)
unfolding firm
part_more zero i less = absurd (omega arith)
part_more (suc n) i less = let e : suc n - 1 ≡ n = omega arith in rw e refl

pub again_none : (n id : ℕ) (i : Input) → n ≡ 0 → (again_within n id).read i ≡ Err (unexpected i)
unfolding again_within
again_none n id i e = rw e refl

pub again_more : (n id : ℕ) (i : Input) → 0 < n
    → (again_within n id).read i ≡ and_then ((again_over (again_within (n - 1)) id).read i) (λ _. no_parameters.read)
unfolding again_within
again_more zero id i less = absurd (omega arith)
again_more (suc n) id i less = let e : suc n - 1 ≡ n = omega arith in rw e refl
