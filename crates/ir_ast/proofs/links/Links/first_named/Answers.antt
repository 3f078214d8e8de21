use Rattle.std.proofs.Common.{◌≡◌, ◌<◌, ◌-◌, refl, ◌∙◌, ap, arith, sym, subst, length, slice_get, get_or, List, ℕ, Some, Option, Bool}
use Rattle.std.specs.Str.{bytes_eq}
use Rattle.std.specs.Prelude.{option_map}
use Rattle.std.proofs.lemmas.Option.{slice_get-map, slice_get-get_or, slice_get_read}
use Rattle.lemmas.specs.Numbers.{lt_true}
use Rattle.ir_ast.specs.Links.{head_place, text_of, texts_of, listed, chain, from_head, first_named, is_text}
use Rattle.ir_ast.specs.declared.links.Span.{Span}
use Rattle.ir_ast.proofs.Chains.{found_step, passed_step}
use Rattle.ir_ast.proofs.links.Links.first_named.Goals as goal

got : (xs read : List ℕ) (i x : ℕ) → read ≡ xs → i < length read → x ≡ get_or read i x → slice_get xs i ≡ Some x
got xs read i x same lt e = subst (λ ys. slice_get ys i ≡ Some x) same (slice_get_read read (length read) i x refl lt e)

begins : (text : List ℕ) (names : List (List ℕ)) (heads befores : List ℕ) (hash place count head : ℕ) → slice_get heads place ≡ Some head → place ≡ head_place hash count → count ≡ length heads
    → first_named text names (listed heads befores hash) ≡ first_named text names (chain (length befores) befores head)
begins text names heads befores hash place count head there at counted =
    ap (λ p. first_named text names (from_head (slice_get heads p) befores)) (sym (at ∙ ap (head_place hash) counted))
    ∙ ap (λ (f : Option ℕ). first_named text names (from_head f befores)) there

looked : (text bytes : List ℕ) (spans : List Span) (number : ℕ) (d : Span) (shown : List ℕ) (same : Bool) → same ≡ bytes_eq text shown → shown ≡ text_of bytes (get_or spans number d) → number < length spans → is_text text (slice_get (texts_of bytes spans) number) ≡ same
looked text bytes spans number d shown same is shows lt =
    ap (is_text text) (slice_get-map (text_of bytes) spans number ∙ ap (option_map (text_of bytes)) (slice_get-get_or spans number d lt)) ∙ sym (is ∙ ap (bytes_eq text) shows)

pub returns-then-eq : goal.returns-then-eq
returns-then-eq c =
    let names = texts_of c.args.bytes.now c.args.spans.now in
    let befores = c.args.self.now.befores.items in
    let lt = lt_true c.loop-step.number (length c.deref-in-loop-step.result.now) (sym c.in-Some-get.ensures.lookup.0) in
    let within : c.loop-step.number < length c.args.spans.now = omega (arith, lt, ap length c.deref-in-loop-step.ensures.value, c.requires.one_each) in
    let left : c.loop-step._step < length befores = omega (arith, c.loop-step-test.true, c.len-step-end.ensures, c.args.self.now.befores.ok.0) in
    sym (begins c.args.text.now names c.args.self.now.heads.items befores c.args.hash c.head_place.result c.len.result c.in-Some.head.now
    (got c.args.self.now.heads.items c.deref.result.now c.head_place.result c.in-Some.head.now c.deref.ensures.value (lt_true c.head_place.result (length c.deref.result.now) (sym c.in-Some.ensures.lookup.0)) c.in-Some.ensures.lookup.1) c.head_place.ensures (omega (arith, c.len.ensures, c.args.self.now.heads.ok.0))
    ∙ c.loop-step.invariant
    ∙ found_step c.args.text.now names befores (length befores) c.loop-step._step c.loop-step.number c.in-Some-get.before.now left
    (got befores c.deref-in-loop-step.result.now c.loop-step.number c.in-Some-get.before.now c.deref-in-loop-step.ensures.value lt c.in-Some-get.ensures.lookup.1)
    (looked c.args.text.now c.args.bytes.now c.args.spans.now c.loop-step.number (record { start = 0; end = 0 }) c.text_at.result.now c.eq.result c.eq.ensures c.text_at.ensures within ∙ c.if-eq.true))

pub loop-step-preserved : goal.loop-step-preserved
loop-step-preserved c =
    let names = texts_of c.args.bytes.now c.args.spans.now in
    let befores = c.args.self.now.befores.items in
    let lt = lt_true c.loop-step.number (length c.deref-in-loop-step.result.now) (sym c.in-Some-get.ensures.lookup.0) in
    let within : c.loop-step.number < length c.args.spans.now = omega (arith, lt, ap length c.deref-in-loop-step.ensures.value, c.requires.one_each) in
    let left : c.loop-step._step < length befores = omega (arith, c.loop-step-test.true, c.len-step-end.ensures, c.args.self.now.befores.ok.0) in
    c.loop-step.invariant
    ∙ passed_step c.args.text.now names befores (length befores) c.loop-step._step c.loop-step.number c.in-Some-get.before.now left
    (got befores c.deref-in-loop-step.result.now c.loop-step.number c.in-Some-get.before.now c.deref-in-loop-step.ensures.value lt c.in-Some-get.ensures.lookup.1)
    (looked c.args.text.now c.args.bytes.now c.args.spans.now c.loop-step.number (record { start = 0; end = 0 }) c.text_at.result.now c.eq.result c.eq.ensures c.text_at.ensures within ∙ c.if-eq.false)

pub returns : goal.returns
returns c =
    let names = texts_of c.args.bytes.now c.args.spans.now in
    let befores = c.args.self.now.befores.items in
    let none : length befores - c.loop-step._step ≡ 0 = omega (arith, c.loop-step-test.false, c.len-step-end.ensures, c.args.self.now.befores.ok.0) in
    sym (begins c.args.text.now names c.args.self.now.heads.items befores c.args.hash c.head_place.result c.len.result c.in-Some.head.now
    (got c.args.self.now.heads.items c.deref.result.now c.head_place.result c.in-Some.head.now c.deref.ensures.value (lt_true c.head_place.result (length c.deref.result.now) (sym c.in-Some.ensures.lookup.0)) c.in-Some.ensures.lookup.1) c.head_place.ensures (omega (arith, c.len.ensures, c.args.self.now.heads.ok.0))
    ∙ c.loop-step.invariant
    ∙ ap (λ n. first_named c.args.text.now names (chain n befores c.loop-step.number)) none)
