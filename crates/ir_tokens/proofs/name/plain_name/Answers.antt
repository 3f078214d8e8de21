use Rattle.std.proofs.Common.{◌≡◌, ℕ, zero, suc, ◌≤◌, true, false, [], ◌∷◌, length, ap, refl, sym, subst, ◌∙◌, arith}
use Rattle.std.specs.Prelude.{◌==◌}
use Rattle.std.specs.List.{list_any}
use Rattle.lemmas.specs.Bools.{or_neither}
use Rattle.ir_tokens.specs.Bytes.{Text, next}
use Rattle.ir_tokens.specs.Names.{bare, inside, begins_quote, unquoted, unescaped_from, is_special}
use Rattle.ir_tokens.proofs.name.plain_name.Goals as goal

-- text without escapes is itself
plain : (n : ℕ) (s : Text) → length s ≤ n → list_any is_special s ≡ false → unescaped_from n s ≡ s
unfolding unescaped_from next
plain zero [] le h = refl
plain (suc n) [] le h = refl
plain zero (b ∷ bs) le h = absurd (omega arith)
plain (suc n) (b ∷ bs) le h =
    let parts = or_neither (is_special b) (list_any is_special bs) h in
    let bytes = or_neither (b == 92) (b == 34) parts.0 in
    rw (bytes.0, bytes.1) (ap (λ (x : Text). b ∷ x) (plain n bs (omega arith) parts.1))

plain_is : (s t name : Text) → s ≡ t → begins_quote s ≡ true → name ≡ inside s → list_any is_special name ≡ false → name ≡ unquoted t
plain_is s t name e q i h =
    let quoted : begins_quote t ≡ true = subst (λ (x : Text). begins_quote x ≡ true) e q in
    let within : name ≡ inside t = subst (λ (x : Text). name ≡ inside x) e i in
    rw (quoted, sym within) (sym (plain (length name) name (omega arith) h))

pub returns-else-has_special-clause-name : goal.returns-else-has_special-clause-name
returns-else-has_special-clause-name c =
    let q : begins_quote c.bare-name.result.now ≡ true = search (c.begins_quote.ensures, c.if-not-begins_quote.false) in
    plain_is c.bare-name.result.now _ c.inside-name.result.now (c.bare-name.ensures ∙ ap (bare c.args.token.kind) c.spelling.ensures)
    q c.inside-name.ensures (sym c.has_special.ensures ∙ c.if-has_special.false)
