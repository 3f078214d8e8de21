use Rattle.std.proofs.Common.{◌≡◌, ◌≤◌, ◌^◌, IfOk, List, Option, length, ℕ, ap, ◌∙◌, subst, arith}
use Rattle.ir_tokens.specs.Tokens.{lexed_of}
use Rattle.name_text.specs.Naming.{name_from}
use Rattle.name_text.proofs.NamingLemmas.{is_lexed, name_by_tokens}
use Rattle.name_text.proofs.naming.name_in.Goals as goal

pub returns : goal.returns
returns c =
    let word = c.args.word.now in
    let short : length c.args.word.now ≤ 2 ^ 24 = omega arith in
    let lexed : c.in_ok-lexed.lexed ≡ lexed_of c.args.word.now = c.in_ok-lexed.ensures.only (lexed_of word) (is_lexed word) in
    let same = ap (λ tokens. name_from c.args.sign c.args.word.now c.in_ok-lexed.lexed.bad tokens) c.as_slice.ensures ∙ name_by_tokens c.args.sign word c.in_ok-lexed.lexed short lexed in
    subst (λ (x : Option (List ℕ)). IfOk c.name_of_tokens.result (λ name. name ≡ x)) same c.name_of_tokens.ensures
