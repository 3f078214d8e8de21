use Rattle.std.proofs.Common.{◌<◌, length, Err, ap, sym, subst, ◌∙◌, rules}
use Rattle.ir_tokens.specs.declared.position.Position.{Position}
use Rattle.ir_text.specs.declared.read_fault.ReadFault.{ReadFault}
use Rattle.ir_text.specs.declared.read_fault.ReadFault.TheVariants.{Limit}
use Rattle.ir_text.specs.Read.{IsFaultAs, text_limit}
use Rattle.ir_text.proofs.Laws.{found, text, forms, fails, only, only_fails, too_long, only_too_long}
use Rattle.ir_text.proofs.reader.read_as.Goals as goal

pub returns-then-bytes-gt-TEXT_LIMIT-clause-fault : goal.returns-then-bytes-gt-TEXT_LIMIT-clause-fault
returns-then-bytes-gt-TEXT_LIMIT-clause-fault c = λ ne.
    let long : text_limit < length c.args.bytes.now = c.if-bytes-gt-TEXT_LIMIT.true in
    subst (λ (p : Position). IsFaultAs c.args.keeps c.args.wide c.args.bytes.now (Limit p)) (sym c.of.ensures) (too_long c.args.keeps c.args.wide c.args.bytes.now long)

pub returns-then-bytes-gt-TEXT_LIMIT-clause-only_fault : goal.returns-then-bytes-gt-TEXT_LIMIT-clause-only_fault
returns-then-bytes-gt-TEXT_LIMIT-clause-only_fault c = λ e h ne.
    let long : text_limit < length c.args.bytes.now = c.if-bytes-gt-TEXT_LIMIT.true in
    ap (λ (x : ReadFault). Err x) (sym (only_too_long c.args.keeps c.args.wide c.args.bytes.now e long h)) ∙ ap (λ (p : Position). Err (Limit p)) (sym c.of.ensures)

pub returns-in_err-lexed-clause-only_fault : goal.returns-in_err-lexed-clause-only_fault
returns-in_err-lexed-clause-only_fault c = λ e _. search rules

pub returns-clause-found : goal.returns-clause-found
returns-clause-found c = found c.args.keeps c.args.wide c.args.bytes.now c.in_ok-lexed.lexed c.read_lexed.result c.if-bytes-gt-TEXT_LIMIT.false c.in_ok-lexed.ensures.found c.read_lexed.ensures

pub returns-clause-text : goal.returns-clause-text
returns-clause-text c = text c.args.keeps c.args.wide c.args.bytes.now c.in_ok-lexed.lexed c.read_lexed.result c.if-bytes-gt-TEXT_LIMIT.false c.in_ok-lexed.ensures.found c.read_lexed.ensures

pub returns-clause-forms : goal.returns-clause-forms
returns-clause-forms c = forms c.args.keeps c.args.wide c.args.bytes.now c.in_ok-lexed.lexed c.read_lexed.result c.read_lexed.ensures

pub returns-clause-only : goal.returns-clause-only
returns-clause-only c = λ m h. only c.args.keeps c.args.wide c.args.bytes.now c.in_ok-lexed.lexed c.read_lexed.result m c.in_ok-lexed.ensures.only c.read_lexed.ensures h

pub returns-clause-fault : goal.returns-clause-fault
returns-clause-fault c = fails c.args.keeps c.args.wide c.args.bytes.now c.in_ok-lexed.lexed c.read_lexed.result c.if-bytes-gt-TEXT_LIMIT.false c.in_ok-lexed.ensures.found c.read_lexed.ensures

pub returns-clause-only_fault : goal.returns-clause-only_fault
returns-clause-only_fault c = λ e h. only_fails c.args.keeps c.args.wide c.args.bytes.now c.in_ok-lexed.lexed c.read_lexed.result e c.if-bytes-gt-TEXT_LIMIT.false c.in_ok-lexed.ensures.only c.read_lexed.ensures h
