use Rattle.std.proofs.Common.{◌∙◌, ◌==◌, None, Some, ap, option_map, refl, sym}
use Rattle.std.proofs.lemmas.Str.Pattern.{split_once_first}
use Rattle.pair_lists.specs.Lists.{paths_of, two_paths}
use Rattle.pair_lists.proofs.Lines.{has_no_sign, has_sign, more_parts, one_part, two_parts}
use Rattle.pair_lists.proofs.pair.pair_around.Goals as goal
use Rattle.pair_lists.proofs.pair.pair_around.Goals.{then-is_empty-via-then-is_empty, then-is_empty-via-else-is_empty+then-is_empty-2}

pub returns-in_err-of_module : goal.returns-in_err-of_module
returns-in_err-of_module c =
    let none = split_once_first c.args.sign c.args.line.now None c.in_err-of_module.ensures.cases c.requires in
    ap (option_map paths_of) c.from_residual.ensures ∙ sym (ap two_paths (one_part (λ b. b == c.args.sign) c.args.line.now none))

pub returns-then-is_some : goal.returns-then-is_some
returns-then-is_some c =
    let first = split_once_first c.args.sign c.args.line.now (Some (c.in_ok-of_module.of_module, c.in_ok-of_module.certificate)) c.in_ok-of_module.ensures.cases c.requires in
    let more = has_sign c.args.sign c.in_ok-of_module.certificate.now c.split_once-2.result c.split_once-2.ensures.cases c.requires (sym c.is_some.ensures ∙ c.if-is_some.true) in
    sym (more_parts c.args.sign c.args.line.now c.in_ok-of_module.of_module.now c.in_ok-of_module.certificate.now first.0 first.1 first.2 more)

pub returns-then-is_empty : goal.returns-then-is_empty
returns-then-is_empty c =
    let first = split_once_first c.args.sign c.args.line.now (Some (c.in_ok-of_module.of_module, c.in_ok-of_module.certificate)) c.in_ok-of_module.ensures.cases c.requires in
    let none = has_no_sign c.args.sign c.in_ok-of_module.certificate.now c.split_once-2.result c.split_once-2.ensures.cases c.requires (sym c.is_some.ensures ∙ c.if-is_some.false) in
    let parts = two_parts c.args.sign c.args.line.now c.in_ok-of_module.of_module.now c.in_ok-of_module.certificate.now first.0 first.1 first.2 none in
    rw parts
    (elim c.then-is_empty.branch [
      | then-is_empty-via-then-is_empty w ↦ rw (sym c.is_empty.ensures ∙ w.if-is_empty.true) refl
      | then-is_empty-via-else-is_empty+then-is_empty-2 w ↦ rw (sym c.is_empty.ensures ∙ w.if-is_empty.false, sym w.is_empty-else-is_empty.ensures ∙ w.if-is_empty-2.true) refl
    ])

pub returns : goal.returns
returns c =
    let first = split_once_first c.args.sign c.args.line.now (Some (c.in_ok-of_module.of_module, c.in_ok-of_module.certificate)) c.in_ok-of_module.ensures.cases c.requires in
    let none = has_no_sign c.args.sign c.in_ok-of_module.certificate.now c.split_once-2.result c.split_once-2.ensures.cases c.requires (sym c.is_some.ensures ∙ c.if-is_some.false) in
    let parts = two_parts c.args.sign c.args.line.now c.in_ok-of_module.of_module.now c.in_ok-of_module.certificate.now first.0 first.1 first.2 none in
    rw (parts, sym c.is_empty.ensures ∙ c.if-is_empty.false, sym c.is_empty-else-is_empty.ensures ∙ c.if-is_empty-2.false) refl
