use Rattle.std.proofs.Common.{◌≡◌, ◌∙◌, ◌++◌, ℕ, List, ap, append_assoc, codes, subst, sym}
use Rattle.std.specs.Fmt.{decimal}
use Rattle.std.specs.Io.KnownBytes.{Appends}
use Rattle.std.proofs.KnownBytes.{Appends-trans}
use Rattle.reports.specs.Report.{Answer}
use Rattle.check_commands.specs.Rechecks.{accepted_text}
use Rattle.check_commands.proofs.rechecking.write_accepted.Goals as goal

-- five texts one after another
joined : (a b c d e : List ℕ) → (a ++ (b ++ (c ++ d))) ++ e ≡ ((a ++ b) ++ c) ++ (d ++ e)
joined a b c d e =
    append_assoc a (b ++ (c ++ d)) e
    ∙ ap (λ l. a ++ l) (append_assoc b (c ++ d) e ∙ ap (λ l. b ++ l) (append_assoc c d e))
    ∙ sym (append_assoc (a ++ b) c (d ++ e) ∙ append_assoc a b (c ++ (d ++ e)))

-- the numbers and then the verdict are the line
line_of_parts : (number n : ℕ) (verdict : Answer) → (decimal number ++ (codes " rechecked " ++ (decimal n ++ codes " "))) ++ verdict.text ≡ accepted_text number n verdict
line_of_parts number n verdict = joined (decimal number) (codes " rechecked ") (decimal n) (codes " ") verdict.text

pub returns : goal.returns
returns g c =
    let verdict = c.in_ok-write_verdict.ensures in
    let number = c.args.number in
    let old = g.W.Write.contents c.args.lines.now in
    let new = g.W.Write.contents c.write_verdict.new.lines in
    let written = Appends-trans _ _ _ _ _ c.in_ok-write.ensures.bytes verdict.2.1 in
    let line = line_of_parts number c.rechecked.result verdict.0 ∙ ap (λ n. accepted_text number n verdict.0) c.rechecked.ensures in
    (verdict.0, verdict.1, subst (Appends old new) line written)
