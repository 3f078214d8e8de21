use Rattle.std.proofs.Common.{sym, subst, List, ℕ, ◌≡◌, rules, arith}
use Rattle.std.proofs.lemmas.Grind.{common_steps}
use Rattle.trace_text.specs.Text.{IsTrace}
use Rattle.trace_text.specs.Print.{trace_shown}
use Rattle.trace_text.proofs.Named.{are_read}
use Rattle.trace_text.proofs.RoundTrip.{round_trip}
use Rattle.trace_text.proofs.print.print_trace.Goals as goal

pub returns-clause-read : goal.returns-clause-read
returns-clause-read c named own =
    let text : c.put_trace.new.out.items ≡ trace_shown c.args.program.now c.args.trace.now = first_of (search rules, grind (arith, common_steps)) in
    subst (λ (text : List ℕ). IsTrace text c.args.program.now c.args.trace.now) (sym text) (round_trip c.args.program.now c.args.trace.now (are_read c.args.program.now named) own)
