use Rattle.std.proofs.Common.{◌≡◌, ◌∙◌, ap, sym, arith}
use Rattle.std.proofs.lemmas.Grind.{common_steps}
use Rattle.ir_text.specs.Anew.{start_anew}
use Rattle.ir_text.specs.Late.{late_fault}
use Rattle.ir_text.proofs.AnewFaults.{refused_form, refused_late}
use Rattle.ir_text.proofs.anew.read_lexed.Goals as goal
use Rattle.ir_text.proofs.anew.read_lexed.Goals.{in-Ok, in-Err}

pub returns : goal.returns
returns c =
    let t = c.args.tables in
    let begun : c.start_with-input.result ≡ start_anew t c.args.func c.args.bytes.now c.args.lexed.now = grind (arith, common_steps) in
    elim c.match-anew.branch [
      | in-Ok w ↦ λ no. refused_late t c.args.func c.args.name.now c.args.bytes.now c.args.lexed.now c.start_with-input.result c.anew.new.input c.replace-sorts.result c.in-Some.fault c.located.result
          begun w.in-Ok.ensures c.replace-sorts.ensures.value
          (ap late_fault (sym w.set_sorts.ensures) ∙ sym w.late_fault-fault.ensures ∙ sym w.fault-is ∙ c.in-Some.is) (c.located.ensures no)
      | in-Err w ↦ λ no. refused_form t c.args.func c.args.name.now c.args.bytes.now c.args.lexed.now c.start_with-input.result c.in-Some.fault w.in-Err.fault c.located.result
          begun (sym w.fault-is ∙ c.in-Some.is) w.in-Err.ensures no (c.located.ensures no)
    ]
