use Rattle.std.proofs.Common.{length, slice_set, sym, ap, ◌∙◌, subst, false}
use Rattle.std.specs.Prelude.{replicate, ◌≡◌}
use Rattle.machine.specs.Kinds.{is_set}
use Rattle.machine.specs.Waiting.{registers_with}
use Rattle.machine.specs.declared.value.Value.TheVariants as value
use Rattle.machine.proofs.Waiting.{front_of, set_more, one_set, one_unset}
use Rattle.machine.proofs.waiting_frame.SparseRegisters.of.Goals as goal
use Rattle.machine.proofs.waiting_frame.SparseRegisters.of.Goals.{then-is_set+in_ok-push, else-is_set}

pub loop-register-preserved : goal.loop-register-preserved
loop-register-preserved c =
    let registers = c.args.registers.now in
    let n = length registers in
    let i = c.loop-register.register in
    let v = c.index-registers-register.result in
    let within = c.loop-register-test.true in
    elim c.if-is_set.branch [
      | then-is_set+in_ok-push w ↦
          ap (registers_with n) w.set-is
          ∙ ap (registers_with n) w.in_ok-push.ensures.ok
          ∙ set_more c.loop-register.set record { register = i; value = v } (replicate n value.Unset)
          ∙ ap (λ l. slice_set l i v) c.loop-register.invariant
          ∙ ap (λ x. slice_set (front_of registers i) i x) c.index-registers-register.is
          ∙ one_set registers i v within
      | else-is_set w ↦
          ap (registers_with n) w.set-is
          ∙ c.loop-register.invariant
          ∙ one_unset registers i v within (subst (λ x. is_set x ≡ false) c.index-registers-register.is (sym w.if-is_set.ensures))
    ]
