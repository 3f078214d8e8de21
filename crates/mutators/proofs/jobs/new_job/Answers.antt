use Rattle.std.proofs.Common.{inr, ◌∙◌, Some, sym, ap, subst, refl}
use Rattle.std.specs.Option.{option_copied}
use Rattle.layout.specs.Layouts.{LaidOut}
use Rattle.program_safety.specs.Safety.{IsCarefulProgram}
use Rattle.program_runner.specs.Setups.{MayBegin, begun_at}
use Rattle.mutators.proofs.Beginnings.{job_of}
use Rattle.mutators.proofs.Bounds.{met_by, not_met_by}
use Rattle.mutators.proofs.jobs.new_job.Goals as goal

pub returns-then-not-are_under-clause-fault : goal.returns-then-not-are_under-clause-fault
returns-then-not-are_under-clause-fault c other =
    let begins = subst (λ (p : LaidOut). MayBegin p c.args.begun.now) c.program.ensures.program c.in_ok-machine.ensures.no_fault in (
      refl,
      inr (
        begins,
        not_met_by c.args.of_setup.now.accepted.now.certs c.args.begun.now c.certs.result.now (option_copied c.section-section.result) c.promises_in.result.now c.as_slice.result.now c.certs.ensures c.section-section.ensures c.promises_in.ensures c.as_slice.ensures
            (sym c.are_under.ensures ∙ c.if-not-are_under.true),
      ),
    )

pub returns-clause-ok : goal.returns-clause-ok
returns-clause-ok c =
    let p = c.args.of_setup.now.accepted.now.program in
    let certs = c.args.of_setup.now.accepted.now.certs in
    let setup = c.args.of_setup.now.setup.now in
    let begun = c.args.begun.now in
    let careful = subst (λ (q : LaidOut). IsCarefulProgram q certs.sections) c.program.ensures.program c.program.ensures.careful in
    let begins = subst (λ (q : LaidOut). MayBegin q begun) c.program.ensures.program c.in_ok-machine.ensures.no_fault in
    let meets = met_by certs begun c.certs.result.now (option_copied c.section-section.result) c.promises_in.result.now c.as_slice.result.now c.certs.ensures c.section-section.ensures c.promises_in.ensures c.as_slice.ensures
    (sym c.are_under.ensures ∙ c.if-not-are_under.false) in
    job_of p setup certs.sections c.args.heap.now c.args.number begun c.args.me c.in_ok-machine.machine c.is_late.result _ careful c.begun_law.ensures c.requires.heap c.requires.at c.requires.begun
    (record { begins = begins; meets = meets }) c.requires.token (c.in_ok-machine.ensures.ok ∙ ap (λ (q : LaidOut). begun_at q setup (Some begun)) c.program.ensures.program) c.is_late.ensures

pub returns-clause-no_fault : goal.returns-clause-no_fault
returns-clause-no_fault c =
    let certs = c.args.of_setup.now.accepted.now.certs in
    let begun = c.args.begun.now in
    record {
      begins = subst (λ (q : LaidOut). MayBegin q begun) c.program.ensures.program c.in_ok-machine.ensures.no_fault;
      meets = met_by certs begun c.certs.result.now (option_copied c.section-section.result) c.promises_in.result.now c.as_slice.result.now c.certs.ensures c.section-section.ensures c.promises_in.ensures c.as_slice.ensures
          (sym c.are_under.ensures ∙ c.if-not-are_under.false);
    }
