use Rattle.std.proofs.Common.{◌≡◌, length, MatchOption, rules, subst, sym}
use Rattle.module_check.specs.Accepted.{IsModuleCertified, IsModuleFault}
use Rattle.parallel_check.proofs.Merged.{first_in_module}
use Rattle.parallel_check.proofs.checking.fault_by_workers.Goals as goal

pub returns-in-Ok : goal.returns-in-Ok
returns-in-Ok g c =
    let program = c.args.functions.now.program.now in
    let certs = c.args.functions.now.certs.now.sections in
    let faults = c.in-Ok.faults.items in
    let as_many : length faults ≡ c.args.workers = search rules in
    subst (λ fault. MatchOption fault (IsModuleCertified program certs c.args.functions.now.count) (IsModuleFault program certs c.args.functions.now.count)) (sym c.first_of.ensures)
    (first_in_module program certs c.args.functions.now.count c.args.workers faults c.requires.some as_many (λ i d less. (c.in-Ok.ensures.each i d less).1.met))
