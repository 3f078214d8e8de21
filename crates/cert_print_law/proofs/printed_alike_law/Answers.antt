use Rattle.cert_print_law.proofs.Names.{module_named}
use Rattle.cert_print_law.proofs.RootValues.{root_values}
use Rattle.cert_print_law.proofs.Unshaped.{read_unshaped}
use Rattle.cert_print_law.proofs.printed_alike_law.Goals as goal

pub returns-clause-roots : goal.returns-clause-roots
returns-clause-roots c m within = root_values m within

pub returns-clause-alike : goal.returns-clause-alike
returns-clause-alike c bytes text m certs own is short read =
    let names = c.named_law.ensures bytes m own is in
    let named = module_named m names short in
    let shaped = c.cert_law.ensures.shaped text m certs names.globals names.structs read in
    let values = root_values m (c.within_law.ensures.read bytes m own is) in
    c.cert_law.ensures.alike m certs read.0 read.1 named names.globals names.structs values (read_unshaped bytes m is) (c.cert_law.ensures.fit text m certs read) (c.cert_law.ensures.foreign text m certs read) shaped.1
