use Rattle.cert_print_law.proofs.Names.{module_named}
use Rattle.cert_print_law.proofs.Unshaped.{no_shapes, read_unshaped}
use Rattle.cert_print_law.proofs.printed_again_law.Goals as goal

pub returns-clause-named : goal.returns-clause-named
returns-clause-named c bytes m own is short = module_named m (c.named_law.ensures bytes m own is) short

pub returns-clause-again : goal.returns-clause-again
returns-clause-again c bytes text m certs own is short typed read =
    let names = c.named_law.ensures bytes m own is in
    let named = module_named m names short in
    let shaped = c.cert_law.ensures.shaped text m certs names.globals names.structs read in
    c.cert_law.ensures.printed m certs read.0 read.1 named typed (read_unshaped bytes m is) (no_shapes m certs.shapes typed shaped.0) (c.cert_law.ensures.fit text m certs read) (c.cert_law.ensures.foreign text m certs read)
