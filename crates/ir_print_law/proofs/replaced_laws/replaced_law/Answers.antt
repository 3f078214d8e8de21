use Rattle.ir_print_law.proofs.ReplacedWhole.{replaced_is_alone, replaced_is_whole}
use Rattle.ir_print_law.proofs.replaced_laws.replaced_law.Goals as goal

pub returns-clause-whole : goal.returns-clause-whole
returns-clause-whole c = replaced_is_whole

pub returns-clause-alone : goal.returns-clause-alone
returns-clause-alone c = replaced_is_alone
