use Rattle.handshake.proofs.Safepoints.{safepoint_exact}
use Rattle.handshake.proofs.laws.safepoint_law.Goals as goal

pub returns : goal.returns
returns c s thread stage roots = safepoint_exact s stage roots thread
