use Rattle.thread_order.proofs.order.ThreadOrder.go_on.Goals as goal

pub claim-requires : goal.claim-requires
claim-requires c = c.requires c.in-Claim.cell c.in-Claim.won c.in-Claim.is
