-- What contracts see of the fields.
use Rattle.thread_order.specs.declared.order.ThreadOrder.TheInside.{Inside}
use Rattle.thread_order.specs.Standings.{Standing}

-- where the thread stands, as contracts see it
abbrev pub standing_in : Inside → Standing
standing_in t = record { heap = t.plan.now; stage = t.stage; at = t.at; pool = t.pool; left = t.left; is_tried = t.is_tried; marked = t.marked }
