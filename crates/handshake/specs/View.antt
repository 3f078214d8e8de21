-- What a safepoint under way has still to do.
use Rattle.std.specs.Prelude.{ℕ, List, [], ◌∷◌, ◌++◌}
use Rattle.handshake.specs.declared.safepoint.Next.{Next}
use Rattle.handshake.specs.declared.safepoint.Next.TheVariants.{ReadPosted, Mark as MarkRoot, StoreStage as PutStage, Nothing}
use Rattle.handshake.specs.declared.safepoint.Safepoint.TheInside.{Inside}
use Rattle.colours.specs.Steps.{Mark, StoreStage}
use Rattle.colours.specs.Calls.{Todo, Polling, Steps, Call, marks_of_all}

-- what is to be done before the next operation, with these roots
abbrev pub todo_at : Next → (roots : List ℕ) → Todo
todo_at ReadPosted roots = Polling roots
todo_at (MarkRoot posted root rest) roots = Steps (Mark root ∷ (marks_of_all rest.now ++ StoreStage posted roots ∷ []))
todo_at (PutStage posted) roots = Steps (StoreStage posted roots ∷ [])
todo_at Nothing roots = Steps []

-- the safepoint as contracts see it
abbrev pub view_of : Inside → Call
view_of point = record { thread = point.thread; stage = point.stage; todo = todo_at point.next point.roots.now }
