-- What a call may do by the mark of its callee: which functions may make it, and what is known after it.
use Rattle.std.specs.Prelude.{◌↔◌, Bool, true, false, not, ◌||◌}
use Rattle.certs.specs.declared.section.Mark.{Mark}
use Rattle.certs.specs.declared.section.Mark.TheVariants.{May, None}
use Rattle.facts.specs.Facts.{FactSet, make_stale}
use Rattle.facts.specs.Statements.{Statement, Says, Outlasts}

-- a function may reach a safepoint
abbrev pub is_may : Mark → Bool
is_may May = true
is_may None = false

-- K17: a function that may reach no safepoint calls none that may reach one
abbrev pub marks_agree : (own called : Mark) → Bool
marks_agree own called = is_may own || not (is_may called)

-- what is known after a function that is marked so
abbrev pub after_mark : Mark → FactSet → FactSet
after_mark May facts = make_stale facts
after_mark None facts = facts

-- a statement that a call of a function that is marked so leaves: a safepoint may have come
abbrev pub OutlastsCall : Mark → FactSet → Statement → Type 0
OutlastsCall May facts statement = Outlasts facts statement
OutlastsCall None facts statement = Unit {0}

-- exactly the other statements end
abbrev pub EndsOthers : Mark → (before after : FactSet) → Type 0
EndsOthers mark before after = (statement : Statement) → Says after statement ↔ (Says before statement × OutlastsCall mark before statement)
