-- What is kept of the other functions stays right where one function or its section is replaced.
use Rattle.std.proofs.Common.{◌≡◌, ℕ, List, slice_get, Option, Some, None, Result, Ok, Err, refl, ap, sym, subst, ◌∙◌}
use Rattle.std.specs.Prelude.{slice_set, OnOk, OnErr}
use Rattle.lemmas.specs.Lists.{set_other}
use Rattle.ir_ast.specs.declared.function.Function.{Function}
use Rattle.certs.specs.declared.certs.Certs.{Certs}
use Rattle.certs.specs.declared.section.Section.{Section}
use Rattle.layout.specs.Functions.{laid_with}
use Rattle.layout.specs.Layouts.{LaidOut}
use Rattle.facts.specs.Facts.{FactSet}
use Rattle.answers.specs.KeptRows.{AreEmpty, AreKept, AreOthersKept, OthersStay}
use Rattle.answers.specs.declared.callers.Callers.TheVariants.{SeeChange}
use Rattle.recheck.specs.declared.edit_fault.EditFault.{EditFault}
use Rattle.recheck.specs.declared.kept.KeptWork.{KeptWork}

-- where a section is another
pub others_with_section : OthersStay → (p : LaidOut) (certs others : List Section) (func : ℕ) (section : Section) (places : List (Option (List FactSet))) → others ≡ slice_set certs func section
    → AreOthersKept p certs func places → AreOthersKept p others func places
others_with_section stay p certs others func section places e = stay p certs p others func SeeChange places (record {
  tables = refl;
  code = λ other differs. refl;
  sections = λ other differs. ap (λ (l : List Section). slice_get l other) e ∙ set_other certs func other section differs;
  unseen = tt;
})

-- where a function is another
pub others_with_code : OthersStay → (p q : LaidOut) (certs : List Section) (func : ℕ) (f : Function) (places : List (Option (List FactSet))) → q ≡ laid_with p (slice_set p.of_module.functions func f)
    → AreOthersKept p certs func places → AreOthersKept q certs func places
others_with_code stay p q certs func f places e =
    let functions : q.of_module.functions ≡ slice_set p.of_module.functions func f = ap (λ (r : LaidOut). r.of_module.functions) e in
    stay p certs q certs func SeeChange places (record {
      tables = e ∙ ap (laid_with p) (sym functions);
      code = λ other differs. ap (λ (l : List Function). slice_get l other) functions ∙ set_other p.of_module.functions func other f differs;
      sections = λ other differs. refl;
      unseen = tt;
    })

-- where nothing is kept
pub none_kept : (p : LaidOut) (certs : List Section) (places : List (Option (List FactSet))) → AreEmpty places → AreKept p certs places
none_kept p certs places empty func rows at = let both : None ≡ Some rows = sym (empty func) ∙ at in absurd cc

-- what is kept is right, where it is so after code that is accepted, and all is as before after code that is refused
pub rows_anew : (p q : LaidOut) (certs others : Certs) (before after : KeptWork) (r : Result ℕ EditFault) → AreKept p certs.sections before.functions.rows → OnOk r (AreKept q others.sections after.functions.rows)
    → OnErr r ((q ≡ p) × (others ≡ certs) × (after ≡ before)) → AreKept q others.sections after.functions.rows
rows_anew p q certs others before after (Ok count) h accepted same = accepted
rows_anew p q certs others before after (Err x) h accepted same =
    subst (λ (r : LaidOut). AreKept r others.sections after.functions.rows) (sym same.0)
    (subst (λ (c : Certs). AreKept p c.sections after.functions.rows) (sym same.1) (subst (λ (k : KeptWork). AreKept p certs.sections k.functions.rows) (sym same.2) h))
