-- What comes of one function with its section in the place of another.
use Rattle.std.proofs.Common.{◌≡◌, ℕ, List, length, slice_get, Option, Some, refl, ap, sym, subst, ◌∙◌}
use Rattle.std.specs.Prelude.{slice_set}
use Rattle.ir_ast.specs.declared.function.Function.{Function}
use Rattle.ir_ast.specs.declared.module.Module.{Module}
use Rattle.ir_ast.specs.declared.outside.Outside.{Outside}
use Rattle.ir_ast.specs.declared.shapes.Shapes.{Shapes}
use Rattle.ir_tokens.specs.Bytes.{Text}
use Rattle.certs.specs.declared.certs.Certs.{Certs}
use Rattle.certs.specs.declared.section.Section.{Section}
use Rattle.layout.specs.Functions.{laid_with}
use Rattle.layout.specs.Layouts.{LaidOut}
use Rattle.answers.specs.Local.{interface_of, LooksSame}
use Rattle.answers.specs.Edited.{IfUnseen, IsEdited}
use Rattle.answers.specs.declared.callers.Callers.{Callers}
use Rattle.answers.specs.declared.callers.Callers.TheVariants.{SeeChange, SeeNone}
use Rattle.recheck.specs.Edits.{IsShapedSection}
use Rattle.recheck.specs.Put.{IsWithCode, IsWithSection, IsTextPut}
use Rattle.recheck.specs.Interface.{rechecked_by}
use Rattle.std.proofs.lemmas.List.{length-set}
use Rattle.lemmas.specs.Lists.{set_other}
use Rattle.recheck.proofs.Lists.{set_back}

-- there are as many functions where one is another
pub as_many_functions : (p q : LaidOut) (func : ℕ) (f : Function) → q ≡ laid_with p (slice_set p.of_module.functions func f) → length q.of_module.functions ≡ length p.of_module.functions
as_many_functions p q func f e = ap (λ (r : LaidOut). length r.of_module.functions) e ∙ length-set p.of_module.functions func f

-- and as many sections
pub as_many_sections : (certs others : List Section) (func : ℕ) (section : Section) → others ≡ slice_set certs func section → length others ≡ length certs
as_many_sections certs others func section e = ap length e ∙ length-set certs func section

-- what callers see, of the function as it is in the other program
unseen_in : (p : LaidOut) (certs : List Section) (q : LaidOut) (others : List Section) (func : ℕ) (callers : Callers) (old : Function) (past : Section)
    → slice_get p.of_module.functions func ≡ Some old → slice_get certs func ≡ Some past
    → IfUnseen callers (interface_of (slice_get q.of_module.functions func) (slice_get others func) ≡ interface_of (Some old) (Some past)) → IfUnseen callers (LooksSame p certs q.of_module.functions others func)
unseen_in p certs q others func SeeChange old past code section h = tt
unseen_in p certs q others func SeeNone old past code section h =
    h ∙ ap (λ (f : Option Function). interface_of f (Some past)) (sym code) ∙ ap (λ (s : Option Section). interface_of (slice_get p.of_module.functions func) s) (sym section)

-- one function and one section are others
pub edited : (p : LaidOut) (certs : List Section) (q : LaidOut) (others : List Section) (func : ℕ) (callers : Callers) (old : Function) (past : Section) (n : Module) → n ≡ q.of_module
    → IfUnseen callers (interface_of (slice_get n.functions func) (slice_get others func) ≡ interface_of (Some old) (Some past))
    → IsWithCode p q func old → IsWithSection certs others func past → IsEdited p certs q others func callers
edited p certs q others func callers old past n same h code section = record {
  tables = code.tables;
  code = code.others;
  sections = section.others_same;
  unseen = unseen_in p certs q others func callers old past code.code section.section
      (subst (λ (m : Module). IfUnseen callers (interface_of (slice_get m.functions func) (slice_get others func) ≡ interface_of (Some old) (Some past))) same h);
}

-- the certificates with another section
pub with_section : (certs others : List Section) (func : ℕ) (past section : Section) → others ≡ slice_set certs func section → slice_get certs func ≡ Some past → IsWithSection certs others func past
with_section certs others func past section e at = record {
  others_same = λ other differs. ap (λ (l : List Section). slice_get l other) e ∙ set_other certs func other section differs;
  section = at;
}

-- the program itself
pub with_itself : (p : LaidOut) (func : ℕ) (old : Function) → slice_get p.of_module.functions func ≡ Some old → IsWithCode p p func old
with_itself p func old at = record { tables = refl; others = λ other differs. refl; code = at }

-- the program with another function
pub with_other : (p q : LaidOut) (func : ℕ) (old f : Function) → q ≡ laid_with p (slice_set p.of_module.functions func f) → slice_get p.of_module.functions func ≡ Some old → IsWithCode p q func old
with_other p q func old f e at =
    let functions : q.of_module.functions ≡ slice_set p.of_module.functions func f = ap (λ (r : LaidOut). r.of_module.functions) e in
    record {
      tables = e ∙ ap (laid_with p) (sym functions);
      others = λ other differs. ap (λ (l : List Function). slice_get l other) functions ∙ set_other p.of_module.functions func other f differs;
      code = at;
    }

-- where the old function is put back, the program is as it was
pub program_back : (p q r : LaidOut) (func : ℕ) (old f : Function) → q ≡ laid_with p (slice_set p.of_module.functions func f) → slice_get p.of_module.functions func ≡ Some old
    → r ≡ laid_with q (slice_set q.of_module.functions func old) → r ≡ p
program_back p q r func old f e at back =
    back ∙ ap (λ (x : LaidOut). laid_with x (slice_set x.of_module.functions func old)) e ∙ ap (laid_with p) (set_back p.of_module.functions func old f at)

-- where the old section is put back, the certificates are as they were
pub certs_back : (certs others again : Certs) (func : ℕ) (past section : Section) → others.sections ≡ slice_set certs.sections func section → slice_get certs.sections func ≡ Some past → again.sections ≡ slice_set others.sections func past
    → again.shapes ≡ certs.shapes → again.foreign ≡ certs.foreign → again ≡ certs
certs_back certs others again func past section e at back shapes foreign =
    let sections : again.sections ≡ certs.sections = (back ∙ ap (λ (l : List Section). slice_set l func past) e ∙ set_back certs.sections func past section at) in
    ap (λ (l : List Section). record { sections = l; shapes = again.shapes; foreign = again.foreign }) sections
    ∙ ap (λ (x : Option Shapes). record { sections = certs.sections; shapes = x; foreign = again.foreign }) shapes
    ∙ ap (λ (x : Outside). record { sections = certs.sections; shapes = certs.shapes; foreign = x }) foreign

-- the section that was read stands in its place, with the count
pub put_so : (p : LaidOut) (certs : List Section) (q : LaidOut) (others : List Section) (func : ℕ) (old : Function) (past section : Section) (text : Text) (count : ℕ)
    → IsShapedSection text q.of_module func section → others ≡ slice_set certs func section → slice_get p.of_module.functions func ≡ Some old → slice_get certs func ≡ Some past
    → count ≡ rechecked_by q.of_module others func (Some old) (Some past) → IsTextPut p certs func text q others count
put_so p certs q others func old past section text count is e code at counted = (
  section,
  is,
  record {
    certs_are = e;
    rechecked = counted ∙ ap (λ (f : Option Function). rechecked_by q.of_module others func f (Some past)) (sym code)
        ∙ ap (λ (s : Option Section). rechecked_by q.of_module others func (slice_get p.of_module.functions func) s) (sym at);
  },
)
