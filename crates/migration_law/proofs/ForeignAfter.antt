-- Functions outside that fit before fit in opaque text.
use Rattle.std.proofs.Common.{◌≡◌, ℕ, zero, suc, Bool, true, false, List, [], ◌∷◌, map, slice_get, if◌then◌else◌, Option, None, Some, Result, Ok, Err, refl, sym, ap, ◌∙◌, subst}
use Rattle.ir_ast.specs.Outside.{none_outside}
use Rattle.ir_ast.specs.declared.items_of_module.Declare.{Declare}
use Rattle.ir_ast.specs.declared.module.Module.{Module}
use Rattle.ir_ast.specs.declared.outside.Outside.{Outside}
use Rattle.copies.specs.Opaque.{opaque_declare, opaque_module}
use Rattle.types.specs.RuntimeCall.{is_outside_declare}
use Rattle.certs.specs.ForeignFit.{foreign_fits, foreign_same}
use Rattle.certs.specs.declared.certs.Certs.{Certs}
use Rattle.certificate.specs.Migrated.{is_typed_text, migrated_by, migrated_typed}
use Rattle.certificate.specs.ShapeDrafts.{shapes_gap}
use Rattle.certificate.specs.TypedShapes.{typed_draft}
use Rattle.certificate.specs.declared.fault.CertFault.{CertFault}
use Rattle.certificate.specs.declared.mistake.Mistake.{Mistake}
use Rattle.certificate.specs.declared.shape_draft.ShapeDraft.{ShapeDraft}
use Rattle.migration_law.specs.MigratedFits.{AreMigratedForeign}
use Rattle.migration_law.proofs.FamiliesAfter.{numbers}

-- a declare is of what it was
same_declare : (numbers : List ℕ) (declares : List Declare) (d : ℕ) → is_outside_declare (slice_get (map (opaque_declare numbers) declares) d) ≡ is_outside_declare (slice_get declares d)
same_declare numbers [] d = refl
same_declare numbers (x ∷ declares) zero = refl
same_declare numbers (x ∷ declares) (suc d) = same_declare numbers declares d

same_fit : (m : Module) (foreign : Outside) → foreign_fits (opaque_module m) foreign ≡ foreign_fits m foreign
same_fit m foreign = foreign_same m (opaque_module m) refl (same_declare (numbers m) m.declares) refl refl foreign

-- the functions outside of an answer
abbrev foreign_in : Result Certs CertFault → Outside
foreign_in (Ok certs) = certs.foreign
foreign_in (Err fault) = none_outside

kept_by : (m : Module) (certs migrated : Certs) (draft : ShapeDraft) (gap : Option Mistake) → Ok migrated ≡ migrated_by m certs draft gap → migrated.foreign ≡ certs.foreign
kept_by m certs migrated draft None e = ap foreign_in e
kept_by m certs migrated draft (Some gap) e = absurd cc

kept_if : (m : Module) (rows : List (List ℕ)) (certs migrated : Certs) (typed : Bool) → Ok migrated ≡ (if typed then migrated_typed m (opaque_module m) rows certs else Ok certs) → migrated.foreign ≡ certs.foreign
kept_if m rows certs migrated true e = (let draft = typed_draft m (opaque_module m) rows in kept_by m certs migrated draft (shapes_gap (opaque_module m) draft) e)
kept_if m rows certs migrated false e = ap foreign_in e

pub foreign_migrated : AreMigratedForeign
foreign_migrated m certs migrated fit answer =
    let kept = kept_if m answer.0 certs migrated (is_typed_text m (opaque_module m)) answer.2 in
    (kept, subst (λ (x : Outside). foreign_fits (opaque_module m) x ≡ true) (sym kept) (same_fit m certs.foreign ∙ fit))
