-- The plain certificates of a module: they say the least, and they fit it.
use Rattle.std.proofs.Common.{◌≡◌, ◌∙◌, List, [], ◌∷◌, None, true, ◌&&◌, length, map, refl, ap, ap₂}
use Rattle.std.specs.Prelude.{◌==◌}
use Rattle.std.specs.List.{list_all, zip}
use Rattle.std.proofs.lemmas.Bool.{eq-eqb, eqb-true}
use Rattle.std.proofs.lemmas.List.{length-map}
use Rattle.lemmas.specs.Bools.{and_first}
use Rattle.ir_ast.specs.declared.block.Block.{Block}
use Rattle.ir_ast.specs.declared.function.Function.{Function}
use Rattle.ir_ast.specs.declared.function.Parameter.{Parameter}
use Rattle.ir_ast.specs.declared.module.Module.{Module}
use Rattle.certs.specs.Fits.{blocks_fit, entry_is_empty, fits, claims_fit, parameter_fits, parameters_fit, section_fits}
use Rattle.certs.specs.declared.section.Claim.{Claim}
use Rattle.certs.specs.declared.section.Mark.TheVariants.{May}
use Rattle.certs.specs.declared.section.Section.{Section}

-- it may reach a safepoint, nothing is promised, and no claim stands at any block
abbrev pub plain_section : Function → Section
plain_section f = record { mark = May; parameters = map (λ _. None) f.parameters; result = None; blocks = map (λ _. []) f.blocks }

-- such a section for each function
abbrev pub plain : Module → List Section
plain m = map plain_section m.functions

-- ---- they fit

-- a list that is made of another one is as long
as_long : {A B : Type 0} (f : A → B) (xs : List A) → (length (map f xs) == length xs) ≡ true
as_long f xs = eq-eqb _ _ (length-map xs f)

promises_fit : (m : Module) (f : Function) (parameters : List Parameter) → list_all (λ p. parameter_fits m f p.0 p.1) (zip parameters (map (λ _. None) parameters)) ≡ true
promises_fit m f [] = refl
promises_fit m f (p ∷ parameters) = promises_fit m f parameters

each_block_fits : (m : Module) (f : Function) (blocks : List Block) → list_all (claims_fit m f) (map (λ _. []) blocks) ≡ true
each_block_fits m f [] = refl
each_block_fits m f (b ∷ blocks) = each_block_fits m f blocks

entry_fits : (blocks : List Block) → entry_is_empty (map (λ _. []) blocks) ≡ true
entry_fits [] = refl
entry_fits (b ∷ blocks) = refl

parameters_fit_plain : (m : Module) (f : Function) → parameters_fit m f (map (λ _. None) f.parameters) ≡ true
parameters_fit_plain m f = ap₂ (λ a b. a && b) (as_long (λ _. None) f.parameters) (promises_fit m f f.parameters)

blocks_fit_plain : (m : Module) (f : Function) → blocks_fit m f (map (λ _. []) f.blocks) ≡ true
blocks_fit_plain m f =
    let blocks : List (List Claim) = map (λ _. []) f.blocks in
    ap (λ a. a && entry_is_empty blocks && list_all (claims_fit m f) blocks) (as_long (λ _. []) f.blocks)
    ∙ ap (λ a. true && a && list_all (claims_fit m f) blocks) (entry_fits f.blocks)
    ∙ ap (λ a. true && true && a) (each_block_fits m f f.blocks)

-- such a section fits its function
pub plain_section_fits : (m : Module) (f : Function) → section_fits m f (plain_section f) ≡ true
plain_section_fits m f = ap₂ (λ a b. a && true && b) (parameters_fit_plain m f) (blocks_fit_plain m f)

each_section_fits : (m : Module) (functions : List Function) → list_all (λ p. section_fits m p.0 p.1) (zip functions (map plain_section functions)) ≡ true
each_section_fits m [] = refl
each_section_fits m (f ∷ functions) = ap₂ (λ a b. a && b) (plain_section_fits m f) (each_section_fits m functions)

-- the plain certificates fit their module
pub plain_fits : (m : Module) → fits m (plain m) ≡ true
plain_fits m = ap₂ (λ a b. a && b) (as_long plain_section m.functions) (each_section_fits m m.functions)

-- ---- certificates that fit

-- they have a section for each function
pub one_for_each : (m : Module) (certs : List Section) → fits m certs ≡ true → length certs ≡ length m.functions
one_for_each m certs h = eqb-true (length certs) (length m.functions) (and_first (length certs == length m.functions) (list_all (λ p. section_fits m p.0 p.1) (zip m.functions certs)) h)
