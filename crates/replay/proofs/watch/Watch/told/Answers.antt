-- The world is the one after one actor more, which broke the run or did not.
use Rattle.std.proofs.Common.{◌≡◌, suc, ◌∷◌, length, sym, ap, subst, ◌∙◌, arith}
use Rattle.stepping.specs.declared.cover.Cover.{Cover}
use Rattle.stepping.specs.Covers.{IsCovered}
use Rattle.replay.specs.Runs.{program_machine, heap_of}
use Rattle.program_runner.specs.Setups.{starts_of}
use Rattle.replay.specs.Worlds.{World, IsAfter, IsOverIn, run_of}
use Rattle.replay.specs.Watched.{IsCauseAfter}
use Rattle.replay.proofs.Lists.{first_break}
use Rattle.replay.proofs.Watching.{cause_is, cover_is, run_is, goes_on}
use Rattle.replay.proofs.watch.Watch.told.Goals as goal

pub returns-in-None : goal.returns-in-None
returns-in-None c p setup before is =
    let w = c.args.self.now in
    let v = c.count.new.self in
    let actor = c.args.actor in
    let same_program = ap (λ (x : World). x.program) c.count.ensures.world ∙ is.program in
    let same_setup = ap (λ (x : World). x.setup) c.count.ensures.world ∙ is.setup_is in
    let afterwards = subst (λ (x : World). IsAfter x (actor ∷ before)) (sym c.count.ensures.world) is.afterwards in
    let known = subst (λ (x : Cover). IsCovered (heap_of p setup) program_machine (starts_of p setup) (run_of p setup before) x) (sym c.count.ensures.cover) is.covered in
    let cause = cause_is p setup before actor c.args.made.now v.world v.cover c.in_ok-cause_after.field-0 same_program same_setup afterwards is.made_is known is.unbroken c.in_ok-cause_after.ensures.cause in
    let covered = cover_is p setup before actor c.args.made.now v.world v.cover c.cause_after.new.cover same_program same_setup afterwards is.made_is known
    (λ before actor afterwards made known. c.in_ok-cause_after.ensures.cover before actor afterwards made known c.in-None.is) in
    goes_on p setup before actor c.args.made.now w (record v { cover = c.cause_after.new.cover }) is c.count.ensures.world c.count.ensures.steps c.count.ensures.claims c.count.ensures.frees
    (subst (λ o. IsCauseAfter p setup (actor ∷ before) o) c.in-None.is cause) covered

pub returns-in-Some : goal.returns-in-Some
returns-in-Some c p setup before is rest =
    let w = c.args.self.now in
    let v = c.count.new.self in
    let actor = c.args.actor in
    let same_program = ap (λ (x : World). x.program) c.count.ensures.world ∙ is.program in
    let same_setup = ap (λ (x : World). x.setup) c.count.ensures.world ∙ is.setup_is in
    let afterwards = subst (λ (x : World). IsAfter x (actor ∷ before)) (sym c.count.ensures.world) is.afterwards in
    let known = subst (λ (x : Cover). IsCovered (heap_of p setup) program_machine (starts_of p setup) (run_of p setup before) x) (sym c.count.ensures.cover) is.covered in
    let cause = cause_is p setup before actor c.args.made.now v.world v.cover c.in_ok-cause_after.field-0 same_program same_setup afterwards is.made_is known is.unbroken c.in_ok-cause_after.ensures.cause in
    let step : v.steps ≡ suc (length before) = omega (arith, c.count.ensures.steps, is.steps) in
    first_break p setup before rest (record { step = v.steps; actor = c.args.actor; cause = c.in-Some.cause }) is.unbroken step
    (run_is p setup (actor ∷ before) v.world same_program same_setup afterwards)
    (subst (λ o. IsCauseAfter p setup (actor ∷ before) o) c.in-Some.is cause)

pub cause_after-requires : goal.cause_after-requires
cause_after-requires c =
    subst (λ (x : World). IsOverIn x c.count.new.self.cover) (sym c.count.ensures.world) (subst (λ (x : Cover). IsOverIn c.args.self.now.world x) (sym c.count.ensures.cover) c.requires.cover)
