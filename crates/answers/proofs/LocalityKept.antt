-- The answer to a function stays what it is where its scope is the same, and so does what its blocks begin with.
use Rattle.std.specs.Prelude.{◌≡◌, ◌<◌, ℕ, List, length, slice_get, Option, Some, None, refl}
use Rattle.std.specs.Option.{option_map_or}
use Rattle.std.proofs.Common.{ap, sym, subst, ◌∙◌}
use Rattle.ir_ast.specs.declared.function.Function.{Function}
use Rattle.certs.specs.declared.section.Section.{Section}
use Rattle.layout.specs.Layouts.{LaidOut}
use Rattle.block_rules.specs.declared.block_fault.Breach.{Breach}
use Rattle.block_rules.specs.Edges.{RuleContext, entry_facts_at}
use Rattle.block_rules.specs.Certified.{context_of, IsCertified, BreaksAt, IsCertifiedIn, BreaksIn, BlockCertified}
use Rattle.block_rules.specs.Functions.{blocks_in}
use Rattle.answers.specs.Local.{laid_with, context_with, CallsSame, SameScope}
use Rattle.answers.specs.Laws.{StayCertified, StayRefused, StayGiven}
use Rattle.answers.proofs.Slots.{slots_of_same}
use Rattle.answers.proofs.Scenes.{block_stays, breach_stays}
use Rattle.answers.proofs.Edges.{entry_facts_at_same}

module _ (p : LaidOut) (certs : List Section) (fs : List Function) (others : List Section) where
  context_same : (f : Function) (section : Option Section) → context_with (context_of p certs f section) fs others ≡ context_of (laid_with p fs) others f section
  context_same f section = sym (λ along. record { program = laid_with p fs; certs = others; function = f; slots = slots_of_same p.of_module fs along f; section = section })

  -- what each function calls looks the same, if there is a function
  abbrev CalledSame : Option Function → Type 0
  CalledSame x = (f : Function) → x ≡ Some f → CallsSame p certs fs others f

  certified_in : (section : Option Section) (x : Option Function) (block : ℕ) → CalledSame x → IsCertifiedIn p certs section x block → IsCertifiedIn (laid_with p fs) others section x block
  certified_in section None block calls h = absurd h
  certified_in section (Some f) block calls h =
      subst (λ (s : RuleContext). IsCertified s block) (context_same f section) (block_stays (context_of p certs f section) fs others block (calls f refl block) h)

  breaks_in : (section : Option Section) (x : Option Function) (block place : ℕ) (broken : Breach) → CalledSame x → BreaksIn p certs section x block place broken → BreaksIn (laid_with p fs) others section x block place broken
  breaks_in section None block place broken calls h = absurd h
  breaks_in section (Some f) block place broken calls h =
      subst (λ (s : RuleContext). BreaksAt s block place broken) (context_same f section) (breach_stays (context_of p certs f section) fs others block place broken (calls f refl block) h)

  module _ (func : ℕ) (scope : SameScope p certs fs others func) where
    -- what holds of this function and its certificate holds of those that stand there now
    put : (P : Option Section → Option Function → Type 0) → P (slice_get certs func) (slice_get p.of_module.functions func) → P (slice_get others func) (slice_get fs func)
    put P h =
        subst (λ (x : Option Section). P x (slice_get fs func)) (sym scope.section) (subst (λ (x : Option Function). P (slice_get certs func) x) (sym scope.code) h)

    block_same : (block : ℕ) → BlockCertified p certs func block → BlockCertified (laid_with p fs) others func block
    block_same block h =
        put (λ section x. IsCertifiedIn (laid_with p fs) others section x block) (certified_in (slice_get certs func) (slice_get p.of_module.functions func) block scope.calls h)

    breach_same : (block place : ℕ) (broken : Breach) → BreaksIn p certs (slice_get certs func) (slice_get p.of_module.functions func) block place broken
        → BreaksIn (laid_with p fs) others (slice_get others func) (slice_get fs func) block place broken
    breach_same block place broken h =
        put (λ section x. BreaksIn (laid_with p fs) others section x block place broken) (breaks_in (slice_get certs func) (slice_get p.of_module.functions func) block place broken scope.calls h)

    as_many : blocks_in (laid_with p fs) func ≡ blocks_in p func
    as_many = ap (λ (x : Option Function). option_map_or (λ function. length function.blocks) x 0) scope.code

pub certified : StayCertified
certified p certs fs others func scope h block within =
    block_same p certs fs others func scope block (h block (subst (λ n. block < n) (as_many p certs fs others func scope) within))

pub refused : StayRefused
refused p certs fs others func refusal scope h = record {
  of_function = h.of_function;
  within = subst (λ n. refusal.block < n) (sym (as_many p certs fs others func scope)) h.within;
  refused = record {
    of_func = h.refused.of_func;
    of_block = h.refused.of_block;
    breaks = breach_same p certs fs others func scope refusal.block refusal.instr (record { rule = refusal.rule; detail = refusal.detail }) h.refused.breaks;
  };
  before = λ block less. block_same p certs fs others func scope block (h.before block less);
}

pub given : StayGiven
given p certs fs others f section block =
    let s : RuleContext = context_of p certs f section in
    ap (λ (x : RuleContext). entry_facts_at x block) (sym (context_same p certs fs others f section)) ∙ (λ along. entry_facts_at_same s fs others along block)
