-- The tokens of threads that have made no step, taken one after another.
use Rattle.std.proofs.Common.{◌≡◌, ◌<◌, inl, inr, ℕ, suc, Some, List, [], ◌∷◌, ◌++◌, length, slice_get, slice_index_or, sym, ap, subst, ◌∙◌, arith}
use Rattle.std.specs.List.{remove}
use Rattle.lemmas.specs.Lists.{get_either}
use Rattle.layout.specs.Layouts.{LaidOut}
use Rattle.heap_words.specs.Tokens.{Shared}
use Rattle.heap_table.specs.Holders.{Holder}
use Rattle.heap_table.specs.Opening.{IsNew, AreNew}
use Rattle.program_runner.specs.Threads.{ProgramThread}
use Rattle.serving.specs.declared.beside.Job.{Job}
use Rattle.trace_text.specs.declared.trace.Setup.{Setup}
use Rattle.mutators.specs.Jobs.{IsJobOf, AreJobs}

-- the first of them is the token of the next thread
pub first_token : (heap : Shared) (t : ℕ) (tokens : List Holder) (me : Holder) → 0 < length tokens → me ≡ slice_index_or tokens 0 me → AreNew heap t tokens → IsNew heap t me
first_token heap t [] me some is new = absurd (omega arith)
first_token heap t (token ∷ tokens) me some is new = subst (IsNew heap t) (sym is) new.0

-- and the others are those of the threads after it
pub other_tokens : (heap : Shared) (t : ℕ) (tokens rest : List Holder) → 0 < length tokens → rest ≡ remove tokens 0 → AreNew heap t tokens → AreNew heap (suc t) rest × (suc (length rest) ≡ length tokens)
other_tokens heap t [] rest some is new = absurd (omega arith)
other_tokens heap t (token ∷ tokens) rest some is new = (subst (AreNew heap (suc t)) (sym is) new.1, ap suc (ap length is))

-- the threads with one more
pub one_job_more : (p : LaidOut) (setup : Setup) (heap : Shared) (jobs : List (Job ProgramThread)) (job : Job ProgramThread) (t : ℕ) → length jobs ≡ t → AreJobs p setup heap jobs → IsJobOf p setup heap t job
    → AreJobs p setup heap (jobs ++ job ∷ [])
one_job_more p setup heap jobs job t count are is u other at = elim (get_either jobs job u other at) [
  | inl there ↦ are u other there
  | inr last ↦ subst (IsJobOf p setup heap u) (sym last.1) (subst (λ n. IsJobOf p setup heap n job) (sym (last.0 ∙ count)) is)
]

-- no thread
pub no_jobs : (p : LaidOut) (setup : Setup) (heap : Shared) (jobs : List (Job ProgramThread)) → jobs ≡ [] → AreJobs p setup heap jobs
no_jobs p setup heap jobs none t job at = let gone : slice_get [] t ≡ Some job = subst (λ (all : List (Job ProgramThread)). slice_get all t ≡ Some job) none at in absurd cc
