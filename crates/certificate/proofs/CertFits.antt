-- The sections that a text is, and what it says of the code outside, are those of the module.
use Rattle.std.proofs.Common.{◌≡◌, Bool, true, false, [], ◌∷◌, codes, List, ℕ, length, Option, ap, sym, subst, ◌∙◌}
use Rattle.std.specs.List.{list_all, zip}
use Rattle.ir_ast.specs.declared.module.Module.{Module}
use Rattle.ir_ast.specs.declared.outside.Outside.{Outside}
use Rattle.ir_tokens.specs.Bytes.{Text as Bytes}
use Rattle.certs.specs.Fits.{fits}
use Rattle.certs.specs.ForeignFit.{foreign_fits}
use Rattle.certs.specs.declared.certs.Certs.{Certs}
use Rattle.certificate.specs.declared.mistake.Mistake.{Mistake}
use Rattle.certificate.specs.declared.progress.Kept.{Kept}
use Rattle.name_text.specs.Forms.{expect, line_end}
use Rattle.name_text.specs.Reader.{begins}
use Rattle.certificate.specs.Input.{Input, start_of, unshaped}
use Rattle.certificate.specs.ShapeForms.{taken_shapes}
use Rattle.certificate.specs.Text as text
use Rattle.certificate.specs.Text.{IsCert}
use Rattle.certificate.proofs.ReadOutside.{outside_are}
use Rattle.certificate.proofs.ReadFits.{Fine, kept_fits, sections_are, none_kept, finished_is}
use Rattle.certificate.proofs.ReadShapes.{lines_keep, still_missing}
use Rattle.certificate.proofs.ReadWords.{still, Still, still_taken, still_expect, still_line_end}

pub still_version : (m : Module) → Still (text.version m)
unfolding text.version
still_version m i a o h = ap still h.2.1 ∙ ap still h.3.2.1 ∙ still_taken (begins (50 ∷ []) h.3.1) h.3.1 a o h.3.3

-- so it is of these sections
abbrev FineAt : Module → List (Option Kept) → Type 0
FineAt m sections = (length sections ≡ length m.functions) × (list_all (kept_fits m) (zip m.functions sections) ≡ true)

-- sections that are read fit
sections_fine : (m : Module) (i : Input) (u : Unit {0}) (o : Input) → (text.sections m).says i u o → Fine m i → Fine m o
unfolding text.sections
sections_fine m i u o h start = subst (Fine m) h.3.1 (sections_are m i h.0 h.1 h.2 start)

-- so they do after what is said of the code outside, which is this
head_fits : (m : Module) (foreign : Outside) (shaped : Bool) (i : Input) (certs : Certs) (o : Input) → (text.certs_by m foreign shaped).says i certs o → Fine m i → fits m certs.sections ≡ true
unfolding text.without_shapes text.with_shapes taken_shapes unshaped
head_fits m foreign false i certs o h start =
    let b = h.3 in
    subst (λ (x : Certs). fits m x.sections ≡ true) b.3.0 (finished_is m h.1 b.0 b.1 b.2 (sections_fine m i h.0 h.1 h.2 start))
head_fits m foreign true i certs o h start =
    let b = h.3 in
    let c = b.3 in
    let d = c.3 in
    let e = d.3 in
    let lines : Fine m h.1 = subst (FineAt m) (lines_keep m i h.0 h.1 h.2) start in
    let taken : Fine m b.1 = subst (FineAt m) (ap (λ (x : Input). x.read.sections) b.2.1) lines in
    let read : Fine m c.1 = sections_fine m b.1 c.0 c.1 c.2 taken in
    let whole : Fine m d.1 = subst (λ (x : Input). Fine m x) (still_missing m b.0 c.1 d.0 d.1 d.2) read in
    subst (λ (x : Certs). fits m x.sections ≡ true) e.3.0 (finished_is m d.1 e.0 e.1 e.2 whole)

-- what is said of the code outside is what was read
foreign_read : (m : Module) (foreign : Outside) (shaped : Bool) (i : Input) (certs : Certs) (o : Input) → (text.certs_by m foreign shaped).says i certs o → foreign ≡ certs.foreign
unfolding text.without_shapes text.with_shapes
foreign_read m foreign false i certs o h = ap (λ (x : Certs). x.foreign) h.3.3.0
foreign_read m foreign true i certs o h = ap (λ (x : Certs). x.foreign) h.3.3.3.3.3.0

-- what is read before that is what is there before the text
pub still_head : (m : Module) (i : Input) (a : Unit {0}) (j : Input) → (expect {M = Mistake} (codes "cert")).says i a j → (shaped : Bool) (k : Input) → (text.version m).says j shaped k → (b : Unit {0}) (o : Input) → (line_end {M = Mistake}).says k b o → still i ≡ still o
still_head m i a j one shaped k two b o three = still_expect (codes "cert") i a j one ∙ still_version m j shaped k two ∙ still_line_end k b o three

-- the sections that a text is fit the module
pub cert_fits : (bytes : Bytes) (m : Module) (certs : Certs) → IsCert bytes m certs → fits m certs.sections ≡ true
unfolding text.file
cert_fits bytes m certs h =
    let a = h.3 in
    let b = a.3 in
    let c = b.3 in
    let d = c.3 in
    let same = still_head m (start_of m h.0 bytes) a.0 a.1 a.2 b.0 b.1 b.2 c.0 c.1 c.2 in
    let start : Fine m c.1 = subst (λ (x : Input). Fine m x) same (none_kept m m.functions) in
    let names = outside_are m c.1 d.0 d.1 d.2 (sym (ap (λ (x : Input). x.read.numbers) same)) (sym (ap (λ (x : Input). x.read.foreign) same)) in
    let after : Fine m d.1 = subst (FineAt m) names.1 start in
    head_fits m d.0 b.0 d.1 certs h.2 d.3 after

-- and so does what is said of the code outside
pub cert_foreign : (bytes : Bytes) (m : Module) (certs : Certs) → IsCert bytes m certs → foreign_fits m certs.foreign ≡ true
unfolding text.file
cert_foreign bytes m certs h =
    let a = h.3 in
    let b = a.3 in
    let c = b.3 in
    let d = c.3 in
    let same = still_head m (start_of m h.0 bytes) a.0 a.1 a.2 b.0 b.1 b.2 c.0 c.1 c.2 in
    let names = outside_are m c.1 d.0 d.1 d.2 (sym (ap (λ (x : Input). x.read.numbers) same)) (sym (ap (λ (x : Input). x.read.foreign) same)) in
    subst (λ x. foreign_fits m x ≡ true) (foreign_read m d.0 b.0 d.1 certs h.2 d.3) names.0
