-- What a line of shapes gives, and what it leaves as it was.
use Rattle.std.proofs.Common.{◌≡◌, ◌⊎◌, inl, inr, ℕ, Bool, true, false, [], ◌∷◌, codes, List, Option, Some, None, slice_get, refl, ap, sym, subst, ◌∙◌}
use Rattle.std.specs.List.{list_any}
use Rattle.grammar.specs.Many.{Listed}
use Rattle.ir_ast.specs.declared.function.Function.{Function}
use Rattle.ir_ast.specs.declared.module.Module.{Module}
use Rattle.name_text.specs.Numbers.{number_of_word}
use Rattle.name_text.specs.Reader.{word, begins, left}
use Rattle.certs.specs.Fits.{stands_for}
use Rattle.certs.specs.declared.family.Family.TheVariants.{Opaque}
use Rattle.certificate.specs.Input.{Progress, Input, shaping}
use Rattle.certificate.specs.Names.{global_of_word, function_of_word, value_of_word}
use Rattle.certificate.specs.ShapeDrafts.{is_pointer, name_of, has_word_shape, is_opaque_global, has_global_shape, is_root_slot, has_root_shape, with_word_shape, with_global_shape, with_root_shape, shapes_gap}
use Rattle.certificate.specs.ShapeForms.{referred, new_word, word_numbered, word_by, word_free, word_line, new_global, global_named, global_by, free_by, global_line, new_root, slot_named, slot_by, root_of, root_in, root_line, a_function, mentioned, shape_line, line_by, other_by, past_shapes, shape_lines, none_missing, whole_by}
use Rattle.certificate.specs.declared.mistake.Mistake.{Mistake}
use Rattle.certificate.specs.declared.naming.Naming.{Naming}
use Rattle.certificate.specs.declared.naming.Naming.TheVariants as naming
use Rattle.certificate.specs.declared.shape_draft.ShapeDraft.{ShapeDraft}
use Rattle.certificate.proofs.ReadWords.{still, Still, still_taken, taken_is, still_expect, still_line_end, layout_name_is}

-- ---- what a line gives

-- a layout of the module
abbrev pub IsTarget : Module → (target : ℕ) → Type 0
IsTarget m target = list_any (stands_for target) m.struct_of ≡ true

-- the shape of a word of type `ptr`
abbrev pub GivesWord : Module → Progress → Progress → Type 0
GivesWord m p q = (layout : ℕ) × (word : ℕ) × (target : ℕ) × (is_pointer p.shapes layout word ≡ true) × IsTarget m target × (shaping (with_word_shape m layout word target) p ≡ q)

-- the shape of a global of type `ptr`
abbrev pub GivesGlobal : Module → Progress → Progress → Type 0
GivesGlobal m p q = (symbol : ℕ) × (target : ℕ) × (is_opaque_global m symbol ≡ true) × IsTarget m target × (shaping (with_global_shape symbol target) p ≡ q)

-- the shape of a slot
abbrev pub GivesRoot : Module → Progress → Progress → Type 0
GivesRoot m p q = (f : Function) × (slot : ℕ) × (target : ℕ) × IsTarget m target × (shaping (with_root_shape f slot target) p ≡ q)

-- one of them
abbrev pub Gives : Module → Progress → Progress → Type 0
Gives m p q = GivesWord m p q ⊎ GivesGlobal m p q ⊎ GivesRoot m p q

-- ---- what is read

same_read : (i o : Input) → still i ≡ still o → i.read ≡ o.read
same_read i o e = ap (λ (x : Input). x.read) e

referred_is : (m : Module) (i : Input) (target : ℕ) (o : Input) → (referred m).says i target o → IsTarget m target × (still i ≡ still o)
unfolding referred
referred_is m i target o h =
    let b = h.3 in
    let c = b.3 in
    let named = layout_name_is m Opaque h.1 b.0 b.1 b.2 in
    (subst (IsTarget m) c.3.0 named.0, still_expect (codes "ref") i h.0 h.1 h.2 ∙ named.1 ∙ still_line_end b.1 c.0 c.1 c.2 ∙ ap still c.3.1)

new_word_is : (m : Module) (at layout : ℕ) (i : Input) (w : ℕ) (o : Input) → (new_word m at layout).says i w o → (is_pointer i.read.shapes layout w ≡ true) × (still i ≡ still o)
unfolding new_word
new_word_is m at layout i w o h = by (number_of_word (word i)) h
  where
    by_free : (k : ℕ) (given : Bool) → is_pointer i.read.shapes layout k ≡ true → (word_free at k given).says i w o → (is_pointer i.read.shapes layout w ≡ true) × (still i ≡ still o)
    by_free k true is h = absurd h
    by_free k false is h = (subst (λ x. is_pointer i.read.shapes layout x ≡ true) (taken_is k i w o h) is, still_taken k i w o h)

    by_pointer : (k : ℕ) (pointer : Bool) → is_pointer i.read.shapes layout k ≡ pointer → (word_by m at layout k pointer).says i w o → (is_pointer i.read.shapes layout w ≡ true) × (still i ≡ still o)
    by_pointer k false is h = absurd h
    by_pointer k true is h = by_free k (has_word_shape i.read.shapes (name_of m layout) k) is h

    by : (n : Option ℕ) → (word_numbered m at layout n).says i w o → (is_pointer i.read.shapes layout w ≡ true) × (still i ≡ still o)
    by None h = absurd h
    by (Some k) h = by_pointer k (is_pointer i.read.shapes layout k) refl h

new_global_is : (m : Module) (i : Input) (symbol : ℕ) (o : Input) → (new_global m).says i symbol o → (is_opaque_global m symbol ≡ true) × (still i ≡ still o)
unfolding new_global
new_global_is m i symbol o h = by (global_of_word m (word i)) h
  where
    by_free : (k : ℕ) (given : Bool) → is_opaque_global m k ≡ true → (free_by k given).says i symbol o → (is_opaque_global m symbol ≡ true) × (still i ≡ still o)
    by_free k true is h = absurd h
    by_free k false is h = (subst (λ x. is_opaque_global m x ≡ true) (taken_is k i symbol o h) is, still_taken k i symbol o h)

    by_opaque : (k : ℕ) (opaque : Bool) → is_opaque_global m k ≡ opaque → (global_by k opaque).says i symbol o → (is_opaque_global m symbol ≡ true) × (still i ≡ still o)
    by_opaque k false is h = absurd h
    by_opaque k true is h = by_free k (has_global_shape i.read.shapes k) is h

    by : (n : Naming) → (global_named m n).says i symbol o → (is_opaque_global m symbol ≡ true) × (still i ≡ still o)
    by naming.NoName h = absurd h
    by naming.Unknown h = absurd h
    by (naming.Named k) h = by_opaque k (is_opaque_global m k) refl h

still_new_root : (function : ℕ) (f : Function) → Still (new_root function f)
unfolding new_root
still_new_root function f i slot o h = by (value_of_word f (word i)) h
  where
    by_free : (k : ℕ) (given : Bool) → (free_by k given).says i slot o → still i ≡ still o
    by_free k true h = absurd h
    by_free k false h = still_taken k i slot o h

    by_root : (k : ℕ) (root : Bool) → (slot_by f k root).says i slot o → still i ≡ still o
    by_root k false h = absurd h
    by_root k true h = by_free k (has_root_shape i.read.shapes f k) h

    by : (n : Naming) → (slot_named function f n).says i slot o → still i ≡ still o
    by naming.NoName h = absurd h
    by naming.Unknown h = absurd h
    by (naming.Named k) h = by_root k (is_root_slot i.read.shapes function k) h

still_function : (m : Module) → Still (a_function m)
unfolding a_function
still_function m i k o h = by (function_of_word m (word i)) h
  where
    by : (n : Naming) → (mentioned n).says i k o → still i ≡ still o
    by naming.NoName h = absurd h
    by naming.Unknown h = absurd h
    by (naming.Named x) h = still_taken x i k o h

word_gives : (m : Module) (i : Input) (u : Unit {0}) (o : Input) → (word_line m).says i u o → GivesWord m i.read o.read
unfolding word_line
word_gives m i u o h =
    let a = h.3 in
    let b = a.3 in
    let c = b.3 in
    let before = still_expect (codes "layout") i h.0 h.1 h.2 ∙ (layout_name_is m Opaque h.1 a.0 a.1 a.2).1 in
    let new = new_word_is m (left h.1) a.0 a.1 b.0 b.1 b.2 in
    let to = referred_is m b.1 c.0 c.1 c.2 in
    let whole : i.read ≡ c.1.read = same_read i c.1 (before ∙ new.1 ∙ to.1) in
    let here : a.1.read ≡ i.read = sym (same_read i a.1 before) in (
      a.0,
      b.0,
      c.0,
      subst (λ (p : Progress). is_pointer p.shapes a.0 b.0 ≡ true) here new.0,
      to.0,
      ap (shaping (with_word_shape m a.0 b.0 c.0)) whole ∙ ap (λ (x : Input). x.read) c.3.1,
    )

global_gives : (m : Module) (i : Input) (u : Unit {0}) (o : Input) → (global_line m).says i u o → GivesGlobal m i.read o.read
unfolding global_line
global_gives m i u o h =
    let a = h.3 in
    let b = a.3 in
    let new = new_global_is m h.1 a.0 a.1 a.2 in
    let to = referred_is m a.1 b.0 b.1 b.2 in
    let whole : i.read ≡ b.1.read = same_read i b.1 (still_expect (codes "global") i h.0 h.1 h.2 ∙ new.1 ∙ to.1) in
    (a.0, b.0, new.0, to.0, ap (shaping (with_global_shape a.0 b.0)) whole ∙ ap (λ (x : Input). x.read) b.3.1)

root_of_gives : (m : Module) (function : ℕ) (f : Function) (i : Input) (u : Unit {0}) (o : Input) → (root_of m function f).says i u o → GivesRoot m i.read o.read
root_of_gives m function f i u o h =
    let b = h.3 in
    let to = referred_is m h.1 b.0 b.1 b.2 in
    let whole : i.read ≡ b.1.read = same_read i b.1 (still_new_root function f i h.0 h.1 h.2 ∙ to.1) in
    (f, h.0, b.0, to.0, ap (shaping (with_root_shape f h.0 b.0)) whole ∙ ap (λ (x : Input). x.read) b.3.1)

root_gives : (m : Module) (i : Input) (u : Unit {0}) (o : Input) → (root_line m).says i u o → GivesRoot m i.read o.read
unfolding root_line
root_gives m i u o h =
    let a = h.3 in
    let same = same_read i a.1 (still_expect (codes "root") i h.0 h.1 h.2 ∙ still_function m h.1 a.0 a.1 a.2) in
    subst (λ (p : Progress). GivesRoot m p o.read) (sym same) (by a.0 (slice_get m.functions a.0) a.1 a.3)
  where
    by : (function : ℕ) (f : Option Function) (x : Input) → (root_in m function f).says x u o → GivesRoot m x.read o.read
    by function None x h = absurd h
    by function (Some f) x h = root_of_gives m function f x u o h

line_gives : (m : Module) (i : Input) (u : Unit {0}) (o : Input) → (shape_line m).says i u o → Gives m i.read o.read
unfolding shape_line
line_gives m i u o h = by (begins (codes "layout") i) h
  where
    by_other : (global : Bool) → (other_by m global).says i u o → Gives m i.read o.read
    by_other true h = inr (inl (global_gives m i u o h))
    by_other false h = inr (inr (root_gives m i u o h))

    by : (layout : Bool) → (line_by m layout).says i u o → Gives m i.read o.read
    by true h = inl (word_gives m i u o h)
    by false h = by_other (begins (codes "global") i) h

-- what holds before the lines, and stays where one gives something, holds after them
listed_hold : (m : Module) (P : Progress → Type 0) → ((p q : Progress) → Gives m p q → P p → P q) → (i : Input) (xs : List (Unit {0})) (o : Input) → Listed past_shapes (shape_line m).says i xs o → P i.read → P o.read
listed_hold m P stays i [] o h start = subst (λ (x : Input). P x.read) h.1 start
listed_hold m P stays i (u ∷ xs) o h start = listed_hold m P stays h.1 xs o h.3 (stays i.read h.1.read (line_gives m i u h.1 h.2) start)

pub lines_hold : (m : Module) (P : Progress → Type 0) → ((p q : Progress) → Gives m p q → P p → P q) → (i : Input) (u : Unit {0}) (o : Input) → (shape_lines m).says i u o → P i.read → P o.read
unfolding shape_lines
lines_hold m P stays i u o h start = subst (λ (x : Input). P x.read) h.3.1 (listed_hold m P stays i h.0 h.1 h.2 start)

-- ---- what stays

keeps : (m : Module) (p q : Progress) → Gives m p q → p.sections ≡ q.sections
unfolding shaping
keeps m p q (inl g) = ap (λ (x : Progress). x.sections) g.5
keeps m p q (inr (inl g)) = ap (λ (x : Progress). x.sections) g.4
keeps m p q (inr (inr g)) = ap (λ (x : Progress). x.sections) g.4

-- the sections
pub lines_keep : (m : Module) (i : Input) (u : Unit {0}) (o : Input) → (shape_lines m).says i u o → i.read.sections ≡ o.read.sections
lines_keep m i u o h = lines_hold m (λ (p : Progress). i.read.sections ≡ p.sections) (λ p q g same. same ∙ keeps m p q g) i u o h refl

pub none_is_missing : (m : Module) (draft : ShapeDraft) (i : Input) (u : Unit {0}) (o : Input) → (none_missing m draft).says i u o → (shapes_gap m draft ≡ None) × (i ≡ o)
unfolding none_missing
none_is_missing m draft i u o h = by (shapes_gap m draft) h
  where
    by : (gap : Option Mistake) → (whole_by gap).says i u o → (gap ≡ None) × (i ≡ o)
    by None h = (refl, h.1)
    by (Some gap) h = absurd h

pub still_missing : (m : Module) (draft : ShapeDraft) → Still (none_missing m draft)
still_missing m draft i u o h = ap still (none_is_missing m draft i u o h).1
