-- Two states of reading side by side: one in a whole text, and one in the text of one function, which is a part of it.
use Rattle.std.proofs.Common.{◌≡◌, ℕ, ◌+◌, ◌≤◌, Bool, true, false, if◌then◌else◌, List, [], ◌∷◌, ◌++◌, ◌⊎◌, inl, inr, length, map, None, Some, refl, sym, ap, subst, ◌∙◌, arith}
use Rattle.std.specs.Prelude.{take, drop, nat_lt}
use Rattle.std.proofs.lemmas.Bool.Decides.{nat_tests}
use Rattle.ir_forms.specs.FloatNumbers.{run_of, is_float_number}
use Rattle.lemmas.specs.Lists.{IsIn}
use Rattle.ir_ast.specs.Names.{place_of}
use Rattle.ir_ast.specs.declared.function.LocalSort.{LocalSort}
use Rattle.ir_ast.specs.declared.function.LocalSort.TheVariants as local
use Rattle.ir_ast.specs.declared.items_of_module.SymbolSort.{SymbolSort}
use Rattle.ir_tokens.specs.Bytes.{Text}
use Rattle.ir_tokens.specs.Names as tokens
use Rattle.ir_tokens.specs.declared.token.Kind.{Kind}
use Rattle.ir_tokens.specs.declared.token.Kind.TheVariants as k
use Rattle.ir_tokens.specs.declared.token.Token.{Token}
use Rattle.ir_forms.specs.Cursor.{kind, kind_after, kind_third, name_third, kind_first, here, is_plus, is_stop, size_first, start_first, run, sees_float, begun_at, past_run, begins_line, begins_first, start, size, spelling, next, rest_of, spelled, local_key, name, sees, same_kind}
use Rattle.ir_forms.specs.Place.{Place}
use Rattle.ir_forms.specs.declared.input.Input.{Input}
use Rattle.ir_forms.specs.declared.table.Table.{Table}
use Rattle.ir_forms.specs.declared.uses.LocalUse.{LocalUse}
use Rattle.ir_forms.specs.declared.uses.StructUse.{StructUse}
use Rattle.ir_forms.specs.declared.uses.SymbolUse.{SymbolUse}
use Rattle.ir_print_law.proofs.Tables.{Begins, begins_itself, begins_further}
use Rattle.ir_print_law.specs.Places.{moved, IsWithin}
use Rattle.ir_print_law.specs.Standing.{MeanAlike}
use Rattle.ir_print_law.proofs.Standing.{seen_here}

-- ---- where the function stands

-- The text of a function in a whole text, from this place on, and the tokens after it.
pub record Seat : Type 0 where
  pub whole : Text
  pub code : Text
  pub far : ℕ
  pub tail : List Token
  pub spells : (t : Token) → IsWithin code t → tokens.spelling whole (moved far t) ≡ tokens.spelling code t
  -- where the brace stands that closes the function
  pub last : ℕ
  -- a number that begins up to there ends before it
  pub runs : (t : Token) → t.start ≤ last → run_of (drop (moved far t).start whole) ≡ run_of (drop t.start code)

-- a token is within the text of the function, and begins no later than the brace that closes it
abbrev pub IsInside : Text → (last : ℕ) → Token → Type 0
IsInside code last t = IsWithin code t × (t.start ≤ last)

-- these tokens are inside the function, and the last of them is a brace that closes
abbrev pub End : Text → (last : ℕ) → List Token → Type 0
End code last [] = ⊥
End code last (t ∷ []) = IsInside code last t × (t.kind ≡ k.CloseBrace)
End code last (t ∷ u ∷ ts) = IsInside code last t × End code last (u ∷ ts)

module _ (s : Seat) where
  -- the same tokens are left of the function
  pub record Along (c d : Place) : Type 0 where
    pub whole_is : c.text ≡ s.whole
    pub code_is : d.text ≡ s.code
    pub good : d.bad ≡ None
    pub wide_is : c.wide ≡ d.wide
    pub rest_is : c.rest ≡ map (moved s.far) d.rest ++ s.tail
    pub ends : End s.code s.last d.rest

-- ---- names

-- the sort of a local name, without its type
abbrev pub bare : LocalSort → LocalSort
bare local.Unknown = local.Unknown
bare (local.Value t) = local.Value 0
bare (local.Slot held) = local.Slot 0
bare (local.Element block place) = local.Element block place
bare (local.Block b) = local.Block b

-- a use of a local name, wherever it is
abbrev pub placeless : LocalUse → LocalUse
placeless u = record u { start = 0 }

-- What both readings know of the local names of the function.
pub record Own (a b : Table LocalSort) (uses more : List LocalUse) (values count unnamed number : ℕ) : Type 0 where
  pub names : a.names ≡ b.names
  pub sorts : map bare a.sorts ≡ map bare b.sorts
  pub uses_are : map placeless uses ≡ map placeless more
  pub values_are : values ≡ count
  pub unnamed_is : unnamed ≡ number

-- What both know of global names: each use in the second is one in the first.
pub record Symbols (a b : Table SymbolSort) (uses more : List SymbolUse) : Type 0 where
  pub alike : MeanAlike a b
  pub counted : length a.sorts ≡ length a.names
  pub counted_too : length b.sorts ≡ length b.names
  pub used : (u : SymbolUse) → IsIn u more
      → (name : Text) × (v : SymbolUse) × IsIn v uses × (v.is_call ≡ u.is_call) × (place_of name a.names ≡ Some v.symbol) × (place_of name b.names ≡ Some u.symbol)

-- What both know of the names of structs: each use in the second is one in the first.
pub record Structs (names others : List Text) (uses more : List StructUse) : Type 0 where
  pub used : (u : StructUse) → IsIn u more → (name : Text) × (v : StructUse) × IsIn v uses × (place_of name names ≡ Some v.name) × (place_of name others ≡ Some u.name)

-- both states side by side
pub record Beside (s : Seat) (i j : Input) : Type 0 where
  pub along : Along s i.cursor j.cursor
  pub own : Own i.locals j.locals i.local_uses j.local_uses i.values j.values i.unnamed j.unnamed
  pub symbols : Symbols i.symbols j.symbols i.symbol_uses j.symbol_uses
  pub structs : Structs i.struct_names.names j.struct_names.names i.struct_uses j.struct_uses
  pub missing : j.missing ≡ None
  pub functions : j.functions ≡ []
  pub forms : i.wide ≡ j.wide

-- ---- what was read stays

abbrev pub Grown : Input → Input → Type 0
Grown i o = Begins i.types o.types × Begins i.struct_names.names o.struct_names.names × Begins i.symbols.names o.symbols.names × Begins i.struct_names.sorts o.struct_names.sorts

pub grown_itself : (i : Input) → Grown i i
grown_itself i = (begins_itself i.types, begins_itself i.struct_names.names, begins_itself i.symbols.names, begins_itself i.struct_names.sorts)

pub grown_further : (i m o : Input) → Grown i m → Grown m o → Grown i o
grown_further i m o a b = (
  begins_further i.types m.types o.types a.0 b.0,
  begins_further i.struct_names.names m.struct_names.names o.struct_names.names a.1 b.1,
  begins_further i.symbols.names m.symbols.names o.symbols.names a.2 b.2,
  begins_further i.struct_names.sorts m.struct_names.sorts o.struct_names.sorts a.3 b.3,
)

-- ---- what both cursors show

module _ (s : Seat) where
  -- after one token that is not the last one both go on
  along_on : (c d : Place) (t u : Token) (ts : List Token) → d.rest ≡ t ∷ u ∷ ts → Along s c d → Along s (next c) (next d)
  unfolding next
  along_on c d t u ts e a =
      let rest : c.rest ≡ moved s.far t ∷ map (moved s.far) (u ∷ ts) ++ s.tail = a.rest_is ∙ ap (λ (l : List Token). map (moved s.far) l ++ s.tail) e in
      let own : rest_of d.rest ≡ u ∷ ts = ap rest_of e in
      record {
        whole_is = a.whole_is;
        code_is = a.code_is;
        good = a.good;
        wide_is = a.wide_is;
        rest_is = ap rest_of rest ∙ ap (λ (l : List Token). map (moved s.far) l ++ s.tail) (sym own);
        ends = subst (End s.code s.last) (sym own) (subst (End s.code s.last) e a.ends).1;
      }

  -- after one token both go on, or the function's text is over
  next_by : (c d : Place) (ts : List Token) → d.rest ≡ ts → Along s c d → Along s (next c) (next d) ⊎ (length (next c).rest ≤ length s.tail)
  unfolding next
  next_by c d [] e a = absurd (subst (End s.code s.last) e a.ends)
  next_by c d (t ∷ []) e a =
      let rest : c.rest ≡ moved s.far t ∷ s.tail = a.rest_is ∙ ap (λ (l : List Token). map (moved s.far) l ++ s.tail) e in
      inr (let same = ap (λ (l : List Token). length (rest_of l)) rest in omega (arith, same))
  next_by c d (t ∷ u ∷ ts) e a = inl (along_on c d t u ts e a)

  pub next_either : (c d : Place) → Along s c d → Along s (next c) (next d) ⊎ (length (next c).rest ≤ length s.tail)
  next_either c d a = next_by c d d.rest refl a

  -- the first token is of one kind, where it is seen
  kind_here : (wide : Bool) (t : Token) (us ts : List Token) → kind_first (here wide (moved s.far t ∷ us)) ≡ kind_first (here wide (t ∷ ts))
  kind_here wide t us ts = by (is_stop wide t.kind) where
    by : (b : Bool) → kind_first (if b then [] else moved s.far t ∷ us) ≡ kind_first (if b then [] else t ∷ ts)
    by true = refl
    by false = refl

  -- the last token is seen
  closes : (wide : Bool) (t : Token) (ts : List Token) → t.kind ≡ k.CloseBrace → kind_first (here wide (t ∷ ts)) ≡ k.CloseBrace
  closes wide t ts e = ap kind_first (seen_here wide t ts (ap is_plus e)) ∙ e

  kind_by : (c d : Place) (ts : List Token) → d.rest ≡ ts → Along s c d → kind c ≡ kind d
  unfolding kind
  kind_by c d [] e a = absurd (subst (End s.code s.last) e a.ends)
  kind_by c d (t ∷ ts) e a =
      ap (λ (l : List Token). kind_first (here c.wide l)) (a.rest_is ∙ ap (λ (l : List Token). map (moved s.far) l ++ s.tail) e) ∙ kind_here c.wide t (map (moved s.far) ts ++ s.tail) ts
      ∙ ap (λ (w : Bool). kind_first (here w (t ∷ ts))) a.wide_is ∙ sym (ap (λ (l : List Token). kind_first (here d.wide l)) e)

  -- the next token is of one kind
  pub kind_same : (c d : Place) → Along s c d → kind c ≡ kind d
  kind_same c d a = kind_by c d d.rest refl a

  pub sees_same : (x : Kind) (c d : Place) → Along s c d → sees x c ≡ sees x d
  unfolding sees
  sees_same x c d a = ap (λ (y : Kind). same_kind y x) (kind_same c d a)

  line_here : (wide : Bool) (t : Token) (us ts : List Token) → begins_first (here wide (moved s.far t ∷ us)) ≡ begins_first (here wide (t ∷ ts))
  line_here wide t us ts = by (is_stop wide t.kind) where
    by : (b : Bool) → begins_first (if b then [] else moved s.far t ∷ us) ≡ begins_first (if b then [] else t ∷ ts)
    by true = refl
    by false = refl

  line_by : (c d : Place) (ts : List Token) → d.rest ≡ ts → Along s c d → begins_line c ≡ begins_line d
  unfolding begins_line
  line_by c d [] e a = absurd (subst (End s.code s.last) e a.ends)
  line_by c d (t ∷ ts) e a =
      ap (λ (l : List Token). begins_first (here c.wide l)) (a.rest_is ∙ ap (λ (l : List Token). map (moved s.far) l ++ s.tail) e) ∙ line_here c.wide t (map (moved s.far) ts ++ s.tail) ts
      ∙ ap (λ (w : Bool). begins_first (here w (t ∷ ts))) a.wide_is ∙ sym (ap (λ (l : List Token). begins_first (here d.wide l)) e)

  pub line_same : (c d : Place) → Along s c d → begins_line c ≡ begins_line d
  line_same c d a = line_by c d d.rest refl a

  -- and spelled alike
  pub within_first : (t : Token) (ts : List Token) → End s.code s.last (t ∷ ts) → IsInside s.code s.last t
  within_first t [] h = h.0
  within_first t (u ∷ ts) h = h.0

  -- the bytes of the first token, where it is seen
  spelled_here : (stops : Bool) (t : Token) (us ts : List Token) → IsWithin s.code t
      → take (size_first (if stops then [] else moved s.far t ∷ us)) (drop (start_first (if stops then [] else moved s.far t ∷ us) (length s.whole)) s.whole)
      ≡ take (size_first (if stops then [] else t ∷ ts)) (drop (start_first (if stops then [] else t ∷ ts) (length s.code)) s.code)
  spelled_here true t us ts within = refl
  spelled_here false t us ts within = s.spells t within

  spelling_by : (c d : Place) (ts : List Token) → d.rest ≡ ts → Along s c d → spelling c ≡ spelling d
  unfolding spelling size start
  spelling_by c d [] e a = absurd (subst (End s.code s.last) e a.ends)
  spelling_by c d (t ∷ ts) e a =
      let rest : c.rest ≡ moved s.far t ∷ (map (moved s.far) ts ++ s.tail) = a.rest_is ∙ ap (λ (l : List Token). map (moved s.far) l ++ s.tail) e in
      rw (rest, e, a.whole_is, a.code_is, a.wide_is) (spelled_here (is_stop d.wide t.kind) t (map (moved s.far) ts ++ s.tail) ts (within_first t ts (subst (End s.code s.last) e a.ends)).0)

  pub spelling_same : (c d : Place) → Along s c d → spelling c ≡ spelling d
  spelling_same c d a = spelling_by c d d.rest refl a

  spelled_by : (c d : Place) (ts : List Token) → d.rest ≡ ts → Along s c d → spelled c ≡ spelled d
  unfolding spelled
  spelled_by c d [] e a = absurd (subst (End s.code s.last) e a.ends)
  spelled_by c d (t ∷ ts) e a =
      let rest : c.rest ≡ moved s.far t ∷ (map (moved s.far) ts ++ s.tail) = a.rest_is ∙ ap (λ (l : List Token). map (moved s.far) l ++ s.tail) e in
      rw (rest, e, a.whole_is, a.code_is) (ap (λ (x : Text). tokens.unquoted (tokens.bare t.kind x)) (s.spells t (within_first t ts (subst (End s.code s.last) e a.ends)).0))

  pub spelled_same : (c d : Place) → Along s c d → spelled c ≡ spelled d
  spelled_same c d a = spelled_by c d d.rest refl a

  pub name_same : (c d : Place) → Along s c d → name c ≡ name d
  unfolding name
  name_same c d a = ap (drop 1) (spelling_same c d a)

  pub key_same : (c d : Place) → Along s c d → local_key c ≡ local_key d
  unfolding local_key
  key_same c d a = rw (kind_same c d a, spelled_same c d a) refl

  -- where the next token is no brace that closes, another one comes after it
  after_by : (c d : Place) (ts : List Token) → d.rest ≡ ts → Along s c d → (kind d ≡ k.CloseBrace → ⊥) → kind_after c ≡ kind_after d
  unfolding kind kind_after
  after_by c d [] e a other = absurd (subst (End s.code s.last) e a.ends)
  after_by c d (t ∷ []) e a other = absurd (other (ap (λ (l : List Token). kind_first (here d.wide l)) e ∙ closes d.wide t [] (subst (End s.code s.last) e a.ends).1))
  after_by c d (t ∷ u ∷ ts) e a other =
      ap (λ (l : List Token). kind_first (here c.wide (rest_of l))) (a.rest_is ∙ ap (λ (l : List Token). map (moved s.far) l ++ s.tail) e) ∙ kind_here c.wide u (map (moved s.far) ts ++ s.tail) ts
      ∙ ap (λ (w : Bool). kind_first (here w (u ∷ ts))) a.wide_is ∙ sym (ap (λ (l : List Token). kind_first (here d.wide (rest_of l))) e)

  pub after_same : (c d : Place) → Along s c d → (kind d ≡ k.CloseBrace → ⊥) → kind_after c ≡ kind_after d
  after_same c d a other = after_by c d d.rest refl a other

  third_by : (c d : Place) (ts : List Token) → d.rest ≡ ts → Along s c d → (kind d ≡ k.CloseBrace → ⊥) → (kind_after d ≡ k.CloseBrace → ⊥) → kind_third c ≡ kind_third d
  unfolding kind kind_after kind_third
  third_by c d [] e a other further = absurd (subst (End s.code s.last) e a.ends)
  third_by c d (t ∷ []) e a other further = absurd (other (ap (λ (l : List Token). kind_first (here d.wide l)) e ∙ closes d.wide t [] (subst (End s.code s.last) e a.ends).1))
  third_by c d (t ∷ u ∷ []) e a other further =
      absurd (further (ap (λ (l : List Token). kind_first (here d.wide (rest_of l))) e ∙ closes d.wide u [] (subst (End s.code s.last) e a.ends).1.1))
  third_by c d (t ∷ u ∷ v ∷ ts) e a other further =
      let third = λ (w : Bool) (l : List Token). kind_first (here w (rest_of (rest_of l))) in
      ap (third c.wide) (a.rest_is ∙ ap (λ (l : List Token). map (moved s.far) l ++ s.tail) e) ∙ kind_here c.wide v (map (moved s.far) ts ++ s.tail) ts
      ∙ ap (λ (w : Bool). kind_first (here w (v ∷ ts))) a.wide_is ∙ sym (ap (third d.wide) e)

  pub third_same : (c d : Place) → Along s c d → (kind d ≡ k.CloseBrace → ⊥) → (kind_after d ≡ k.CloseBrace → ⊥) → kind_third c ≡ kind_third d
  third_same c d a other further = third_by c d d.rest refl a other further

  -- where the next token is no brace that closes, both go on after it
  along_by : (c d : Place) (ts : List Token) → d.rest ≡ ts → Along s c d → (kind d ≡ k.CloseBrace → ⊥) → Along s (next c) (next d)
  unfolding kind
  along_by c d [] e a other = absurd (subst (End s.code s.last) e a.ends)
  along_by c d (t ∷ []) e a other = absurd (other (ap (λ (l : List Token). kind_first (here d.wide l)) e ∙ closes d.wide t [] (subst (End s.code s.last) e a.ends).1))
  along_by c d (t ∷ u ∷ ts) e a other = along_on c d t u ts e a

  pub next_along : (c d : Place) → Along s c d → (kind d ≡ k.CloseBrace → ⊥) → Along s (next c) (next d)
  next_along c d a other = along_by c d d.rest refl a other

  -- where neither of the next two is one, the third is spelled alike
  pub third_name_same : (c d : Place) → Along s c d → (kind d ≡ k.CloseBrace → ⊥) → (kind_after d ≡ k.CloseBrace → ⊥) → name_third c ≡ name_third d
  unfolding name_third kind kind_after next
  third_name_same c d a other further = name_same (next (next c)) (next (next d)) (next_along (next c) (next d) (next_along c d a other) further)

-- ---- numbers of more than one token

-- nothing is left after all bytes
drop_all : (xs : Text) → drop (length xs) xs ≡ []
drop_all [] = refl
drop_all (x ∷ xs) = drop_all xs

-- fewer tokens are left, or as many
begun_fewer : (place : ℕ) (ts : List Token) → length (begun_at place ts) ≤ length ts
begun_fewer place [] = omega arith
begun_fewer place (t ∷ ts) = by (nat_lt t.start place) (begun_fewer place ts) where
  by : (b : Bool) → length (begun_at place ts) ≤ length ts → length (if b then begun_at place ts else t ∷ ts) ≤ length (t ∷ ts)
  by true le = omega (arith, le)
  by false le = omega arith

module _ (s : Seat) where
  run_here : (stops : Bool) (t : Token) (us ts : List Token) → t.start ≤ s.last
      → run_of (drop (start_first (if stops then [] else moved s.far t ∷ us) (length s.whole)) s.whole) ≡ run_of (drop (start_first (if stops then [] else t ∷ ts) (length s.code)) s.code)
  run_here true t us ts inside = ap run_of (drop_all s.whole) ∙ sym (ap run_of (drop_all s.code))
  run_here false t us ts inside = s.runs t inside

  run_by : (c d : Place) (ts : List Token) → d.rest ≡ ts → Along s c d → run c ≡ run d
  unfolding run start
  run_by c d [] e a = absurd (subst (End s.code s.last) e a.ends)
  run_by c d (t ∷ ts) e a =
      let rest : c.rest ≡ moved s.far t ∷ (map (moved s.far) ts ++ s.tail) = a.rest_is ∙ ap (λ (l : List Token). map (moved s.far) l ++ s.tail) e in
      rw (rest, e, a.whole_is, a.code_is, a.wide_is) (run_here (is_stop d.wide t.kind) t (map (moved s.far) ts ++ s.tail) ts (within_first s t ts (subst (End s.code s.last) e a.ends)).1)

  -- the same bytes belong to a number in both
  pub run_same : (c d : Place) → Along s c d → run c ≡ run d
  run_same c d a = run_by c d d.rest refl a

  pub float_seen_same : (c d : Place) → Along s c d → sees_float c ≡ sees_float d
  unfolding sees_float
  float_seen_same c d a = ap is_float_number (run_same c d a)

  -- the same tokens left
  abbrev with_rest : Place → List Token → Place
  with_rest c ts = record c { rest = ts }

  -- both with the tokens that begin at a place or later, or the function's text is over
  abbrev PastTo : (place other : ℕ) (c d : Place) → Type 0
  PastTo place other c d = Along s (with_rest c (begun_at place c.rest)) (with_rest d (begun_at other d.rest)) ⊎ (length (begun_at place c.rest) ≤ length s.tail)

  -- where the first token begins at the place or later, none is passed over
  none_past : (place other : ℕ) (c d : Place) (t : Token) (us : List Token) → nat_lt (moved s.far t).start place ≡ false → nat_lt t.start other ≡ false → d.rest ≡ t ∷ us → Along s c d → PastTo place other c d
  none_past place other c d t us g f e a =
      let rest = a.rest_is ∙ ap (λ (l : List Token). map (moved s.far) l ++ s.tail) e in
      let mine : begun_at place c.rest ≡ c.rest = ap (begun_at place) rest ∙ ap (λ (b : Bool). if b then begun_at place (map (moved s.far) us ++ s.tail) else moved s.far t ∷ (map (moved s.far) us ++ s.tail)) g ∙ sym rest in
      let own : begun_at other d.rest ≡ d.rest = ap (begun_at other) e ∙ ap (λ (b : Bool). if b then begun_at other us else t ∷ us) f ∙ sym e in
      inl (subst (λ (l : List Token). Along s (with_rest c l) (with_rest d (begun_at other d.rest))) (sym mine) (subst (λ (l : List Token). Along s c (with_rest d l)) (sym own) a))

  -- where the last token is passed over, the text is over
  last_past : (place : ℕ) (c d : Place) (t : Token) → nat_lt (moved s.far t).start place ≡ true → d.rest ≡ t ∷ [] → Along s c d → length (begun_at place c.rest) ≤ length s.tail
  last_past place c d t g e a =
      let rest = a.rest_is ∙ ap (λ (l : List Token). map (moved s.far) l ++ s.tail) e in
      let mine : begun_at place c.rest ≡ begun_at place s.tail = ap (begun_at place) rest ∙ ap (λ (b : Bool). if b then begun_at place s.tail else moved s.far t ∷ s.tail) g in
      subst (λ (l : List Token). length l ≤ length s.tail) (sym mine) (begun_fewer place s.tail)

  -- a token is passed over before others
  one_past : (place other : ℕ) (c d : Place) (t u : Token) (us : List Token) → nat_lt (moved s.far t).start place ≡ true → nat_lt t.start other ≡ true → d.rest ≡ t ∷ u ∷ us → Along s c d
      → PastTo place other (next c) (next d) → PastTo place other c d
  unfolding next
  one_past place other c d t u us g f e a later =
      let rest = a.rest_is ∙ ap (λ (l : List Token). map (moved s.far) l ++ s.tail) e in
      let mine : begun_at place c.rest ≡ begun_at place (next c).rest =
      ap (begun_at place) rest ∙ ap (λ (b : Bool). if b then begun_at place (map (moved s.far) (u ∷ us) ++ s.tail) else moved s.far t ∷ (map (moved s.far) (u ∷ us) ++ s.tail)) g
      ∙ sym (ap (λ (l : List Token). begun_at place (rest_of l)) rest) in
      let own : begun_at other d.rest ≡ begun_at other (next d).rest = ap (begun_at other) e ∙ ap (λ (b : Bool). if b then begun_at other (u ∷ us) else t ∷ u ∷ us) f ∙ sym (ap (λ (l : List Token). begun_at other (rest_of l)) e) in
      elim later [
        | inl x ↦ inl (subst (λ (l : List Token). Along s (with_rest c l) (with_rest d (begun_at other d.rest))) (sym mine)
            (subst (λ (l : List Token). Along s (with_rest c (begun_at place (next c).rest)) (with_rest d l)) (sym own) x))
        | inr x ↦ inr (subst (λ (l : List Token). length l ≤ length s.tail) (sym mine) x)
      ]

  -- the tokens before a place are passed over in both, or the function's text is over
  past_by : (place other : ℕ) (c d : Place) (ts : List Token) → ((t : Token) → nat_lt (moved s.far t).start place ≡ nat_lt t.start other) → d.rest ≡ ts → Along s c d → PastTo place other c d
  unfolding next
  past_by place other c d [] same e a = absurd (subst (End s.code s.last) e a.ends)
  past_by place other c d (t ∷ []) same e a = by (nat_lt t.start other) refl where
    by : (b : Bool) → nat_lt t.start other ≡ b → PastTo place other c d
    by false f = none_past place other c d t [] (same t ∙ f) f e a
    by true f = inr (last_past place c d t (same t ∙ f) e a)
  past_by place other c d (t ∷ u ∷ us) same e a = by (nat_lt t.start other) refl (past_by place other (next c) (next d) (u ∷ us) same (ap rest_of e) (along_on s c d t u us e a)) where
    by : (b : Bool) → nat_lt t.start other ≡ b → PastTo place other (next c) (next d) → PastTo place other c d
    by false f later = none_past place other c d t (u ∷ us) (same t ∙ f) f e a
    by true f later = one_past place other c d t u us (same t ∙ f) f e a later

  -- where a number is seen
  start_by : (c d : Place) (ts : List Token) → d.rest ≡ ts → Along s c d → is_float_number (run d) ≡ true → start c ≡ (moved s.far (record { kind = kind d; begins_line = false; start = start d; length = 0 })).start
  unfolding run start kind is_float_number
  start_by c d [] e a float = absurd (subst (End s.code s.last) e a.ends)
  start_by c d (t ∷ ts) e a float =
      let rest : c.rest ≡ moved s.far t ∷ (map (moved s.far) ts ++ s.tail) = a.rest_is ∙ ap (λ (l : List Token). map (moved s.far) l ++ s.tail) e in
      by (is_stop d.wide t.kind) refl rest where
        by : (stops : Bool) → is_stop d.wide t.kind ≡ stops → c.rest ≡ moved s.far t ∷ (map (moved s.far) ts ++ s.tail) → start c ≡ (moved s.far (record { kind = kind d; begins_line = false; start = start d; length = 0 })).start
        by true stops rest = absurd (let none = ap (λ (l : List Token). is_float_number (run_of (drop (start_first (here d.wide l) (length d.text)) d.text))) e in
            let nothing = ap (λ (b : Bool). is_float_number (run_of (drop (start_first (if b then [] else t ∷ ts) (length d.text)) d.text))) stops ∙ ap (λ (l : Text). is_float_number (run_of l)) (drop_all d.text) in
            let both = sym float ∙ none ∙ nothing in cc)
        by false stops rest = rw (rest, e, a.wide_is, stops) refl

  pub past_run_either : (c d : Place) → Along s c d → is_float_number (run d) ≡ true → Along s (past_run c) (past_run d) ⊎ (length (past_run c).rest ≤ length s.tail)
  unfolding past_run
  past_run_either c d a float =
      let from = start_by c d d.rest refl a float in
      let long = ap length (run_same c d a) in
      past_by (start c + length (run c)) (start d + length (run d)) c d d.rest (λ t. moved_less t.start (start c) (start d) (length (run c)) (length (run d)) from long) refl a where
        moved_less : (x a b m n : ℕ) → a ≡ (moved s.far (record { kind = kind d; begins_line = false; start = b; length = 0 })).start → m ≡ n → nat_lt (moved s.far (record { kind = kind d; begins_line = false; start = x; length = 0 })).start (a + m) ≡ nat_lt x (b + n)
        moved_less x a b m n e f = by (nat_lt x (b + n)) refl where
          by : (t : Bool) → nat_lt x (b + n) ≡ t → nat_lt (moved s.far (record { kind = kind d; begins_line = false; start = x; length = 0 })).start (a + m) ≡ t
          by true h = grind (arith, nat_tests)
          by false h = grind (arith, nat_tests)
