-- Tables of the names of a module while it is read: each name has one place, and each item has its name.
use Rattle.std.proofs.Common.{◌≡◌, ℕ, zero, suc, ◌+◌, ◌<◌, Bool, true, false, List, [], ◌∷◌, ◌++◌, length, slice_get, if◌then◌else◌, is_some, unwrap_or, Option, None, Some, refl, sym, ap, subst, ◌∙◌, arith, length-append, inl, inr, ◌⊎◌}
use Rattle.std.specs.Prelude.{nat_lt, slice_set}
use Rattle.std.proofs.lemmas.Bool.{cases_eq}
use Rattle.std.proofs.lemmas.Bool.Decides.{nat_tests}
use Rattle.std.proofs.lemmas.Option.{slice_get_within}
use Rattle.std.proofs.lemmas.List.{length-set}
use Rattle.lemmas.specs.Lists.{get_end, get_either, get_some, set_here, set_is, set_other}
use Rattle.ir_ast.specs.Names.{place_of}
use Rattle.ir_ast.specs.declared.items_of_module.SymbolSort.{SymbolSort}
use Rattle.ir_ast.specs.declared.items_of_module.SymbolSort.TheVariants as symbol
use Rattle.ir_forms.specs.Table.{mentioned, sorts_with, defined}
use Rattle.ir_forms.specs.declared.table.Table.{Table}
use Rattle.ir_forms.specs.Names.{is_struct, is_symbol}
use Rattle.ir_tokens.specs.Bytes.{Text}
use Rattle.name_text.specs.Readings.{AreBytes}
use Rattle.ir_print_law.specs.Printable.{IsSymbol}
use Rattle.ir_print_law.proofs.Tables.{begins_with, stays, place_there, place_stays}

-- Each name is bytes and is at its first place. What a name means, if anything, owns it. What owns a name is what it means, and such a name is good.
pub record IsTable {S : Type 0} (nothing : S) (Owns : S → ℕ → Type 0) (Good : Text → Type 0) (t : Table S) : Type 0 where
  pub same : length t.sorts ≡ length t.names
  pub bytes : (n : ℕ) (name : Text) → slice_get t.names n ≡ Some name → AreBytes name
  pub places : (n : ℕ) (name : Text) → slice_get t.names n ≡ Some name → place_of name t.names ≡ Some n
  pub owned : (n : ℕ) (sort : S) → slice_get t.sorts n ≡ Some sort → (sort ≡ nothing) ⊎ Owns sort n
  pub known : (n : ℕ) (sort : S) → Owns sort n → slice_get t.sorts n ≡ Some sort
  pub good : (n : ℕ) (sort : S) (name : Text) → Owns sort n → slice_get t.names n ≡ Some name → Good name

-- a mention of a name defines nothing
pub table_mentions : {S : Type 0} (nothing : S) (Owns : S → ℕ → Type 0) (Good : Text → Type 0) (t : Table S) (name : Text) → AreBytes name → IsTable nothing Owns Good t
    → IsTable nothing Owns Good (mentioned name nothing t)
table_mentions {S = S} nothing Owns Good t name is h = by (place_of name t.names) refl where
  more : List Text
  more = t.names ++ name ∷ []

  longer : length more ≡ length t.names + 1
  longer = length-append t.names (name ∷ [])

  fresh : place_of name t.names ≡ None → place_of name more ≡ Some (length t.names)
  fresh e = subst (λ (o : Option ℕ). place_of name (if is_some o then t.names else more) ≡ Some (unwrap_or o (length t.names))) e (place_there name t.names)

  by : (place : Option ℕ) → place_of name t.names ≡ place
      → IsTable nothing Owns Good (record { names = if is_some place then t.names else more; sorts = sorts_with place nothing t.sorts })
  by (Some n) e = record { same = h.same; bytes = h.bytes; places = h.places; owned = h.owned; known = h.known; good = h.good }
  by None e = record {
    same = let s = h.same in length-append t.sorts (nothing ∷ []) ∙ ap (λ n. n + 1) s ∙ sym longer;
    bytes = λ n k there. elim (get_either t.names name n k there) [
      | inl p ↦ h.bytes n k p
      | inr p ↦ subst AreBytes (sym p.1) is
    ];
    places = λ n k there. elim (get_either t.names name n k there) [
      | inl p ↦ place_stays k t.names more n (begins_with t.names (name ∷ [])) (h.places n k p)
      | inr p ↦ subst (λ (x : Text). place_of x more ≡ Some n) (sym p.1) (fresh e ∙ ap Some (sym p.0))
    ];
    owned = λ n sort there. elim (get_either t.sorts nothing n sort there) [
      | inl p ↦ h.owned n sort p
      | inr p ↦ inl p.1
    ];
    known = λ n sort own. stays t.sorts (t.sorts ++ nothing ∷ []) n sort (begins_with t.sorts (nothing ∷ [])) (h.known n sort own);
    good = λ n sort x own there. elim (get_either t.names name n x there) [
      | inl p ↦ h.good n sort x own p
      | inr p ↦ absurd (let less = slice_get_within t.sorts n sort (h.known n sort own) in let s = h.same in let at = p.0 in omega (arith, less, s, at))
    ];
  }

-- a name means this from now on, whatever it meant so far
table_redefines : {S : Type 0} (nothing : S) (Owns Later : S → ℕ → Type 0) (Good : Text → Type 0) (t : Table S) (n : ℕ) (sort : S) (name : Text)
    → slice_get t.names n ≡ Some name → n < length t.sorts → Good name → ((k : ℕ) (x : S) → Owns x k → (k ≡ n → ⊥) → Later x k) → Later sort n
    → ((k : ℕ) (x : S) → Later x k → (Owns x k × (k ≡ n → ⊥)) ⊎ ((k ≡ n) × (x ≡ sort)))
    → IsTable nothing Owns Good t → IsTable nothing Later Good (defined n sort t)
table_redefines {S = S} nothing Owns Later Good t n sort name at less is up here down h =
    subst (λ (b : Bool). IsTable nothing Later Good (record { names = t.names; sorts = if b then slice_set t.sorts n sort else t.sorts })) (sym there) (record {
      same = length-set t.sorts n sort ∙ h.same;
      bytes = h.bytes;
      places = h.places;
      owned = λ k x e. elim (cases_eq k n) [
        | inl p ↦ inr (subst (λ (j : ℕ). Later x j) (sym p) (subst (λ (y : S). Later y n) (set_is t.sorts n sort x (sym (ap (slice_get (slice_set t.sorts n sort)) p) ∙ e)) here))
        | inr differs ↦ elim (h.owned k x (sym (set_other t.sorts n k sort differs) ∙ e)) [ inl q ↦ inl q | inr own ↦ inr (up k x own differs) ]
      ];
      known = λ k x later. elim (down k x later) [
        | inl own ↦ set_other t.sorts n k sort own.1 ∙ h.known k x own.0
        | inr p ↦ ap (slice_get (slice_set t.sorts n sort)) p.0 ∙ set_here t.sorts n sort less ∙ ap Some (sym p.1)
      ];
      good = λ k x other later e. elim (down k x later) [
        | inl own ↦ h.good k x other own.0 e
        | inr p ↦ subst Good (same_name other (sym at ∙ ap (slice_get t.names) (sym p.0) ∙ e)) is
      ];
    }) where
      there : nat_lt n (length t.sorts) ≡ true
      there = let l = less in grind (arith, nat_tests)

      same_name : (other : Text) → Some name ≡ Some other → name ≡ other
      same_name other e = cc

-- a name that meant nothing so far means this from now on
table_defines : {S : Type 0} (nothing : S) (Owns Later : S → ℕ → Type 0) (Good : Text → Type 0) (t : Table S) (n : ℕ) (sort : S) (name : Text)
    → slice_get t.names n ≡ Some name → slice_get t.sorts n ≡ Some nothing → Good name → ((k : ℕ) → Owns nothing k → ⊥)
    → ((k : ℕ) (x : S) → Owns x k → Later x k) → Later sort n → ((k : ℕ) (x : S) → Later x k → Owns x k ⊎ ((k ≡ n) × (x ≡ sort)))
    → IsTable nothing Owns Good t → IsTable nothing Later Good (defined n sort t)
table_defines {S = S} nothing Owns Later Good t n sort name at none is no_one up here down h =
    table_redefines nothing Owns Later Good t n sort name at (slice_get_within t.sorts n nothing none) is (λ k x own differs. up k x own) here
    (λ k x later. elim (down k x later) [ inl own ↦ inl (own, λ e. apart k x e own) | inr p ↦ inr p ]) h where
      same_sort : (x : S) → Some x ≡ Some nothing → x ≡ nothing
      same_sort x e = cc

      apart : (k : ℕ) (x : S) → k ≡ n → Owns x k → ⊥
      apart k x e own = no_one k (subst (λ (y : S). Owns y k) (same_sort x (sym (h.known k x own) ∙ ap (slice_get t.sorts) e ∙ none)) own)

-- ---- structs

-- the name is that of this struct, by the names of the structs in order
abbrev pub OwnsStruct : List ℕ → Option ℕ → ℕ → Type 0
OwnsStruct own None n = ⊥
OwnsStruct own (Some layout) n = slice_get own layout ≡ Some n

-- the names of structs, where these have one
abbrev pub AreStructs : List ℕ → Table (Option ℕ) → Type 0
AreStructs own t = IsTable None (OwnsStruct own) AreBytes t

-- a name that is no struct so far means nothing
no_struct : (sorts : List (Option ℕ)) (n : ℕ) → n < length sorts → is_struct (slice_get sorts n) ≡ false → slice_get sorts n ≡ Some None
no_struct [] n less e = absurd (omega (arith, less))
no_struct (None ∷ sorts) zero less e = refl
no_struct (Some layout ∷ sorts) zero less e = absurd cc
no_struct (x ∷ sorts) (suc n) less e = no_struct sorts n (omega (arith, less)) e

-- a name that means nothing so far is that of the next struct
pub struct_defines : (own : List ℕ) (t : Table (Option ℕ)) (n : ℕ) (name : Text) → slice_get t.names n ≡ Some name → is_struct (slice_get t.sorts n) ≡ false → AreBytes name
    → AreStructs own t → AreStructs (own ++ n ∷ []) (defined n (Some (length own)) t)
struct_defines own t n name at none is h =
    let less = slice_get_within t.names n name at in
    let within : n < length t.sorts = (let s = h.same in omega (arith, less, s)) in
    table_defines None (OwnsStruct own) (OwnsStruct (own ++ n ∷ [])) AreBytes t n (Some (length own)) name at (no_struct t.sorts n within none) is (λ k o. o)
    up (get_end own n) down h where
      up : (k : ℕ) (x : Option ℕ) → OwnsStruct own x k → OwnsStruct (own ++ n ∷ []) x k
      up k None o = o
      up k (Some layout) o = stays own (own ++ n ∷ []) layout k (begins_with own (n ∷ [])) o

      down : (k : ℕ) (x : Option ℕ) → OwnsStruct (own ++ n ∷ []) x k → OwnsStruct own x k ⊎ ((k ≡ n) × (x ≡ Some (length own)))
      down k None o = inl o
      down k (Some layout) o = elim (get_either own n layout k o) [ inl p ↦ inl p | inr p ↦ inr (p.1, ap Some p.0) ]

-- ---- globals and functions

-- the names of the globals, the declared functions and the defined ones, each in order
pub record Owned : Type 0 where
  pub globals : List ℕ
  pub declares : List ℕ
  pub functions : List ℕ

-- the name is that of this item, by the names of the items in order
abbrev pub OwnsSymbol : Owned → SymbolSort → ℕ → Type 0
OwnsSymbol own symbol.Unknown n = ⊥
OwnsSymbol own (symbol.Global g) n = slice_get own.globals g ≡ Some n
OwnsSymbol own (symbol.Declared d) n = slice_get own.declares d ≡ Some n
OwnsSymbol own (symbol.Defined f) n = slice_get own.functions f ≡ Some n

-- the names of globals and functions, where these have one
abbrev pub AreSymbols : (wide : Bool) → Owned → Table SymbolSort → Type 0
AreSymbols wide own t = IsTable symbol.Unknown (OwnsSymbol own) (IsSymbol wide) t

-- a name that is no global and no function so far means nothing
no_symbol : (sorts : List SymbolSort) (n : ℕ) → n < length sorts → is_symbol (slice_get sorts n) ≡ false → slice_get sorts n ≡ Some symbol.Unknown
no_symbol [] n less e = absurd (omega (arith, less))
no_symbol (symbol.Unknown ∷ sorts) zero less e = refl
no_symbol (symbol.Global g ∷ sorts) zero less e = absurd cc
no_symbol (symbol.Declared d ∷ sorts) zero less e = absurd cc
no_symbol (symbol.Defined f ∷ sorts) zero less e = absurd cc
no_symbol (x ∷ sorts) (suc n) less e = no_symbol sorts n (omega (arith, less)) e

-- what is new is owned by the name with this number
abbrev IsMore : Owned → Owned → SymbolSort → ℕ → Type 0
IsMore own later sort n =
    ((k : ℕ) (x : SymbolSort) → OwnsSymbol own x k → OwnsSymbol later x k) × OwnsSymbol later sort n
    × ((k : ℕ) (x : SymbolSort) → OwnsSymbol later x k → OwnsSymbol own x k ⊎ ((k ≡ n) × (x ≡ sort)))

-- the name means what is new
symbol_defines : (wide : Bool) (own later : Owned) (t : Table SymbolSort) (n : ℕ) (sort : SymbolSort) (name : Text) → IsMore own later sort n → slice_get t.names n ≡ Some name
    → is_symbol (slice_get t.sorts n) ≡ false → IsSymbol wide name → AreSymbols wide own t → AreSymbols wide later (defined n sort t)
symbol_defines wide own later t n sort name more at none is h =
    let less = slice_get_within t.names n name at in
    let within : n < length t.sorts = (let s = h.same in omega (arith, less, s)) in
    table_defines symbol.Unknown (OwnsSymbol own) (OwnsSymbol later) (IsSymbol wide) t n sort name at (no_symbol t.sorts n within none) is (λ k o. o) more.0 more.1 more.2 h

-- what is owned is owned in a longer list
longer : (own : List ℕ) (n g k : ℕ) → slice_get own g ≡ Some k → slice_get (own ++ n ∷ []) g ≡ Some k
longer own n g k e = stays own (own ++ n ∷ []) g k (begins_with own (n ∷ [])) e

-- one global more
abbrev pub more_globals : Owned → ℕ → Owned
more_globals own n = record own { globals = own.globals ++ n ∷ [] }

-- one declared function more
abbrev pub more_declares : Owned → ℕ → Owned
more_declares own n = record own { declares = own.declares ++ n ∷ [] }

-- one defined function more
abbrev pub more_functions : Owned → ℕ → Owned
more_functions own n = record own { functions = own.functions ++ n ∷ [] }

-- one more of each sort
global_more : (own : Owned) (n : ℕ) → IsMore own (more_globals own n) (symbol.Global (length own.globals)) n
global_more own n = (up, get_end own.globals n, down) where
  up : (k : ℕ) (x : SymbolSort) → OwnsSymbol own x k → OwnsSymbol (more_globals own n) x k
  up k symbol.Unknown o = o
  up k (symbol.Global g) o = longer own.globals n g k o
  up k (symbol.Declared d) o = o
  up k (symbol.Defined f) o = o

  down : (k : ℕ) (x : SymbolSort) → OwnsSymbol (more_globals own n) x k → OwnsSymbol own x k ⊎ ((k ≡ n) × (x ≡ symbol.Global (length own.globals)))
  down k symbol.Unknown o = inl o
  down k (symbol.Global g) o = elim (get_either own.globals n g k o) [ inl p ↦ inl p | inr p ↦ inr (p.1, ap symbol.Global p.0) ]
  down k (symbol.Declared d) o = inl o
  down k (symbol.Defined f) o = inl o

declared_more : (own : Owned) (n : ℕ) → IsMore own (more_declares own n) (symbol.Declared (length own.declares)) n
declared_more own n = (up, get_end own.declares n, down) where
  up : (k : ℕ) (x : SymbolSort) → OwnsSymbol own x k → OwnsSymbol (more_declares own n) x k
  up k symbol.Unknown o = o
  up k (symbol.Global g) o = o
  up k (symbol.Declared d) o = longer own.declares n d k o
  up k (symbol.Defined f) o = o

  down : (k : ℕ) (x : SymbolSort) → OwnsSymbol (more_declares own n) x k → OwnsSymbol own x k ⊎ ((k ≡ n) × (x ≡ symbol.Declared (length own.declares)))
  down k symbol.Unknown o = inl o
  down k (symbol.Global g) o = inl o
  down k (symbol.Declared d) o = elim (get_either own.declares n d k o) [ inl p ↦ inl p | inr p ↦ inr (p.1, ap symbol.Declared p.0) ]
  down k (symbol.Defined f) o = inl o

defined_more : (own : Owned) (n : ℕ) → IsMore own (more_functions own n) (symbol.Defined (length own.functions)) n
defined_more own n = (up, get_end own.functions n, down) where
  up : (k : ℕ) (x : SymbolSort) → OwnsSymbol own x k → OwnsSymbol (more_functions own n) x k
  up k symbol.Unknown o = o
  up k (symbol.Global g) o = o
  up k (symbol.Declared d) o = o
  up k (symbol.Defined f) o = longer own.functions n f k o

  down : (k : ℕ) (x : SymbolSort) → OwnsSymbol (more_functions own n) x k → OwnsSymbol own x k ⊎ ((k ≡ n) × (x ≡ symbol.Defined (length own.functions)))
  down k symbol.Unknown o = inl o
  down k (symbol.Global g) o = inl o
  down k (symbol.Declared d) o = inl o
  down k (symbol.Defined f) o = elim (get_either own.functions n f k o) [ inl p ↦ inl p | inr p ↦ inr (p.1, ap symbol.Defined p.0) ]

-- a name that means nothing so far is that of the next global
pub global_defines : (wide : Bool) (own : Owned) (t : Table SymbolSort) (n : ℕ) (name : Text) → slice_get t.names n ≡ Some name → is_symbol (slice_get t.sorts n) ≡ false → IsSymbol wide name
    → AreSymbols wide own t → AreSymbols wide (more_globals own n) (defined n (symbol.Global (length own.globals)) t)
global_defines wide own t n name at none is h = symbol_defines wide own (more_globals own n) t n (symbol.Global (length own.globals)) name (global_more own n) at none is h

-- the same of the next declared function
pub declared_defines : (wide : Bool) (own : Owned) (t : Table SymbolSort) (n : ℕ) (name : Text) → slice_get t.names n ≡ Some name → is_symbol (slice_get t.sorts n) ≡ false → IsSymbol wide name
    → AreSymbols wide own t → AreSymbols wide (more_declares own n) (defined n (symbol.Declared (length own.declares)) t)
declared_defines wide own t n name at none is h = symbol_defines wide own (more_declares own n) t n (symbol.Declared (length own.declares)) name (declared_more own n) at none is h

-- a name that was taken for that of the next global is that of the next declared function
pub data_defines : (wide : Bool) (own : Owned) (t : Table SymbolSort) (n : ℕ) → AreSymbols wide (more_globals own n) t
    → AreSymbols wide (more_declares own n) (defined n (symbol.Declared (length own.declares)) t)
data_defines wide own t n h =
    table_redefines symbol.Unknown (OwnsSymbol (more_globals own n)) (OwnsSymbol (more_declares own n)) (IsSymbol wide) t n (symbol.Declared (length own.declares)) there.0 there.1 less
    (h.good n sort there.0 mine there.1) up (get_end own.declares n) down h where
      sort : SymbolSort
      sort = symbol.Global (length own.globals)

      mine : OwnsSymbol (more_globals own n) sort n
      mine = get_end own.globals n

      less : n < length t.sorts
      less = slice_get_within t.sorts n sort (h.known n sort mine)

      there : (name : Text) × (slice_get t.names n ≡ Some name)
      there = let s = h.same in let l = less in get_some t.names n (omega (arith, l, s))

      no_global : (x : SymbolSort) → Some x ≡ Some sort → OwnsSymbol own x n → ⊥
      no_global x e old =
          let same : x ≡ sort = cc in
          let past = slice_get_within own.globals (length own.globals) n (subst (λ (y : SymbolSort). OwnsSymbol own y n) same old) in
          omega (arith, past)

      up : (k : ℕ) (x : SymbolSort) → OwnsSymbol (more_globals own n) x k → (k ≡ n → ⊥) → OwnsSymbol (more_declares own n) x k
      up k x o differs = elim ((global_more own n).2 k x o) [ inl old ↦ (declared_more own n).0 k x old | inr p ↦ absurd (differs p.0) ]

      apart : (k : ℕ) (x : SymbolSort) → OwnsSymbol own x k → k ≡ n → ⊥
      apart k x old e =
          let here : OwnsSymbol own x n = subst (λ (j : ℕ). OwnsSymbol own x j) e old in
          no_global x (sym (h.known n x ((global_more own n).0 n x here)) ∙ h.known n sort mine) here

      down : (k : ℕ) (x : SymbolSort) → OwnsSymbol (more_declares own n) x k → (OwnsSymbol (more_globals own n) x k × (k ≡ n → ⊥)) ⊎ ((k ≡ n) × (x ≡ symbol.Declared (length own.declares)))
      down k x later = elim ((declared_more own n).2 k x later) [ inl old ↦ inl ((global_more own n).0 k x old, apart k x old) | inr p ↦ inr p ]

-- the same of the next defined function
pub defined_defines : (wide : Bool) (own : Owned) (t : Table SymbolSort) (n : ℕ) (name : Text) → slice_get t.names n ≡ Some name → is_symbol (slice_get t.sorts n) ≡ false → IsSymbol wide name
    → AreSymbols wide own t → AreSymbols wide (more_functions own n) (defined n (symbol.Defined (length own.functions)) t)
defined_defines wide own t n name at none is h = symbol_defines wide own (more_functions own n) t n (symbol.Defined (length own.functions)) name (defined_more own n) at none is h

-- before the first name
pub no_structs : AreStructs [] (record { names = []; sorts = [] })
no_structs = record {
  same = refl;
  bytes = λ n name e. absurd cc;
  places = λ n name e. absurd cc;
  owned = λ n sort e. absurd cc;
  known = λ n sort own. none sort n own;
  good = λ n sort name own e. absurd cc;
} where
  none : (sort : Option ℕ) (n : ℕ) → OwnsStruct [] sort n → slice_get [] n ≡ Some sort
  none None n own = absurd own
  none (Some layout) n own = absurd cc

-- nothing is owned
abbrev pub none_owned : Owned
none_owned = record { globals = []; declares = []; functions = [] }

-- before the first name of a global or a function
pub no_symbols : (wide : Bool) → AreSymbols wide none_owned (record { names = []; sorts = [] })
no_symbols wide = record {
  same = refl;
  bytes = λ n name e. absurd cc;
  places = λ n name e. absurd cc;
  owned = λ n sort e. absurd cc;
  known = λ n sort own. none sort n own;
  good = λ n sort name own e. absurd cc;
} where
  none : (sort : SymbolSort) (n : ℕ) → OwnsSymbol none_owned sort n → slice_get [] n ≡ Some sort
  none symbol.Unknown n own = absurd own
  none (symbol.Global g) n own = absurd cc
  none (symbol.Declared d) n own = absurd cc
  none (symbol.Defined f) n own = absurd cc
