-- The text of a function that stands in a whole text is read alone.
use Rattle.std.proofs.Common.{◌≡◌, ℕ, suc, ◌+◌, ◌-◌, ◌≤◌, Bool, true, false, List, [], ◌∷◌, ◌++◌, inl, inr, length, map, Option, None, refl, ap, sym, subst, ◌∙◌, arith, append_assoc}
use Rattle.std.proofs.lemmas.List.{take-append-le, take-append-drop, drop-append-le, drop-drop, length-drop, length-map}
use Rattle.std.specs.Prelude.{take, drop, cond}
use Rattle.std.specs.List.{prefix_len}
use Rattle.std.specs.Option.{MatchOption}
use Rattle.ir_ast.specs.declared.function.LocalSort.{LocalSort}
use Rattle.ir_ast.specs.declared.module.Module.{Module}
use Rattle.ir_tokens.specs.Bytes.{Text, is_name, class_of}
use Rattle.ir_tokens.specs.Names as tokens
use Rattle.ir_tokens.specs.Tokens.{Cut, IsTokens, IsBad, IsLexed}
use Rattle.ir_tokens.specs.declared.lexed.Lexed.{Lexed}
use Rattle.ir_tokens.specs.declared.token.Token.{Token}
use Rattle.ir_forms.specs.FloatNumbers.{is_part, run_of}
use Rattle.ir_forms.specs.Table.{empty}
use Rattle.ir_forms.specs.declared.fault.Fault.{Fault}
use Rattle.ir_forms.specs.declared.fault.Fault.TheVariants as fault
use Rattle.ir_forms.specs.declared.input.Input.{Input}
use Rattle.ir_forms.specs.declared.table.Table.{Table}
use Rattle.copies.specs.Tables.{tables_of}
use Rattle.ir_text.specs.Anew.{start_anew, anew_of}
use Rattle.ir_text.specs.Replaced.{name_of, with_replacement}
use Rattle.ir_text.specs.Read.{located}
use Rattle.ir_print_law.specs.Places.{moved, IsWithin, IsExcuse}
use Rattle.ir_print_law.specs.Standing.{IsClosed, StandsBetween, IsOfTables, AreReadAnew}
use Rattle.ir_print_law.proofs.Seats.{Seat, End, Own, Beside, bare, placeless}
use Rattle.ir_print_law.proofs.Function.{reads}
use Rattle.ir_print_law.proofs.NumberTokens.{last_start, last_within, last_brace}
use Rattle.ir_print_law.proofs.Late.{nothing_late}

-- ---- a part of a text

drop_front : (front bytes : Text) (n : ℕ) → drop (n + length front) (front ++ bytes) ≡ drop n bytes
drop_front [] bytes n = ap (λ (k : ℕ). drop k bytes) (omega arith)
drop_front (x ∷ front) bytes n =
    let next : n + length (x ∷ front) ≡ suc (n + length front) = omega arith in
    ap (λ (k : ℕ). drop k (x ∷ (front ++ bytes))) next ∙ drop_front front bytes n

-- a token of the code is spelled the same in the whole text
spelled_there : (front code rest : Text) (t : Token) → IsWithin code t → tokens.spelling (front ++ (code ++ rest)) (moved (length front) t) ≡ tokens.spelling code t
spelled_there front code rest t within =
    let size = length-drop t.start code in
    ap (take t.length) (drop_front front (code ++ rest) t.start) ∙ ap (take t.length) (drop-append-le t.start code rest (omega (arith, within)))
    ∙ take-append-le t.length (drop t.start code) rest (omega (arith, within, size))

-- tokens lie within their text, and begin no later than the last of them
cut_ends : (code : Text) (first : Bool) (bytes : Text) (ts : List Token) (last : Text) → Cut (length code) first bytes ts last → IsClosed ts → End code (last_start ts) ts
cut_ends code first bytes [] last cut closed = absurd closed
cut_ends code first bytes (t ∷ []) last cut closed = let a = cut.6 in let b = cut.7 in ((omega (arith, a, b), omega arith), closed)
cut_ends code first bytes (t ∷ u ∷ ts) last cut closed =
    let a = cut.6 in
    let b = cut.7 in
    let later = last_within (length code) false cut.2 u ts last cut.9 in
    ((omega (arith, a, b), omega (arith, a, b, later)), cut_ends code false cut.2 (u ∷ ts) last cut.9 closed)

-- the text is these tokens, none of which is bad
all_cut : (code : Text) (own : Lexed) → IsLexed code own → own.bad ≡ None → IsTokens code own.tokens
all_cut code own lexed good = subst (λ (bad : Option ℕ). MatchOption bad (IsTokens code own.tokens) (IsBad code own.tokens)) good lexed

lexed_ends : (code : Text) (own : Lexed) → IsLexed code own → own.bad ≡ None → IsClosed own.tokens → End code (last_start own.tokens) own.tokens
lexed_ends code own lexed good closed = cut_ends code _ code own.tokens [] (all_cut code own lexed good) closed

-- ---- numbers of more than one token

-- the brace that closes belongs to no number
brace_apart : is_part 125 ≡ false
unfolding is_name class_of
brace_apart = refl

-- such a number ends before a byte that belongs to none, whatever comes after that
run_stops : (bytes more others : Text) (b : ℕ) → is_part b ≡ false → run_of (bytes ++ b ∷ more) ≡ run_of (bytes ++ b ∷ others)
run_stops [] more others b none = rw none refl
run_stops (x ∷ bytes) more others b none = by (is_part x) (run_stops bytes more others b none) where
  by : (t : Bool) → run_of (bytes ++ b ∷ more) ≡ run_of (bytes ++ b ∷ others)
      → take (cond t (1 + prefix_len is_part (bytes ++ b ∷ more)) 0) (x ∷ (bytes ++ b ∷ more)) ≡ take (cond t (1 + prefix_len is_part (bytes ++ b ∷ others)) 0) (x ∷ (bytes ++ b ∷ others))
  by true same =
      let on : 1 + prefix_len is_part (bytes ++ b ∷ more) ≡ suc (prefix_len is_part (bytes ++ b ∷ more)) = omega arith in
      let further : 1 + prefix_len is_part (bytes ++ b ∷ others) ≡ suc (prefix_len is_part (bytes ++ b ∷ others)) = omega arith in
      ap (λ (n : ℕ). take n (x ∷ (bytes ++ b ∷ more))) on ∙ ap (λ (run : Text). x ∷ run) same ∙ sym (ap (λ (n : ℕ). take n (x ∷ (bytes ++ b ∷ others))) further)
  by false same = refl

-- one that begins before the brace is the same in the whole text
run_there : (front code rest further : Text) (last start : ℕ) → drop last code ≡ 125 ∷ further → start ≤ last → run_of (drop (start + length front) (front ++ (code ++ rest))) ≡ run_of (drop start code)
run_there front code rest further last start brace le =
    let long = length-drop last code in
    let some = ap length brace in
    let on : start + (last - start) ≡ last = omega (arith, le) in
    let bytes = take (last - start) (drop start code) in
    let own : drop start code ≡ bytes ++ 125 ∷ further =
    sym (take-append-drop (last - start) (drop start code)) ∙ ap (λ (l : Text). bytes ++ l) (drop-drop (last - start) start code ∙ ap (λ (n : ℕ). drop n code) on ∙ brace) in
    let whole : drop (start + length front) (front ++ (code ++ rest)) ≡ bytes ++ 125 ∷ (further ++ rest) =
    drop_front front (code ++ rest) start ∙ drop-append-le start code rest (omega (arith, le, long, some)) ∙ ap (λ (l : Text). l ++ rest) own ∙ append_assoc bytes (125 ∷ further) rest in
    ap run_of whole ∙ run_stops bytes (further ++ rest) further 125 brace_apart ∙ sym (ap run_of own)

-- ---- both states at the beginning

module _ (m : Module) (func : ℕ) (code : Text) (before after : Input) (counted : length m.sorts ≡ length m.symbols) (h : StandsBetween m func code before after) where
  -- the brace that closes the function
  brace : (further : Text) × (drop (last_start h.own.tokens) code ≡ 125 ∷ further)
  brace = last_brace code [] code _ h.own.tokens [] refl (all_cut code h.own h.lexed h.good) h.closed

  abbrev seat : Seat
  seat = record {
    whole = before.cursor.text;
    code = code;
    far = length h.front;
    tail = h.tail;
    spells = λ t within. ap (λ (b : Text). tokens.spelling b (moved (length h.front) t)) h.text ∙ spelled_there h.front code h.rest t within;
    last = last_start h.own.tokens;
    runs = λ t le. ap (λ (b : Text). run_of (drop (t.start + length h.front) b)) h.text ∙ run_there h.front code h.rest brace.0 (last_start h.own.tokens) t.start brace.1 le;
  }

  -- before the first token of the function alone
  abbrev alone : Input
  alone = start_anew (tables_of m) func code h.own

  own_none : Own before.locals (empty {S = LocalSort}) before.local_uses [] before.values 0 before.unnamed 0
  own_none = record {
    names = ap (λ (t : Table LocalSort). t.names) h.no_locals;
    sorts = ap (λ (t : Table LocalSort). map bare t.sorts) h.no_locals;
    uses_are = ap (map placeless) h.no_uses;
    values_are = h.no_values;
    unnamed_is = h.no_numbers;
  }

  beside : Beside seat before alone
  beside = record {
    along = record {
      whole_is = refl;
      code_is = refl;
      good = h.good;
      wide_is = h.place;
      rest_is = h.tokens;
      ends = lexed_ends code h.own h.lexed h.good h.closed;
    };
    own = own_none;
    symbols = record {
      alike = h.means;
      counted = h.counted;
      counted_too = length-map m.sorts _ ∙ counted;
      used = λ u there. absurd there;
    };
    structs = record { used = λ u there. absurd there };
    missing = refl;
    functions = refl;
    forms = h.forms;
  }

-- a fault for want of room, or for a pointer of another kind, is shown as one
shown_so : (code : Text) (f : Fault) → IsExcuse f → IsOfTables (located code f)
shown_so code (fault.Limit place) h = h
shown_so code (fault.OtherPointer place) h = h
shown_so code _ h = absurd h

-- what stands in a whole text as a function of the module is read alone
pub read_anew : AreReadAnew
read_anew m func code before after counted short h =
    let j = alone m func code before after counted h in
    elim (reads (seat m func code before after counted h) func (name_of m func) before after j h.read (beside m func code before after counted h) h.over h.none_missing) [
      | inl r ↦ inl (
        with_replacement m func (anew_of (tables_of m) r.0),
        (anew_of (tables_of m) r.0, (short, h.own, h.lexed, (r.0, r.1, nothing_late (seat m func code before after counted h) m j after r.0 r.2 refl refl refl h.right, refl)), refl),
      )
      | inr bad ↦ inr (located code bad.0, shown_so code bad.0 bad.1, inr (short, h.own, h.lexed, (bad.0, inl bad.2, refl)))
    ]
