-- From what `clap` gives to what a line asks for.
use Rattle.std.proofs.Common.{◌≡◌, ◌∙◌, ◌&&◌, ◌^◌, ℕ, nat_lt, List, [], ◌∷◌, ◌++◌, length, Option, Some, None, refl, ap, ap₂, sym, option_map, unwrap_or, lt-ltb, ltb-true}
use Rattle.std.specs.Prelude.{IfErr, IsErrAnd, Result, Ok, Err, option_and_then, if◌then◌else◌, true, false, Bool}
use Rattle.std.specs.Result.{result_ok}
use Rattle.std.specs.Str.{all_ascii_digits}
use Rattle.std.specs.Str.Parse.{ParsesUnsigned, digits_value, without_leading_plus}
use Rattle.std.proofs.Common.{inl, inr, subst, true≢false}
use Rattle.std.proofs.lemmas.Str.Parse.{IsNumeralModel, numerals_by_value, tells_all_ascii_digits}
use Rattle.std.specs.Box.{box_value}
use Rattle.clap.specs.Words.{App, HasKind, ReadsOne, Row, Text, fault_of, found_of, is_simple, is_simple_and_free, kind_of, one_text, rows_of, subcommand_name_of, subcommand_rows_of, with_subcommand}
use Rattle.clap.specs.declared.parser.matches.ArgMatches.{ArgMatches}
use Rattle.clap.specs.declared.parser.matches.ArgMatches.TheViews.{out-ArgMatches, out-SubCommand}
use Rattle.clap.specs.declared.parser.matches.Found.{Found}
use Rattle.clap.specs.declared.error.Error.{Error}
use Rattle.clap.proofs.OnLiterals.{clap_on_literals}
use Rattle.clap.proofs.WalkLemmas.{one_text-rows}
use Rattle.command_line.specs.Asked.{fault_of_error, is_memory_kind}
use Rattle.command_line.specs.declared.command.Command.{Command}
use Rattle.command_line.specs.declared.fault.LineFault.{LineFault}
use Rattle.command_line.specs.declared.fault.LineFault.TheVariants.{Memory, Words}
use Rattle.command_line.specs.Grammar.{AskedLine, IsRefusalOf, dgc_app, line_found, line_of, number_in, number_of, with_commands}

-- whether the digits write a number below 2 to the 32
abbrev is_number : Text → Bool
is_number digits = nat_lt 0 (length digits) && all_ascii_digits digits && nat_lt (digits_value 10 digits) (2 ^ 32)

both : (a b : Bool) → a && b ≡ true → (a ≡ true) × (b ≡ true)
both true true e = (refl, refl)
both true false e = absurd (true≢false (sym e))
both false b e = absurd (true≢false (sym e))

ascii_digits : IsNumeralModel (λ digits. all_ascii_digits digits ≡ true) (digits_value 10)
ascii_digits = numerals_by_value _ tells_all_ascii_digits

-- a text as `u32` reads it
pub number_read : {E : Type 0} (text : Text) (r : Result ℕ E) → ParsesUnsigned 32 10 text r → result_ok r ≡ number_in text
number_read text (Ok n) h =
    let digits = without_leading_plus text in
    rw (lt-ltb 0 (length digits) h.0.0.0, ascii_digits.from digits h.0.0.1, lt-ltb (digits_value 10 digits) (2 ^ 32) h.0.1) (ap Some h.1)
number_read text (Err e) h = go (is_number (without_leading_plus text)) refl
  where
    go : (b : Bool) → is_number (without_leading_plus text) ≡ b → None ≡ number_in text
    go false t = rw t refl
    go true t =
        let digits = without_leading_plus text in
        let outer = both _ _ t in
        let inner = both _ _ outer.0 in
        absurd (h ((ltb-true _ _ inner.0, ascii_digits.to digits inner.1), ltb-true _ _ outer.1))

-- the number of an option from what `get_one` gives
pub number_from : {E : Type 0} (G : List ℕ → Result ℕ E → Type 0) (held : Found) (name : Text) (r : Option ℕ)
    → ((u : List ℕ) (x : Result ℕ E) → G u x → ParsesUnsigned 32 10 u x)
    → (one_text held name ≡ None → r ≡ None)
    → ((t : List ℕ) → one_text held name ≡ Some t → ReadsOne G t r)
    → r ≡ number_of name (rows_of held)
number_from {E} G held name r only none value = go (one_text held name) refl ∙ ap (option_and_then number_in) (one_text-rows held name)
  where
    reads : (t : List ℕ) (o : Option ℕ) → ReadsOne G t o → o ≡ number_in t
    reads t (Some n) h = number_read {E = E} t (Ok n) (only t (Ok n) h)
    reads t None h = number_read {E = E} t (Err h.0) (only t (Err h.0) h.1)

    go : (o : Option Text) → one_text held name ≡ o → r ≡ option_and_then number_in (one_text held name)
    go None e = none e ∙ sym (ap (option_and_then number_in) e)
    go (Some t) e = reads t r (value t e) ∙ sym (ap (option_and_then number_in) e)

-- the grammar is one whose meaning `clap` states whole
pub is_simple_and_free_dgc : is_simple_and_free dgc_app ≡ true
unfolding clap_on_literals with_commands
is_simple_and_free_dgc = refl

pub is_simple_dgc : is_simple dgc_app ≡ true
unfolding clap_on_literals with_commands
is_simple_dgc = refl

-- an error of one of these kinds is a refusal of the words
pub is_refusal : (words : List Text) (error : Error) → HasKind (fault_of dgc_app words) error → IsRefusalOf words (fault_of_error error)
is_refusal words error kind = by_kind (is_memory_kind (kind_of error)) kind refl
  where
    by_kind : (b : Bool) → HasKind (fault_of dgc_app words) error → is_memory_kind (kind_of error) ≡ b → IsRefusalOf words (if b then Memory else Words error)
    by_kind true kind is = tt
    by_kind false (inl memory) is = absurd (true≢false (sym (ap is_memory_kind memory) ∙ is))
    by_kind false (inr among) is = among

pub refuses : (words : List Text) (error : Error) (result : Result Command LineFault) → HasKind (fault_of dgc_app words) error
    → IsErrAnd result (λ fault. fault ≡ fault_of_error error) → IfErr result (IsRefusalOf words)
refuses words error (Ok command) kind is = tt
refuses words error (Err fault) kind is = subst (IsRefusalOf words) (sym is) (is_refusal words error kind)

-- ---- what the words ask for

-- the name and the rows of what was entered, from each of them
name_and_rows : {X : Type 0} (name_in : X → Text) (rows_in : X → List Row) (entered : Option X) (name : Text) (rows : List Row)
    → Some name ≡ option_map name_in entered → Some rows ≡ option_map (λ (p : Text × List Row). p.1) (option_map {U = Text × List Row} (λ x. (name_in x, rows_in x)) entered)
    → option_map {U = Text × List Row} (λ x. (name_in x, rows_in x)) entered ≡ Some (name, rows)
name_and_rows name_in rows_in None name rows named given = absurd cc
name_and_rows name_in rows_in (Some x) name rows named given =
    let name_is : name ≡ name_in x = ap (λ o. unwrap_or o name) named in
    let rows_are : rows ≡ rows_in x = ap (λ o. unwrap_or o rows) given in
    ap₂ (λ n r. Some (n, r)) (sym name_is) (sym rows_are)

-- what was found asks for what the name with its rows asks for
pub line_from : (m : ArgMatches) (name : Text) (rows : List Row) (line : Option AskedLine)
    → Some name ≡ subcommand_name_of m → Some rows ≡ option_map (λ (p : Text × List Row). p.1) (subcommand_rows_of m)
    → line ≡ line_of name rows → line_found (subcommand_rows_of m) ≡ line
line_from m name rows line named given gives =
    let entered : subcommand_rows_of m ≡ Some (name, rows) =
    name_and_rows (λ b. (out-SubCommand (box_value b)).name.now) (λ b. rows_of (found_of (out-SubCommand (box_value b)).matches)) (out-ArgMatches m).subcommand name rows named given in
    ap line_found entered ∙ sym gives

-- ---- the table of commands

-- one more command after others
pub with_commands_more : (app : App) (commands : List App) (command : App)
    → with_commands app (commands ++ command ∷ []) ≡ with_subcommand (with_commands app commands) command.top
unfolding with_commands
with_commands_more app [] command = refl
with_commands_more app (first ∷ commands) command = with_commands_more (with_subcommand app first.top) commands command

-- none after a program
pub with_commands_none : (app : App) → with_commands app [] ≡ app
unfolding with_commands
with_commands_none app = refl
