-- Items without effect, and parameters of declared functions, as they are read.
use Rattle.std.proofs.Common.{Bool, true, false, sym, subst}
use Rattle.std.specs.Prelude.{nat_lt}
use Rattle.std.specs.List.{AllByRecursion}
use Rattle.grammar.specs.Grammar.{pure, look, ◌>>◌}
use Rattle.ir_ast.specs.declared.module.Module.{Module}
use Rattle.ir_tokens.specs.declared.token.Kind.{Kind}
use Rattle.ir_tokens.specs.declared.token.Kind.TheVariants as k
use Rattle.ir_forms.specs.Cursor.{kind, spelling, begins_line}
use Rattle.ir_forms.specs.declared.input.Input.{Input}
use Rattle.ir_forms.specs.Input.{skip, expect, unexpected, limit}
use Rattle.ir_forms.specs.Names.{take_number, next_number, is_next, with_number_taken}
use Rattle.ir_forms.specs.Decorations.{any_token, any_token_takes, decorations}
use Rattle.ir_forms.specs.Lists.{ends_parameters}
use Rattle.ir_forms.specs.ManyWith.{many_with}
use Rattle.ir_forms.specs.declared.decorating.Spot.TheVariants as spot
use Rattle.ir_text.specs.DataItems.{has_room, token_of_item, token_takes, ends_data, after_token, past_item}
use Rattle.ir_text.specs.ItemsOfText.{is_constant_by, is_constant}
use Rattle.ir_text.specs.declared.data_items.OpenBrackets.{OpenBrackets}
use Rattle.ir_text.specs.Lines.{text_after, source_name, target_part_by, target_part, target_after, target_line, at_brace, braced, group_after, group, begins_dollar, is_dollar, is_comdat_name, dollar_name_by, dollar_name, comdat_after, named_comdat, comdat, at_line_end, rest_of_line, is_first, line_after, whole_line, metadata_line}
use Rattle.ir_text.specs.Parameters.{declared_name_by, declared_name, declared_parameter, declared_parameter_takes, declared_parameters}
use Rattle.ir_print_law.specs.Printable.{IsAnyType}
use Rattle.ir_print_law.proofs.Decorations.{decorations_pass, separator_passes, any_token_passes}
use Rattle.ir_print_law.proofs.Forms.{Keeps, Same, all}
use Rattle.ir_print_law.proofs.OutsideRead.{dots_pass}
use Rattle.ir_print_law.proofs.Passes.{Passes, skip_passes, expect_passes, check_passes, pure_passes, refuse_passes, past, look_passes, all_pass, all_with_pass}
use Rattle.ir_print_law.proofs.Reading.{Reading}
use Rattle.ir_print_law.proofs.TypesThat.{any_type_keeps, type_of}

module _ {m : Module} (r : Reading m) where
  -- ---- items without effect

  text_passes : Passes r text_after
  text_passes = past r (expect k.Equals) (expect k.Quoted) (expect_passes r k.Equals) (expect_passes r k.Quoted)

  -- what the text was made from
  pub source_passes : Passes r source_name
  unfolding source_name
  source_passes = past r skip text_after (skip_passes r) text_passes

  target_by_passes : (x : Kind) → Passes r (target_part_by x)
  target_by_passes k.Datalayout = skip_passes r
  target_by_passes k.Triple = skip_passes r
  target_by_passes _ = refuse_passes r unexpected

  target_part_passes : Passes r target_part
  unfolding target_part
  target_part_passes = look_passes r (λ i. kind i.cursor) target_part_by target_by_passes

  -- a target
  pub target_passes : Passes r target_line
  unfolding target_line
  target_passes = past r skip target_after (skip_passes r) (past r target_part text_after target_part_passes text_passes)

  braced_passes : Passes r braced
  unfolding braced
  braced_passes = all_pass r at_brace any_token any_token_takes (any_token_passes r)

  -- a group of attributes
  pub group_passes : Passes r group
  unfolding group
  group_passes =
      past r skip group_after (skip_passes r)
      (past r (expect k.AttributeGroup) (expect k.Equals >> (expect k.OpenBrace >> (braced >> expect k.CloseBrace))) (expect_passes r k.AttributeGroup)
      (past r (expect k.Equals) (expect k.OpenBrace >> (braced >> expect k.CloseBrace)) (expect_passes r k.Equals)
      (past r (expect k.OpenBrace) (braced >> expect k.CloseBrace) (expect_passes r k.OpenBrace)
      (past r braced (expect k.CloseBrace) braced_passes (expect_passes r k.CloseBrace)))))

  dollar_by_passes : (t : Bool) → Passes r (dollar_name_by t)
  dollar_by_passes true = past r skip (expect k.Quoted) (skip_passes r) (expect_passes r k.Quoted)
  dollar_by_passes false = skip_passes r

  dollar_passes : Passes r dollar_name
  unfolding dollar_name
  dollar_passes = look_passes r (λ i. is_dollar (spelling i.cursor)) dollar_name_by dollar_by_passes

  -- a comdat
  pub comdat_passes : Passes r comdat
  unfolding comdat
  comdat_passes =
      past r is_comdat_name named_comdat (check_passes r (λ i. begins_dollar (spelling i.cursor)) unexpected)
      (past r dollar_name comdat_after dollar_passes
      (past r (expect k.Equals) (expect k.Comdat >> expect k.LowercaseWord) (expect_passes r k.Equals)
      (past r (expect k.Comdat) (expect k.LowercaseWord) (expect_passes r k.Comdat) (expect_passes r k.LowercaseWord))))

  line_passes : Passes r rest_of_line
  unfolding rest_of_line
  line_passes = all_pass r at_line_end any_token any_token_takes (any_token_passes r)

  -- a line of metadata
  pub metadata_passes : Passes r metadata_line
  unfolding metadata_line
  metadata_passes =
      past r is_first whole_line (check_passes r (λ i. begins_line i.cursor) unexpected)
      (past r skip line_after (skip_passes r) (past r rest_of_line (pure tt) line_passes (pure_passes r tt)))

  -- ---- parts of items

  constant_by_passes : (x : Kind) → Passes r (is_constant_by x)
  constant_by_passes k.Global = past r skip (pure false) (skip_passes r) (pure_passes r false)
  constant_by_passes k.Constant = past r skip (pure true) (skip_passes r) (pure_passes r true)
  constant_by_passes _ = λ i a o h f. absurd h

  -- `global` or `constant`
  pub is_constant_passes : Passes r is_constant
  unfolding is_constant
  is_constant_passes =
      past r (decorations spot.Global) (look (λ i. kind i.cursor) is_constant_by) (decorations_pass r spot.Global)
      (look_passes r (λ i. kind i.cursor) is_constant_by constant_by_passes)

  -- ---- data

  token_passes : (b : OpenBrackets) → Passes r (token_of_item b)
  token_passes b = past r (has_room b) any_token (check_passes r (λ _. nat_lt b.depth 4294967295) limit) (any_token_passes r)

  -- the rest of an item
  pub past_item_passes : Passes r past_item
  unfolding past_item
  past_item_passes =
      past r (many_with ends_data token_of_item token_takes after_token (record { depth = 0 })) (pure tt)
      (all_with_pass r ends_data token_of_item token_takes after_token (record { depth = 0 }) token_passes) (pure_passes r tt)

  -- ---- parameters of declared functions

  module _ (on : (i : Input) → r.Fore i → r.Fore (with_number_taken i)) (from : (i : Input) → r.Back (with_number_taken i) → r.Back i) where
    take_passes : Passes r take_number
    unfolding take_number
    take_passes i a o h f =
        let same = h.2.1 in
        let end = h.3.1 in
        (subst r.Fore end (on h.1 (subst r.Fore same f)), λ b. (subst r.Back (sym same) (from h.1 (subst r.Back (sym end) b)), tt))

    next_passes : Passes r next_number
    unfolding next_number
    next_passes = past r is_next take_number (λ i a o h f. (subst r.Fore h.1 f, λ b. (subst r.Back (sym h.1) b, tt))) take_passes

    declared_by_passes : (x : Kind) → Passes r (declared_name_by x)
    declared_by_passes k.LocalName = skip_passes r
    declared_by_passes k.LocalNumber = past r next_number skip next_passes (skip_passes r)
    declared_by_passes _ = take_passes

    declared_name_passes : Passes r declared_name
    unfolding declared_name
    declared_name_passes = look_passes r (λ i. kind i.cursor) declared_name_by declared_by_passes

    parameter_keeps : (i : Input) → Keeps r.Fore (Same r.Fore) r.Back declared_parameter (IsAnyType m) i
    unfolding declared_parameter
    parameter_keeps i n o h f =
        let t1 = h.3 in
        let t2 = t1.3 in
        let t3 = t2.3 in
        let a = any_type_keeps r i h.0 h.1 h.2 f in
        let b = decorations_pass r spot.Parameter h.1 t1.0 t1.1 t1.2 a.0 in
        let c = declared_name_passes t1.1 t2.0 t2.1 t2.2 b.0 in
        let d = separator_passes r k.CloseRound t2.1 t3.0 t3.1 t3.2 c.0 in (
          subst r.Fore t3.3.1 d.0,
          λ back.
              let ab = a.1 (b.1 (c.1 (d.1 (subst r.Back (sym t3.3.1) back)).0).0).0 in
              (ab.0, subst (IsAnyType m) t3.3.0 (ab.1.0, type_of m h.0 ab.1.0 ab.1.1)),
        )

    -- the parameters of a declared function have types
    pub declared_parameters_keep : (i : Input) → Keeps r.Fore (Same r.Fore) r.Back declared_parameters (AllByRecursion (IsAnyType m)) i
    unfolding declared_parameters
    declared_parameters_keep i ns o h f =
        let t = h.3 in
        let a = all r.Back r.Fore (IsAnyType m) ends_parameters declared_parameter declared_parameter_takes parameter_keeps i h.0 h.1 h.2 f in
        let b = dots_pass r h.1 t.0 t.1 t.2 a.0 in (
          subst r.Fore t.3.1 b.0,
          λ back. let c = a.1 (b.1 (subst r.Back (sym t.3.1) back)).0 in (c.0, subst (AllByRecursion (IsAnyType m)) t.3.0 c.1),
        )
