-- Defined functions, as they are read.
use Rattle.std.proofs.Common.{◌≡◌, ◌<◌, ◌≤◌, ℕ, Bool, true, false, List, [], length, Option, None, refl, sym, subst, arith, ◌⊎◌}
use Rattle.grammar.specs.Grammar.{pure, step}
use Rattle.ir_ast.specs.declared.block.Block.{Block}
use Rattle.ir_ast.specs.declared.function.Function.{Function}
use Rattle.ir_ast.specs.declared.function.Parameter.{Parameter}
use Rattle.ir_ast.specs.declared.module.Module.{Module}
use Rattle.ir_tokens.specs.Bytes.{Text}
use Rattle.ir_tokens.specs.declared.token.Kind.{Kind}
use Rattle.ir_tokens.specs.declared.token.Kind.TheVariants as k
use Rattle.ir_forms.specs.Cursor.{kind, sees, spelled}
use Rattle.ir_forms.specs.Table.{empty}
use Rattle.ir_forms.specs.declared.input.Input.{Input}
use Rattle.ir_forms.specs.Input.{unexpected, advanced, advanced_falls, expect}
use Rattle.ir_forms.specs.Names.{quoted, first_missing}
use Rattle.ir_forms.specs.Decorations.{either}
use Rattle.ir_forms.specs.declared.decorating.Spot.{Spot}
use Rattle.ir_forms.specs.declared.decorating.Spot.TheVariants as spot
use Rattle.ir_text.specs.Blocks.{blocks}
use Rattle.ir_text.specs.ItemsOfText.{collector_name, collector, head_end, open_body_by, open_body}
use Rattle.ir_text.specs.Parameters.{parameters}
use Rattle.name_text.specs.Readings.{AreBytes}
use Rattle.ir_print_law.specs.FunctionNames.{HasNames}
use Rattle.ir_print_law.specs.Parts.{IsVoid}
use Rattle.std.specs.List.{AllByRecursion}
use Rattle.ir_print_law.specs.Printable.{IsPassed, IsParameter, IsCollector, IsBlock, IsFunction}
use Rattle.ir_print_law.proofs.Blocks.{with_blocks, with_parameters, blocks_keep, parameters_keep}
use Rattle.ir_print_law.proofs.Decorations.{decorations_pass}
use Rattle.ir_print_law.proofs.Forms.{Keeps, Same, stepped, where_true}
use Rattle.ir_print_law.proofs.FunctionEnds.{nothing, whole_of, function_defined, function_values}
use Rattle.ir_print_law.proofs.FunctionNamed.{builder}
use Rattle.ir_print_law.proofs.FunctionNames.{function_names}
use Rattle.ir_print_law.proofs.FunctionPlaces.{Places, AreFirst}
use Rattle.ir_print_law.proofs.FunctionState.{Holds}
use Rattle.ir_print_law.proofs.LocalNames.{Locals}
use Rattle.ir_print_law.proofs.Outside.{Outside}
use Rattle.ir_print_law.proofs.ParametersRead.{parameters_unused, expect_unused}
use Rattle.ir_print_law.proofs.Passes.{Passes, skip_passes, expect_passes, look_passes, refuse_passes}
use Rattle.ir_print_law.proofs.Progresses.{parameters_labels}
use Rattle.ir_print_law.proofs.Reading.{Reading, within_of}
use Rattle.ir_print_law.proofs.Tables.{Begins, begins_itself}
use Rattle.ir_print_law.proofs.Uses.{local_right}

module _ {m : Module} (r : Reading m) where
  quoted_keeps : (i : Input) → Keeps r.Fore (Same r.Fore) r.Back quoted AreBytes i
  unfolding quoted
  quoted_keeps i =
      where_true r.Back r.Fore (Same r.Fore) AreBytes (λ i. sees k.Quoted i.cursor) unexpected (step (λ i. spelled i.cursor) advanced advanced_falls) i
      (λ e. stepped r.Back r.Fore (Same r.Fore) AreBytes (λ i. spelled i.cursor) advanced advanced_falls i
      (λ fore. (r.on_token i fore, λ back. let before = r.from_token i back in (before, r.bytes i fore before))))

  collector_keeps : (i : Input) → Keeps r.Fore (Same r.Fore) r.Back collector IsCollector i
  unfolding collector
  collector_keeps i = by (sees k.Gc i.cursor) where
    by : (t : Bool) → Keeps r.Fore (Same r.Fore) r.Back (either collector_name (pure None) t) IsCollector i
    by true c o h fore =
        let parts = h.2 in
        let a = skip_passes r i parts.0 parts.1 parts.2 fore in
        let b = quoted_keeps parts.1 h.0 h.1 parts.3 a.0 in (
          subst r.Fore h.3.1 b.0,
          λ back.
              let bb = b.1 (subst r.Back (sym h.3.1) back) in
              ((a.1 bb.0).0, subst IsCollector h.3.0 bb.1),
        )
    by false c o h fore = (subst r.Fore h.1 fore, λ back. (subst r.Back (sym h.1) back, subst IsCollector h.0 tt))

  -- what follows the parameters of a function
  pub head_end_keeps : (s : Spot) (i : Input) → Keeps r.Fore (Same r.Fore) r.Back (head_end s) IsCollector i
  unfolding head_end
  head_end_keeps s i c o h fore =
      let t = h.3 in
      let u = t.3 in
      let a = decorations_pass r s i h.0 h.1 h.2 fore in
      let b = collector_keeps h.1 t.0 t.1 t.2 a.0 in
      let d = decorations_pass r s t.1 u.0 u.1 u.2 b.0 in (
        subst r.Fore u.3.1 d.0,
        λ back.
            let db = d.1 (subst r.Back (sym u.3.1) back) in
            let bb = b.1 db.0 in
            ((a.1 bb.0).0, subst IsCollector u.3.0 bb.1),
      )

  pub open_body_passes : Passes r open_body
  unfolding open_body
  open_body_passes = look_passes r (λ i. kind i.cursor) open_body_by by where
    by : (x : Kind) → Passes r (open_body_by x)
    by k.OpenBrace = skip_passes r
    by _ = refuse_passes r unexpected

-- before a function nothing is named
none_named : Locals nothing None empty 0
none_named = record {
  same = refl;
  places = λ n key there. absurd cc;
  within = λ n there. absurd there;
  defines = refl;
  sorted = λ n sort there. absurd cc;
  known = λ n there. absurd there;
}

no_places : Places nothing None empty []
no_places = record {
  value_names = λ n there. there;
  label_names = λ n there. there;
  apart = λ n is there. there;
  disjoint = λ n is there. there;
  labels = λ b n e. absurd cc;
  covered = λ n less. absurd (omega (arith, less));
  first = λ none. (refl, λ place n e. absurd cc);
}

begins_here : {m : Module} (w : Outside m) (i : Input) → i.locals ≡ empty → i.local_uses ≡ [] → i.values ≡ 0 → i.unnamed ≡ 0 → w.reading.Fore i → Holds m w nothing None i
begins_here w i locals uses values unnamed fore = record {
  outside = fore;
  names = subst (λ (n : ℕ). Locals nothing None i.locals n) (sym unnamed) (subst (λ t. Locals nothing None t 0) (sym locals) none_named);
  count = values;
  few = omega arith;
  numbers = omega (arith, unnamed);
  places = subst (Places nothing None i.locals) (sym uses) (subst (λ t. Places nothing None t []) (sym locals) no_places);
}

-- the parameters and blocks of a function after its name, where none of its own names is read so far, up to the brace that closes it; its local names may have more after them
pub function_parts : {m : Module} (w : Outside m) (f : Function) (i i1 i2 i3 i4 i5 i6 o : Input)
    → (expect k.OpenRound).says i tt i1 → parameters.says i1 f.parameters i2 → (expect k.CloseRound).says i2 tt i3 → (head_end spot.Defined).says i3 f.collector i4
    → open_body.says i4 tt i5 → blocks.says i5 f.blocks i6 → (expect k.CloseBrace).says i6 tt o
    → i.locals ≡ empty → i.local_uses ≡ [] → i.values ≡ 0 → i.unnamed ≡ 0 → Begins o.locals.names f.locals → w.reading.Fore i
    → (Holds m w (whole_of f) None o × AreFirst (with_parameters nothing f.parameters).names (length i2.locals.names))
    × (first_missing o.locals o.local_uses ≡ None → w.reading.Back o → w.reading.Back i × AllByRecursion (IsParameter m) f.parameters × IsCollector f.collector
    × (0 < length f.blocks) × (length f.blocks ≤ 65535) × AllByRecursion (IsBlock m f) f.blocks)
function_parts w f i i1 i2 i3 i4 i5 i6 o s1 s2 s3 s4 s5 s6 s7 locals uses values unnamed begins fore =
    let ps = f.parameters in
    let bs = f.blocks in
    let b = builder w f o.locals o.unnamed in
    let g = with_parameters nothing ps in
    let r = (within_of (b.kit g)).reading in
    let a1 = expect_passes (within_of (b.kit nothing)).reading k.OpenRound i tt i1 s1 (begins_here w i locals uses values unnamed fore) in
    let a2 = parameters_keep b nothing i1 ps i2 s2 a1.0 in
    let a3 = expect_passes r k.CloseRound i2 tt i3 s3 a2.0 in
    let a4 = head_end_keeps r spot.Defined i3 f.collector i4 s4 a3.0 in
    let a5 = open_body_passes r i4 tt i5 s5 a4.0 in
    let a6 = blocks_keep b g i5 (parameters_labels nothing ps) bs i6 s6 a5.0 in
    let a7 = expect_passes (within_of (b.kit (with_blocks g bs))).reading k.CloseBrace i6 tt o s7 a6.0 in
    let end = a7.0 in
    let unused = parameters_unused w i1 ps i2 s2 a1.0.outside (expect_unused w k.OpenRound i tt i1 s1 fore uses) in (
      (end, a2.0.places.first unused),
      λ missing back.
          let b7 = a7.1 (record { outside = back; begins = begins; right = local_right o.locals o.local_uses missing; names = end.names }) in
          let b6 = a6.1 b7.0 in
          let b5 = a5.1 b6.0 in
          let b4 = a4.1 b5.0 in
          let b3 = a3.1 b4.0 in
          let b2 = a2.1 b3.0 in
          let b1 = a1.1 b2.0 in
          (b1.0.outside, b2.1, b4.1, b6.1.0, b6.1.1, b6.1.2),
    )

-- what is read is a function
function_all : {m : Module} (w : Outside m) (symbol returned : ℕ) (ps : List Parameter) (c : Option Text) (bs : List Block) (i i1 i2 i3 i4 i5 i6 o : Input)
    → (expect k.OpenRound).says i tt i1 → parameters.says i1 ps i2 → (expect k.CloseRound).says i2 tt i3 → (head_end spot.Defined).says i3 c i4
    → open_body.says i4 tt i5 → blocks.says i5 bs i6 → (expect k.CloseBrace).says i6 tt o
    → i.locals ≡ empty → i.local_uses ≡ [] → i.values ≡ 0 → i.unnamed ≡ 0 → w.reading.Fore i
    → (Holds m w (with_blocks (with_parameters nothing ps) bs) None o × AreFirst (with_parameters nothing ps).names (length i2.locals.names))
    × (first_missing o.locals o.local_uses ≡ None → w.reading.Back o → w.reading.Back i
    × (IsVoid m returned ⊎ IsPassed m returned
    → IsFunction m (record { symbol = symbol; returned = returned; parameters = ps; collector = c; locals = o.locals.names; sorts = o.locals.sorts; blocks = bs })))
function_all w symbol returned ps c bs i i1 i2 i3 i4 i5 i6 o s1 s2 s3 s4 s5 s6 s7 locals uses values unnamed fore =
    let f : Function = record { symbol = symbol; returned = returned; parameters = ps; collector = c; locals = o.locals.names; sorts = o.locals.sorts; blocks = bs } in
    let x = function_parts w f i i1 i2 i3 i4 i5 i6 o s1 s2 s3 s4 s5 s6 s7 locals uses values unnamed (begins_itself o.locals.names) fore in
    let end = x.0.0 in (
      x.0,
      λ missing back.
          let y = x.1 missing back in (
            y.0,
            λ is_returned. record {
              returned = is_returned;
              parameters = y.1;
              collector = y.2;
              definitions = function_defined f o.locals o.unnamed refl end.names;
              values = (let same = function_values f in let few = end.few in subst (λ (n : ℕ). n ≤ 1000000) (sym same) few);
              has_block = y.3;
              few_blocks = y.4;
              blocks = y.5;
            },
          ),
    )

-- the same with what its names mean
pub function_keeps : {m : Module} (w : Outside m) (symbol returned : ℕ) (ps : List Parameter) (c : Option Text) (bs : List Block) (i i1 i2 i3 i4 i5 i6 o : Input)
    → (expect k.OpenRound).says i tt i1 → parameters.says i1 ps i2 → (expect k.CloseRound).says i2 tt i3 → (head_end spot.Defined).says i3 c i4
    → open_body.says i4 tt i5 → blocks.says i5 bs i6 → (expect k.CloseBrace).says i6 tt o
    → i.locals ≡ empty → i.local_uses ≡ [] → i.values ≡ 0 → i.unnamed ≡ 0 → w.reading.Fore i
    → w.reading.Fore o
    × (first_missing o.locals o.local_uses ≡ None → w.reading.Back o → w.reading.Back i
    × (IsVoid m returned ⊎ IsPassed m returned
    → IsFunction m (record { symbol = symbol; returned = returned; parameters = ps; collector = c; locals = o.locals.names; sorts = o.locals.sorts; blocks = bs })
    × HasNames (record { symbol = symbol; returned = returned; parameters = ps; collector = c; locals = o.locals.names; sorts = o.locals.sorts; blocks = bs })))
function_keeps {m = m} w symbol returned ps c bs i i1 i2 i3 i4 i5 i6 o s1 s2 s3 s4 s5 s6 s7 locals uses values unnamed fore =
    let f : Function = record { symbol = symbol; returned = returned; parameters = ps; collector = c; locals = o.locals.names; sorts = o.locals.sorts; blocks = bs } in
    let x = function_all w symbol returned ps c bs i i1 i2 i3 i4 i5 i6 o s1 s2 s3 s4 s5 s6 s7 locals uses values unnamed fore in (
      x.0.0.outside,
      λ missing back.
          let y = x.1 missing back in
          let right = local_right o.locals o.local_uses missing in
          (y.0, λ is. (y.1 is, function_names f o.local_uses o.unnamed (length i2.locals.names) x.0.0.numbers x.0.0.names x.0.0.places right x.0.1)),
    )

-- the same without what its names mean
pub function_is : {m : Module} (w : Outside m) (symbol returned : ℕ) (ps : List Parameter) (c : Option Text) (bs : List Block) (i i1 i2 i3 i4 i5 i6 o : Input)
    → (expect k.OpenRound).says i tt i1 → parameters.says i1 ps i2 → (expect k.CloseRound).says i2 tt i3 → (head_end spot.Defined).says i3 c i4
    → open_body.says i4 tt i5 → blocks.says i5 bs i6 → (expect k.CloseBrace).says i6 tt o
    → i.locals ≡ empty → i.local_uses ≡ [] → i.values ≡ 0 → i.unnamed ≡ 0 → w.reading.Fore i
    → w.reading.Fore o
    × (first_missing o.locals o.local_uses ≡ None → w.reading.Back o → w.reading.Back i
    × (IsVoid m returned ⊎ IsPassed m returned
    → IsFunction m (record { symbol = symbol; returned = returned; parameters = ps; collector = c; locals = o.locals.names; sorts = o.locals.sorts; blocks = bs })))
function_is w symbol returned ps c bs i i1 i2 i3 i4 i5 i6 o s1 s2 s3 s4 s5 s6 s7 locals uses values unnamed fore =
    let x = function_keeps w symbol returned ps c bs i i1 i2 i3 i4 i5 i6 o s1 s2 s3 s4 s5 s6 s7 locals uses values unnamed fore in
    (x.0, λ missing back. let y = x.1 missing back in (y.0, λ is. (y.1 is).0))
