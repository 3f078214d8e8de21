-- The printed shapes of globals are read as they were printed.
use Rattle.std.proofs.Common.{◌≡◌, ◌≢◌, inl, inr, ◌<◌, ◌≤◌, ◌-◌, ℕ, zero, suc, ◌+◌, Bool, true, false, [], ◌∷◌, ◌++◌, List, length, Option, Some, None, is_some, slice_get, refl, ap, sym, subst, ◌∙◌, append_assoc, arith}
use Rattle.std.specs.Prelude.{if◌then◌else◌, is_none}
use Rattle.std.specs.List.{list_all, flat_map}
use Rattle.std.proofs.lemmas.Bool.{cases_eq}
use Rattle.std.proofs.lemmas.List.{length-set}
use Rattle.lemmas.specs.Bools.{and_first, and_second}
use Rattle.ir_ast.specs.Shapes.{shape_at}
use Rattle.ir_ast.specs.declared.items_of_module.Global.{Global}
use Rattle.ir_ast.specs.declared.items_of_module.SymbolSort.{SymbolSort}
use Rattle.ir_ast.specs.declared.items_of_module.SymbolSort.TheVariants as sort
use Rattle.ir_ast.specs.declared.module.Module.{Module}
use Rattle.ir_ast.specs.declared.shapes.Shapes.{Shapes}
use Rattle.ir_tokens.specs.Bytes.{Text}
use Rattle.types.specs.Globals.{global_named, global_of_sort, held_by, held_in}
use Rattle.types.specs.References.{is_opaque}
use Rattle.name_text.specs.Reader.{recorded}
use Rattle.name_text.specs.Words.{past_lines}
use Rattle.certs.specs.ShapesFit.{shape_fits, row_fits, global_fits}
use Rattle.certificate.specs.Input.{Input, shaping}
use Rattle.certificate.specs.Named.{IsNamed, HasGlobals}
use Rattle.certificate.specs.ShapeDrafts.{is_opaque_global, is_held_opaque, with_global_shape}
use Rattle.certificate.specs.ShapesPrint.{global_line, global_text_if}
use Rattle.certificate.specs.declared.shape_draft.ShapeDraft.{ShapeDraft}
use Rattle.certificate.proofs.CertShapes.{all_at}
use Rattle.certificate.proofs.PrintedRows.{Chain, chain_one, chain_then, put_here, put_other}
use Rattle.certificate.proofs.PrintedShapeLines.{global_on}
use Rattle.certificate.proofs.ReadShapes.{IsTarget}

-- what is read so far but for the globals
abbrev pub but_globals : ShapeDraft → ShapeDraft
but_globals d = record d { shapes = record d.shapes { globals = [] } }

abbrev pub globals_in : Input → List (Option ℕ)
globals_in i = i.read.shapes.shapes.globals

-- the shape of a global that is the next text
record GlobalOn (m : Module) (shapes : Shapes) (g : Global) (i : Input) (t : Text) : Type 0 where
  pub out : Input
  pub chain : Chain m i (global_text_if m shapes g) t out
  pub rest : but_globals i.read.shapes ≡ but_globals out.read.shapes
  pub own : is_opaque m g.held ≡ true → shape_at (globals_in out) g.symbol ≡ shape_at shapes.globals g.symbol
  pub other : (symbol : ℕ) → symbol ≢ g.symbol → shape_at (globals_in out) symbol ≡ shape_at (globals_in i) symbol
  pub wide : length (globals_in out) ≡ length (globals_in i)

-- the shapes of globals that are the next text
pub record GlobalsOn (m : Module) (shapes : Shapes) (n : ℕ) (gs : List Global) (i : Input) (t : Text) : Type 0 where
  pub out : Input
  pub chain : Chain m i (flat_map (global_text_if m shapes) gs) t out
  pub rest : but_globals i.read.shapes ≡ but_globals out.read.shapes
  pub own : (k : ℕ) (g : Global) → n ≤ k → slice_get m.globals k ≡ Some g → is_opaque m g.held ≡ true → shape_at (globals_in out) g.symbol ≡ shape_at shapes.globals g.symbol
  pub other : (symbol : ℕ) → ((k : ℕ) (g : Global) → n ≤ k → slice_get m.globals k ≡ Some g → symbol ≢ g.symbol) → shape_at (globals_in out) symbol ≡ shape_at (globals_in i) symbol

-- what they need to be read
pub record GlobalsFree (m : Module) (n : ℕ) (i : Input) : Type 0 where
  pub room : (k : ℕ) (g : Global) → slice_get m.globals k ≡ Some g → g.symbol < length (globals_in i)
  pub free : (k : ℕ) (g : Global) → n ≤ k → slice_get m.globals k ≡ Some g → shape_at (globals_in i) g.symbol ≡ None

begins_line : (m : Module) (shapes : Shapes) (g : Global) (t : Text) → past_lines false t ≡ t → past_lines false (global_text_if m shapes g ++ t) ≡ global_text_if m shapes g ++ t
begins_line m shapes g t e = by (is_opaque m g.held) (shape_at shapes.globals g.symbol)
  where
    by : (opaque : Bool) (shape : Option ℕ) → past_lines false ((if opaque then global_line m g.symbol shape else []) ++ t) ≡ (if opaque then global_line m g.symbol shape else []) ++ t
    by false shape = e
    by true None = e
    by true (Some target) = refl

pub begins_globals : (m : Module) (shapes : Shapes) (gs : List Global) (t : Text) → past_lines false t ≡ t → past_lines false (flat_map (global_text_if m shapes) gs ++ t) ≡ flat_map (global_text_if m shapes) gs ++ t
begins_globals m shapes [] t e = e
begins_globals m shapes (g ∷ gs) t e =
    let more = flat_map (global_text_if m shapes) gs in
    let same = append_assoc (global_text_if m shapes g) more t in
    ap (past_lines false) same ∙ begins_line m shapes g (more ++ t) (begins_globals m shapes gs t e) ∙ sym same

-- what a row has is a layout
pub target_of : (m : Module) (xs : List (Option ℕ)) (k target : ℕ) → list_all (shape_fits m) xs ≡ true → shape_at xs k ≡ Some target → IsTarget m target
target_of m [] k target all e = absurd cc
target_of m (x ∷ xs) zero target all e = (let same : x ≡ Some target = cc in subst (λ y. shape_fits m y ≡ true) same (and_first (shape_fits m x) (list_all (shape_fits m) xs) all))
target_of m (x ∷ xs) (suc k) target all e = target_of m xs k target (and_second (shape_fits m x) (list_all (shape_fits m) xs) all) e

module _ (m : Module) (named : IsNamed m) (globals : HasGlobals m) (shapes : Shapes) (fit : row_fits m shapes.globals ≡ true) (each : list_all (global_fits m shapes) m.globals ≡ true) where
  one_symbol : (one other : ℕ) (a b : Global) → slice_get m.globals one ≡ Some a → slice_get m.globals other ≡ Some b → a.symbol ≡ b.symbol → one ≡ other
  one_symbol one other a b here there e = some_is one other (sym (globals one a here) ∙ ap (slice_get m.sorts) e ∙ globals other b there)
    where
      some_is : (x y : ℕ) → ◌≡◌ {A = Option SymbolSort} (Some (sort.Global x)) (Some (sort.Global y)) → x ≡ y
      some_is x y e = cc

  held : (k : ℕ) (g : Global) → slice_get m.globals k ≡ Some g → (is_opaque_global m g.symbol ≡ is_opaque m g.held) × (is_some (global_named m g.symbol) ≡ true)
  held k g here = (
    ap (λ (x : Option SymbolSort). is_held_opaque m (held_by m (global_of_sort x))) (globals k g here) ∙ ap (λ (x : Option Global). is_held_opaque m (held_in x)) here,
    ap (λ (x : Option SymbolSort). is_some (global_of_sort x)) (globals k g here),
  )

  one_on : (k : ℕ) (g : Global) → slice_get m.globals k ≡ Some g → (i : Input) (t : Text) → GlobalsFree m k i → past_lines false t ≡ t → GlobalOn m shapes g i t
  unfolding with_global_shape shaping
  one_on k g here i t free e = by (is_opaque m g.held) (shape_at shapes.globals g.symbol) refl refl (all_at (global_fits m shapes) m.globals k g each here)
    where
      nothing : (global_text_if m shapes g ≡ []) → (is_opaque m g.held ≡ true → ⊥) → GlobalOn m shapes g i t
      nothing none never = record {
        out = i;
        chain = subst (λ (x : Text). Chain m i x t i) (sym none) ([], refl);
        rest = refl;
        own = λ opaque. absurd (never opaque);
        other = λ symbol ne. refl;
        wide = refl;
      }

      by : (opaque : Bool) (shape : Option ℕ) → is_opaque m g.held ≡ opaque → shape_at shapes.globals g.symbol ≡ shape → global_fits m shapes g ≡ true → GlobalOn m shapes g i t
      by false shape is has fits = nothing (ap (λ b. if b then global_line m g.symbol (shape_at shapes.globals g.symbol) else []) is) (λ opaque. (let no : true ≡ false = sym opaque ∙ is in cc))
      by true None is has fits =
          (let no : false ≡ true = sym (ap (λ b. if b then is_some (shape_at shapes.globals g.symbol) else is_none (shape_at shapes.globals g.symbol)) is ∙ ap is_some has) ∙ fits in absurd cc)
      by true (Some target) is has fits =
          let facts = held k g here in
          let text : global_text_if m shapes g ≡ global_line m g.symbol (Some target) = ap (λ b. if b then global_line m g.symbol (shape_at shapes.globals g.symbol) else []) is ∙ ap (global_line m g.symbol) has in
          let o : Input = recorded (shaping (with_global_shape g.symbol target)) i in
          let old = globals_in i in
          let one = global_on m named i g.symbol target t facts.1 (target_of m shapes.globals g.symbol target fit has) (facts.0 ∙ is) (ap is_some (free.free k g (omega arith) here)) e in
          record {
            out = o;
            chain = subst (λ (x : Text). Chain m i x t o) (sym text) (chain_one m i o (global_line m g.symbol (Some target)) t one.0 one.1);
            rest = refl;
            own = λ opaque. put_here old g.symbol target (free.room k g here) ∙ sym has;
            other = λ symbol ne. put_other old g.symbol target symbol ne;
            wide = length-set old g.symbol (Some target);
          }

  pub globals_on : (gs : List Global) (n : ℕ) (i : Input) (t : Text) → ((k : ℕ) → slice_get m.globals (n + k) ≡ slice_get gs k) → GlobalsFree m n i → past_lines false t ≡ t → GlobalsOn m shapes n gs i t
  globals_on [] n i t place free e = record {
    out = i;
    chain = ([], refl);
    rest = refl;
    own = λ k g le there. absurd (past k g le there);
    other = λ symbol apart. refl;
  }
    where
      none_some : (g : Global) → ◌≡◌ {A = Option Global} None (Some g) → ⊥
      none_some g e = cc

      past : (k : ℕ) (g : Global) → n ≤ k → slice_get m.globals k ≡ Some g → ⊥
      past k g le there = (let z : n + (k - n) ≡ k = omega (arith, le) in none_some g (sym (place (k - n)) ∙ ap (slice_get m.globals) z ∙ there))
  globals_on (g ∷ gs) n i t place free e =
      let here : slice_get m.globals n ≡ Some g = (let z : n ≡ n + 0 = omega arith in ap (slice_get m.globals) z ∙ place 0) in
      let next : (k : ℕ) → slice_get m.globals ((n + 1) + k) ≡ slice_get gs k = λ k. (let z : (n + 1) + k ≡ n + suc k = omega arith in ap (slice_get m.globals) z ∙ place (suc k)) in
      let after = flat_map (global_text_if m shapes) gs in
      let one = one_on n g here i (after ++ t) free (begins_globals m shapes gs t e) in
      let apart : (k : ℕ) (x : Global) → n + 1 ≤ k → slice_get m.globals k ≡ Some x → x.symbol ≢ g.symbol = λ k x le there same. (let z = one_symbol k n x g there here same in omega (arith, le, z)) in
      let more = globals_on gs (n + 1) one.out t next (record {
        room = λ k x there. (let was = free.room k x there in omega (arith, was, one.wide));
        free = λ k x le there. one.other x.symbol (apart k x le there) ∙ free.free k x (omega (arith, le)) there;
      }) e in
      record {
        out = more.out;
        chain = chain_then m i one.out more.out (global_text_if m shapes g) after t one.chain more.chain;
        rest = one.rest ∙ more.rest;
        own = λ k x le there opaque. own_at one more apart here k x le there opaque;
        other = λ symbol none. more.other symbol (λ k x le there. none k x (omega (arith, le)) there) ∙ one.other symbol (none n g (omega arith) here);
      }
    where
      same_global : (a b : Global) → ◌≡◌ {A = Option Global} (Some a) (Some b) → a ≡ b
      same_global a b e = cc

      own_at : (one : GlobalOn m shapes g i (flat_map (global_text_if m shapes) gs ++ t)) (more : GlobalsOn m shapes (n + 1) gs one.out t)
          → ((k : ℕ) (x : Global) → n + 1 ≤ k → slice_get m.globals k ≡ Some x → x.symbol ≢ g.symbol) → slice_get m.globals n ≡ Some g
          → (k : ℕ) (x : Global) → n ≤ k → slice_get m.globals k ≡ Some x → is_opaque m x.held ≡ true → shape_at (globals_in more.out) x.symbol ≡ shape_at shapes.globals x.symbol
      own_at one more apart here k x le there opaque = elim (cases_eq k n) [
        | inl same ↦ (let is : x ≡ g = same_global x g (sym there ∙ ap (slice_get m.globals) same ∙ here) in
            ap (λ (y : Global). shape_at (globals_in more.out) y.symbol) is
            ∙ more.other g.symbol (λ other y lo place e. apart other y lo place (sym e))
            ∙ one.own (ap (λ (y : Global). is_opaque m y.held) (sym is) ∙ opaque)
            ∙ ap (λ (y : Global). shape_at shapes.globals y.symbol) (sym is))
        | inr ne ↦ more.own k x (omega (arith, le, ne)) there opaque
      ]
