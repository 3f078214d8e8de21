-- The printed shapes of root slots are read as they were printed.
use Rattle.std.proofs.Common.{◌≡◌, ◌≢◌, inl, inr, ◌<◌, ◌≤◌, ◌-◌, ℕ, zero, suc, ◌+◌, Bool, true, false, [], ◌∷◌, ◌++◌, List, length, map, Option, Some, None, is_some, slice_get, unwrap_or, refl, ap, sym, subst, ◌∙◌, append_assoc, length-append, arith}
use Rattle.std.specs.Prelude.{if◌then◌else◌, position}
use Rattle.std.specs.List.{list_all, flat_map}
use Rattle.std.specs.Str.{bytes_eq}
use Rattle.std.proofs.lemmas.Bool.{cases_eq}
use Rattle.std.proofs.lemmas.Grind.{common_steps}
use Rattle.std.proofs.lemmas.List.{length-set}
use Rattle.std.proofs.lemmas.List.Quantifiers.{position-Some}
use Rattle.std.proofs.lemmas.Slice.Eq.{bytes_eq-Decides}
use Rattle.lemmas.specs.Bools.{never_true}
use Rattle.lemmas.specs.Lists.{get_some, get_end, get_front, set_here, set_other}
use Rattle.ir_ast.specs.Names.{name_at, place_of, numbered}
use Rattle.ir_ast.specs.Places.{place_is_end}
use Rattle.ir_ast.specs.Shapes.{shape_if, shape_named}
use Rattle.ir_ast.specs.declared.function.Function.{Function}
use Rattle.ir_ast.specs.declared.items_of_module.SymbolSort.{SymbolSort}
use Rattle.ir_ast.specs.declared.items_of_module.SymbolSort.TheVariants as sort
use Rattle.ir_ast.specs.declared.module.Module.{Module}
use Rattle.ir_ast.specs.declared.shapes.RootShapes.{RootShapes}
use Rattle.ir_ast.specs.declared.shapes.Shapes.{Shapes}
use Rattle.ir_tokens.specs.Bytes.{Text}
use Rattle.name_text.specs.Equal.{same_bytes}
use Rattle.name_text.specs.Reader.{recorded}
use Rattle.name_text.specs.Words.{past_lines}
use Rattle.certs.specs.Fits.{is_value}
use Rattle.certs.specs.RootNames.{root_names}
use Rattle.certs.specs.ShapesFit.{root_row_fits, root_of}
use Rattle.certificate.specs.Input.{Input, shaping}
use Rattle.certificate.specs.Named.{IsNamed, IsNamedFunction}
use Rattle.certificate.specs.ShapeDrafts.{no_roots, roots_at, with_root, with_root_shape, has_root_shape, is_root_slot}
use Rattle.certificate.specs.ShapesPrint.{slot_text, slots_text, roots_text}
use Rattle.certificate.specs.declared.shape_draft.ShapeDraft.{ShapeDraft}
use Rattle.certificate.proofs.CertShapes.{all_at, map_at}
use Rattle.certificate.proofs.PrintedRows.{Chain, chain_one, chain_then}
use Rattle.certificate.proofs.PrintedShapeGlobals.{target_of}
use Rattle.certificate.proofs.PrintedShapeLines.{root_on}
use Rattle.certificate.proofs.PrintedShapeWords.{from_zero}
use Rattle.certificate.proofs.ReadShapes.{IsTarget}

-- ---- tables of names

module _ {X : Type 0} (p : X → Bool) where
  place_other : (xs : List X) (y : X) → p y ≡ false → position p (xs ++ y ∷ []) ≡ position p xs
  place_other xs y e = grind (arith, common_steps)

  place_here : (xs : List X) (y : X) → position p xs ≡ None → p y ≡ true → position p (xs ++ y ∷ []) ≡ Some (length xs)
  place_here xs y none e = let end = place_is_end p xs none in grind (arith, common_steps)

-- a new name comes after the others
new_name : (key : Text) (names : List Text) → place_of key names ≡ None → numbered key names ≡ names ++ key ∷ []
new_name key names none = ap (λ (x : Option ℕ). if is_some x then names else names ++ key ∷ []) none

-- the shape of a new name
named_here : (key : Text) (target : ℕ) (r : RootShapes) → length r.names ≡ length r.layouts → place_of key r.names ≡ None → shape_named (Some (with_root key target r)) key ≡ Some target
named_here key target r even none =
    let place : place_of key (r.names ++ key ∷ []) ≡ Some (length r.layouts) = place_here (bytes_eq key) r.names key none (same_bytes key) ∙ ap (λ (x : ℕ). Some x) even in
    ap (λ x. shape_if (r.layouts ++ Some target ∷ []) (place_of key x)) (new_name key r.names none) ∙ ap (shape_if (r.layouts ++ Some target ∷ [])) place ∙ ap (λ (x : Option (Option ℕ)). unwrap_or x None) (get_end r.layouts (Some target))

-- that of another name stays
named_other : (key other : Text) (target : ℕ) (r : RootShapes) → length r.names ≡ length r.layouts → place_of key r.names ≡ None → bytes_eq other key ≡ false → shape_named (Some (with_root key target r)) other ≡ shape_named (Some r) other
named_other key other target r even none apart =
    ap (λ x. shape_if (r.layouts ++ Some target ∷ []) (place_of other x)) (new_name key r.names none) ∙ ap (shape_if (r.layouts ++ Some target ∷ [])) (place_other (bytes_eq other) r.names key apart) ∙ by (place_of other r.names) refl
  where
    by : (place : Option ℕ) → place_of other r.names ≡ place → shape_if (r.layouts ++ Some target ∷ []) place ≡ shape_if r.layouts place
    by None e = refl
    by (Some k) e =
        let inside = (position-Some (bytes_eq other) r.names k [] e).0 in
        let there = get_some r.layouts k (omega (arith, inside, even)) in
        ap (λ (x : Option (Option ℕ)). unwrap_or x None) (get_front r.layouts (Some target ∷ []) k there.0 there.1 ∙ sym there.1)

-- ---- the slots of a function

-- what is read so far but for the slots
abbrev pub but_roots : ShapeDraft → ShapeDraft
but_roots d = record d { shapes = record d.shapes { roots = [] } }

abbrev pub roots_in : Input → List RootShapes
roots_in i = i.read.shapes.shapes.roots

-- the slots of a function that are the next text
pub record SlotsOn (m : Module) (shapes : Shapes) (f : Function) (n : ℕ) (slots : List Bool) (i : Input) (t : Text) : Type 0 where
  pub out : Input
  pub chain : Chain m i (slots_text m shapes f n slots) t out
  pub rest : but_roots i.read.shapes ≡ but_roots out.read.shapes
  pub own : (k : ℕ) → slice_get slots k ≡ Some true → root_of out.read.shapes.shapes f (n + k) ≡ root_of shapes f (n + k)
  pub before : (k : ℕ) → k < n → k < length f.locals → root_of out.read.shapes.shapes f k ≡ root_of i.read.shapes.shapes f k
  pub other : (symbol : ℕ) → symbol ≢ f.symbol → slice_get (roots_in out) symbol ≡ slice_get (roots_in i) symbol
  pub wide : length (roots_in out) ≡ length (roots_in i)

-- a slot that can be read
pub record SlotRead (m : Module) (shapes : Shapes) (function : ℕ) (f : Function) (slot : ℕ) (i : Input) : Type 0 where
  pub within : slot < length f.locals
  pub value : is_value f slot ≡ true
  pub root : is_root_slot i.read.shapes function slot ≡ true
  pub target : ℕ
  pub shape : root_of shapes f slot ≡ Some target
  pub to : IsTarget m target

-- what the slots need to be read
pub record SlotsFree (m : Module) (shapes : Shapes) (function : ℕ) (f : Function) (n : ℕ) (slots : List Bool) (i : Input) : Type 0 where
  pub there : f.symbol < length (roots_in i)
  pub even : length (roots_at (roots_in i) f.symbol).names ≡ length (roots_at (roots_in i) f.symbol).layouts
  pub free : (k : ℕ) → n ≤ k → k < length f.locals → place_of (name_at f.locals k) (roots_at (roots_in i) f.symbol).names ≡ None
  pub each : (k : ℕ) → slice_get slots k ≡ Some true → SlotRead m shapes function f (n + k) i

begins_slots : (m : Module) (shapes : Shapes) (f : Function) (n : ℕ) (slots : List Bool) (t : Text) → past_lines false t ≡ t → past_lines false (slots_text m shapes f n slots ++ t) ≡ slots_text m shapes f n slots ++ t
begins_slots m shapes f n [] t e = e
begins_slots m shapes f n (false ∷ slots) t e = begins_slots m shapes f (n + 1) slots t e
begins_slots m shapes f n (true ∷ slots) t e =
    let more = slots_text m shapes f (n + 1) slots in
    by (root_of shapes f n) more (begins_slots m shapes f (n + 1) slots t e)
  where
    by : (shape : Option ℕ) (more : Text) → past_lines false (more ++ t) ≡ more ++ t → past_lines false ((slot_text m f n shape ++ more) ++ t) ≡ (slot_text m f n shape ++ more) ++ t
    by None more e = e
    by (Some target) more e = refl

module _ (m : Module) (named : IsNamed m) (shapes : Shapes) (function : ℕ) (f : Function) (at_place : slice_get m.functions function ≡ Some f) (own : IsNamedFunction f) where
  -- two local names have two keys
  keys_apart : (k n : ℕ) → k < length f.locals → n < length f.locals → k ≢ n → bytes_eq (name_at f.locals k) (name_at f.locals n) ≡ false
  keys_apart k n k_in n_in ne = never_true (bytes_eq (name_at f.locals k) (name_at f.locals n)) (λ same. ne (one same))
    where
      some_is : (x y : ℕ) → ◌≡◌ {A = Option ℕ} (Some x) (Some y) → x ≡ y
      some_is x y e = cc

      one : bytes_eq (name_at f.locals k) (name_at f.locals n) ≡ true → k ≡ n
      one same =
          let a = get_some f.locals k k_in in
          let b = get_some f.locals n n_in in
          let ka : name_at f.locals k ≡ a.0 = ap (λ (x : Option Text). unwrap_or x []) a.1 in
          let kb : name_at f.locals n ≡ b.0 = ap (λ (x : Option Text). unwrap_or x []) b.1 in
          let keys : a.0 ≡ b.0 = sym ka ∙ (bytes_eq-Decides (name_at f.locals k) (name_at f.locals n)).0 same ∙ kb in
          some_is k n (sym (own.names k a.0 a.1).1 ∙ ap (λ x. place_of x f.locals) keys ∙ (own.names n b.0 b.1).1)

  pub slots_on : (slots : List Bool) (n : ℕ) (i : Input) (t : Text) → SlotsFree m shapes function f n slots i → past_lines false t ≡ t → SlotsOn m shapes f n slots i t
  unfolding with_root_shape shaping
  slots_on [] n i t free e = record { out = i; chain = ([], refl); rest = refl; own = λ k there. absurd (none_true there); before = λ k lt within. refl; other = λ symbol ne. refl; wide = refl }
    where
      none_true : ◌≡◌ {A = Option Bool} None (Some true) → ⊥
      none_true e = cc
  slots_on (false ∷ slots) n i t free e =
      let next = (λ (k : ℕ). (let z : n + suc k ≡ (n + 1) + k = omega arith in z)) in
      let more = slots_on slots (n + 1) i t (record {
        there = free.there;
        even = free.even;
        free = λ k le within. free.free k (omega (arith, le)) within;
        each = λ k there. subst (λ x. SlotRead m shapes function f x i) (next k) (free.each (suc k) there);
      }) e in
      record {
        out = more.out;
        chain = more.chain;
        rest = more.rest;
        own = λ k there. own_at more k there;
        before = λ k lt within. more.before k (omega (arith, lt)) within;
        other = more.other;
        wide = more.wide;
      }
    where
      own_at : (more : SlotsOn m shapes f (n + 1) slots i t) (k : ℕ) → slice_get (false ∷ slots) k ≡ Some true → root_of more.out.read.shapes.shapes f (n + k) ≡ root_of shapes f (n + k)
      own_at more zero there = absurd cc
      own_at more (suc k) there = (let z : n + suc k ≡ (n + 1) + k = omega arith in subst (λ x. root_of more.out.read.shapes.shapes f x ≡ root_of shapes f x) (sym z) (more.own k there))
  slots_on (true ∷ slots) n i t free e =
      let z0 : n + 0 ≡ n = omega arith in
      let next = (λ (k : ℕ). (let z : n + suc k ≡ (n + 1) + k = omega arith in z)) in
      let slot : SlotRead m shapes function f n i = subst (λ x. SlotRead m shapes function f x i) z0 (free.each 0 refl) in
      let old = roots_at (roots_in i) f.symbol in
      let key = name_at f.locals n in
      let none = free.free n (omega arith) slot.within in
      let was : slice_get (roots_in i) f.symbol ≡ Some old = (let x = get_some (roots_in i) f.symbol free.there in x.1 ∙ ap (λ (r : RootShapes). Some r) (sym (ap (λ (y : Option RootShapes). unwrap_or y no_roots) x.1))) in
      let rest = slots_text m shapes f (n + 1) slots in
      let o : Input = recorded (shaping (with_root_shape f n slot.target)) i in
      let here : slice_get (roots_in o) f.symbol ≡ Some (with_root key slot.target old) = set_here (roots_in i) f.symbol (with_root key slot.target old) free.there in
      let now : roots_at (roots_in o) f.symbol ≡ with_root key slot.target old = ap (λ (y : Option RootShapes). unwrap_or y no_roots) here in
      let unread : has_root_shape i.read.shapes f n ≡ false = ap (λ x. is_some (shape_named x key)) was ∙ ap (λ x. is_some (shape_if old.layouts x)) none in
      let text : slot_text m f n (root_of shapes f n) ≡ slot_text m f n (Some slot.target) = ap (slot_text m f n) slot.shape in
      let one = root_on m named i function f n slot.target (rest ++ t) at_place slot.value slot.to slot.root unread (begins_slots m shapes f (n + 1) slots t e) in
      let first = chain_one m i o (slot_text m f n (Some slot.target)) (rest ++ t) one.0 one.1 in
      let stays : (k : ℕ) → k ≢ n → k < length f.locals → root_of o.read.shapes.shapes f k ≡ root_of i.read.shapes.shapes f k = λ k ne within.
      ap (λ x. shape_named x (name_at f.locals k)) here ∙ named_other key (name_at f.locals k) slot.target old free.even none (keys_apart k n within slot.within ne) ∙ ap (λ x. shape_named x (name_at f.locals k)) (sym was) in
      let given : root_of o.read.shapes.shapes f n ≡ Some slot.target = ap (λ x. shape_named x key) here ∙ named_here key slot.target old free.even none in
      let names : (with_root key slot.target old).names ≡ old.names ++ key ∷ [] = new_name key old.names none in
      let more = slots_on slots (n + 1) o t (record {
        there = omega (arith, free.there, length-set (roots_in i) f.symbol (with_root key slot.target old));
        even = ap (λ (r : RootShapes). length r.names) now ∙ omega (arith, free.even, ap length names, length-append old.names (key ∷ []), length-append old.layouts (Some slot.target ∷ [])) ∙ sym (ap (λ (r : RootShapes). length r.layouts) now);
        free = λ k le within. (let ne : k ≢ n = λ e. omega (arith, e, le) in
            ap (λ (r : RootShapes). place_of (name_at f.locals k) r.names) now ∙ ap (place_of (name_at f.locals k)) names ∙ place_other (bytes_eq (name_at f.locals k)) old.names key (keys_apart k n within slot.within ne) ∙ free.free k (omega (arith, le)) within);
        each = λ k there. (let s = subst (λ x. SlotRead m shapes function f x i) (next k) (free.each (suc k) there) in
            record { within = s.within; value = s.value; root = s.root; target = s.target; shape = s.shape; to = s.to });
      }) e in
      record {
        out = more.out;
        chain = chain_then m i o more.out (slot_text m f n (root_of shapes f n)) rest t (subst (λ x. Chain m i x (rest ++ t) o) (sym text) first) more.chain;
        rest = more.rest;
        own = λ k there. own_at more (more.before n (omega arith) slot.within ∙ given ∙ sym slot.shape) k there;
        before = λ k lt within. (let ne : k ≢ n = λ e. omega (arith, e, lt) in more.before k (omega (arith, lt)) within ∙ stays k ne within);
        other = λ symbol ne. more.other symbol ne ∙ set_other (roots_in i) f.symbol symbol (with_root key slot.target old) ne;
        wide = more.wide ∙ length-set (roots_in i) f.symbol (with_root key slot.target old);
      }
    where
      own_at : {o : Input} (more : SlotsOn m shapes f (n + 1) slots o t) → root_of more.out.read.shapes.shapes f n ≡ root_of shapes f n → (k : ℕ) → slice_get (true ∷ slots) k ≡ Some true → root_of more.out.read.shapes.shapes f (n + k) ≡ root_of shapes f (n + k)
      own_at more first zero there = (let z : n + 0 ≡ n = omega arith in subst (λ x. root_of more.out.read.shapes.shapes f x ≡ root_of shapes f x) (sym z) first)
      own_at more first (suc k) there = (let z : n + suc k ≡ (n + 1) + k = omega arith in subst (λ x. root_of more.out.read.shapes.shapes f x ≡ root_of shapes f x) (sym z) (more.own k there))

-- ---- the slots of all functions

-- the slots of functions that are the next text
pub record RootsOn (m : Module) (shapes : Shapes) (n : ℕ) (fs : List Function) (i : Input) (t : Text) : Type 0 where
  pub out : Input
  pub chain : Chain m i (flat_map (roots_text m shapes) fs) t out
  pub rest : but_roots i.read.shapes ≡ but_roots out.read.shapes
  pub own : (k : ℕ) (f : Function) → n ≤ k → slice_get m.functions k ≡ Some f → (slot : ℕ) → slice_get (root_names m f) slot ≡ Some true → root_of out.read.shapes.shapes f slot ≡ root_of shapes f slot
  pub other : (symbol : ℕ) → ((k : ℕ) (f : Function) → n ≤ k → slice_get m.functions k ≡ Some f → symbol ≢ f.symbol) → slice_get (roots_in out) symbol ≡ slice_get (roots_in i) symbol

-- what they need to be read
pub record RootsFree (m : Module) (n : ℕ) (i : Input) : Type 0 where
  pub slots : i.read.shapes.slots ≡ map (root_names m) m.functions
  pub there : (k : ℕ) (f : Function) → slice_get m.functions k ≡ Some f → f.symbol < length (roots_in i)
  pub fresh : (k : ℕ) (f : Function) → n ≤ k → slice_get m.functions k ≡ Some f → slice_get (roots_in i) f.symbol ≡ Some no_roots

-- each root slot is a value and has a shape
pub record AreRooted (m : Module) (shapes : Shapes) : Type 0 where
  pub values : (k : ℕ) (f : Function) → slice_get m.functions k ≡ Some f → (slot : ℕ) → slice_get (root_names m f) slot ≡ Some true → is_value f slot ≡ true
  pub given : (k : ℕ) (f : Function) → slice_get m.functions k ≡ Some f → (slot : ℕ) → slice_get (root_names m f) slot ≡ Some true → is_some (root_of shapes f slot) ≡ true
  pub fit : list_all (root_row_fits m) shapes.roots ≡ true

pub begins_roots : (m : Module) (shapes : Shapes) (fs : List Function) (t : Text) → past_lines false t ≡ t → past_lines false (flat_map (roots_text m shapes) fs ++ t) ≡ flat_map (roots_text m shapes) fs ++ t
begins_roots m shapes [] t e = e
begins_roots m shapes (f ∷ fs) t e =
    let more = flat_map (roots_text m shapes) fs in
    let same = append_assoc (roots_text m shapes f) more t in
    ap (past_lines false) same ∙ begins_slots m shapes f 0 (root_names m f) (more ++ t) (begins_roots m shapes fs t e) ∙ sym same

-- what a slot refers to is a layout
root_target : (m : Module) (shapes : Shapes) (f : Function) (slot target : ℕ) → list_all (root_row_fits m) shapes.roots ≡ true → root_of shapes f slot ≡ Some target → IsTarget m target
root_target m shapes f slot target fit e = by (slice_get shapes.roots f.symbol) refl e
  where
    by_place : (r : RootShapes) (place : Option ℕ) → root_row_fits m r ≡ true → shape_if r.layouts place ≡ Some target → IsTarget m target
    by_place r None fits e = absurd cc
    by_place r (Some k) fits e = target_of m r.layouts k target fits e

    by : (row : Option RootShapes) → slice_get shapes.roots f.symbol ≡ row → shape_named row (name_at f.locals slot) ≡ Some target → IsTarget m target
    by None is e = absurd cc
    by (Some r) is e = by_place r (place_of (name_at f.locals slot) r.names) (all_at (root_row_fits m) shapes.roots f.symbol r fit is) e

module _ (m : Module) (named : IsNamed m) (shapes : Shapes) (rooted : AreRooted m shapes) where
  one_function : (one other : ℕ) (a b : Function) → slice_get m.functions one ≡ Some a → slice_get m.functions other ≡ Some b → a.symbol ≡ b.symbol → one ≡ other
  one_function one other a b here there e = some_is one other (sym (named.functions one a here).1 ∙ ap (slice_get m.sorts) e ∙ (named.functions other b there).1)
    where
      some_is : (x y : ℕ) → ◌≡◌ {A = Option SymbolSort} (Some (sort.Defined x)) (Some (sort.Defined y)) → x ≡ y
      some_is x y e = cc

  function_on : (n : ℕ) (f : Function) → slice_get m.functions n ≡ Some f → (i : Input) (t : Text) → RootsFree m n i → past_lines false t ≡ t → SlotsOn m shapes f 0 (root_names m f) i t
  function_on n f here i t free e =
      let own = (named.functions n f here).2 in
      let none : roots_at (roots_in i) f.symbol ≡ no_roots = ap (λ (y : Option RootShapes). unwrap_or y no_roots) (free.fresh n f (omega arith) here) in
      let table : slice_get i.read.shapes.slots n ≡ Some (root_names m f) = ap (λ x. slice_get x n) free.slots ∙ map_at (root_names m) m.functions n f here in
      slots_on m named shapes n f here own (root_names m f) 0 i t (record {
        there = free.there n f here;
        even = ap (λ (r : RootShapes). length r.names) none ∙ sym (ap (λ (r : RootShapes). length r.layouts) none);
        free = λ k le within. ap (λ (r : RootShapes). place_of (name_at f.locals k) r.names) none;
        each = λ k is. subst (λ x. SlotRead m shapes n f x i) (from_zero k) (slot_read n f here i own table k is);
      }) e
    where
      some_in : (x : Option ℕ) → is_some x ≡ true → (target : ℕ) × (x ≡ Some target)
      some_in None e = absurd cc
      some_in (Some target) e = (target, refl)

      slot_read : (n : ℕ) (f : Function) → slice_get m.functions n ≡ Some f → (i : Input) → IsNamedFunction f → slice_get i.read.shapes.slots n ≡ Some (root_names m f) → (k : ℕ) → slice_get (root_names m f) k ≡ Some true → SlotRead m shapes n f k i
      slot_read n f here i own table k is =
          let value = rooted.values n f here k is in
          let to = some_in (root_of shapes f k) (rooted.given n f here k is) in
          record {
            within = own.values k value;
            value = value;
            root = ap (λ (x : Option (List Bool)). unwrap_or (slice_get (unwrap_or x []) k) false) table ∙ ap (λ (x : Option Bool). unwrap_or x false) is;
            target = to.0;
            shape = to.1;
            to = root_target m shapes f k to.0 rooted.fit to.1;
          }

  pub roots_on : (fs : List Function) (n : ℕ) (i : Input) (t : Text) → ((k : ℕ) → slice_get m.functions (n + k) ≡ slice_get fs k) → RootsFree m n i → past_lines false t ≡ t → RootsOn m shapes n fs i t
  roots_on [] n i t place free e = record {
    out = i;
    chain = ([], refl);
    rest = refl;
    own = λ k f le there. absurd (past k f le there);
    other = λ symbol apart. refl;
  }
    where
      none_some : (f : Function) → ◌≡◌ {A = Option Function} None (Some f) → ⊥
      none_some f e = cc

      past : (k : ℕ) (f : Function) → n ≤ k → slice_get m.functions k ≡ Some f → ⊥
      past k f le there = (let z : n + (k - n) ≡ k = omega (arith, le) in none_some f (sym (place (k - n)) ∙ ap (slice_get m.functions) z ∙ there))
  roots_on (f ∷ fs) n i t place free e =
      let here : slice_get m.functions n ≡ Some f = (let z : n ≡ n + 0 = omega arith in ap (slice_get m.functions) z ∙ place 0) in
      let next : (k : ℕ) → slice_get m.functions ((n + 1) + k) ≡ slice_get fs k = λ k. (let z : (n + 1) + k ≡ n + suc k = omega arith in ap (slice_get m.functions) z ∙ place (suc k)) in
      let after = flat_map (roots_text m shapes) fs in
      let one = function_on n f here i (after ++ t) free (begins_roots m shapes fs t e) in
      let apart : (k : ℕ) (x : Function) → n + 1 ≤ k → slice_get m.functions k ≡ Some x → x.symbol ≢ f.symbol = λ k x le there same. (let z = one_function k n x f there here same in omega (arith, le, z)) in
      let more = roots_on fs (n + 1) one.out t next (record {
        slots = sym (ap (λ (d : ShapeDraft). d.slots) one.rest) ∙ free.slots;
        there = λ k x there. (let was = free.there k x there in omega (arith, was, one.wide));
        fresh = λ k x le there. one.other x.symbol (apart k x le there) ∙ free.fresh k x (omega (arith, le)) there;
      }) e in
      record {
        out = more.out;
        chain = chain_then m i one.out more.out (roots_text m shapes f) after t one.chain more.chain;
        rest = one.rest ∙ more.rest;
        own = λ k x le there slot is. own_at one more apart here k x le there slot is;
        other = λ symbol none. more.other symbol (λ k x le there. none k x (omega (arith, le)) there) ∙ one.other symbol (none n f (omega arith) here);
      }
    where
      same_function : (a b : Function) → ◌≡◌ {A = Option Function} (Some a) (Some b) → a ≡ b
      same_function a b e = cc

      own_at : (one : SlotsOn m shapes f 0 (root_names m f) i (flat_map (roots_text m shapes) fs ++ t)) (more : RootsOn m shapes (n + 1) fs one.out t)
          → ((k : ℕ) (x : Function) → n + 1 ≤ k → slice_get m.functions k ≡ Some x → x.symbol ≢ f.symbol) → slice_get m.functions n ≡ Some f
          → (k : ℕ) (x : Function) → n ≤ k → slice_get m.functions k ≡ Some x → (slot : ℕ) → slice_get (root_names m x) slot ≡ Some true → root_of more.out.read.shapes.shapes x slot ≡ root_of shapes x slot
      own_at one more apart here k x le there slot is = elim (cases_eq k n) [
        | inl same ↦ (let is_f : x ≡ f = same_function x f (sym there ∙ ap (slice_get m.functions) same ∙ here) in
            subst (λ (y : Function). root_of more.out.read.shapes.shapes y slot ≡ root_of shapes y slot) (sym is_f)
            (ap (λ y. shape_named y (name_at f.locals slot)) (more.other f.symbol (λ other y lo at e. apart other y lo at (sym e)))
            ∙ subst (λ y. root_of one.out.read.shapes.shapes f y ≡ root_of shapes f y) (sym (from_zero slot)) (one.own slot (subst (λ (y : Function). slice_get (root_names m y) slot ≡ Some true) is_f is))))
        | inr ne ↦ more.own k x (omega (arith, le, ne)) there slot is
      ]
