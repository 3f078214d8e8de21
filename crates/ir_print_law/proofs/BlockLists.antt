-- All blocks of a function, up to the brace that closes it.
use Rattle.std.proofs.Common.{◌≡◌, ℕ, ◌+◌, ◌<◌, ◌≤◌, Bool, true, false, ◌&&◌, List, [], ◌∷◌, ◌++◌, length, map, refl, ap, subst, ◌∙◌, arith, append_assoc, length-append, inl, inr, ◌⊎◌}
use Rattle.std.specs.Prelude.{nat_lt}
use Rattle.std.specs.List.{AllByRecursion, flat_map}
use Rattle.std.proofs.lemmas.Bool.Decides.{nat_tests}
use Rattle.ir_ast.specs.declared.block.Block.{Block}
use Rattle.ir_ast.specs.declared.function.Function.{Function}
use Rattle.ir_ast.specs.declared.module.Module.{Module}
use Rattle.ir_tokens.specs.declared.token.Kind.{Kind}
use Rattle.ir_tokens.specs.declared.token.Kind.TheVariants as k
use Rattle.ir_tokens.specs.Bytes.{Text, class_of}
use Rattle.ir_forms.specs.Cursor.{kind, sees}
use Rattle.ir_forms.specs.declared.input.Input.{Input}
use Rattle.ir_forms.specs.ManyWith.{Follows}
use Rattle.ir_text.specs.Blocks.{further, at_close, after_block}
use Rattle.ir_print.specs.Blocks.{block_text}
use Rattle.ir_print.specs.Names.{name_at}
use Rattle.ir_print_law.specs.Stands.{Stands}
use Rattle.ir_print_law.proofs.Words.{sign_comes, seen}
use Rattle.ir_print_law.specs.Definitions.{block_keys, value_keys_of}
use Rattle.ir_print_law.specs.Printable.{IsBlock}
use Rattle.ir_print_law.specs.PartsAgain.{AreAlike}
use Rattle.ir_print_law.specs.Again.{IsBlockAgain}
use Rattle.ir_print_law.proofs.State.{Ready, IsLater}
use Rattle.ir_print_law.proofs.Steps.{unlike}
use Rattle.ir_print_law.proofs.BlockLines.{HasKeys, block_lines, block_is, block_goes}
use Rattle.ir_print_law.proofs.WholeForms.{Widens, widens_itself, widens_further, later_widened}
use Rattle.ir_print_law.proofs.Known.{Far, AreNamed, known}
use Rattle.ir_print_law.proofs.LabelLines.{label_kind}
use Rattle.ir_print_law.proofs.OpNeeds.{begins_body_line, EndsOp, OpsRead}
use Rattle.ir_print_law.proofs.Steady.{Steady, Onward, onward_itself, onward_further}
use Rattle.ir_print_law.proofs.Undropped.{and_last, begins_call, no_call_comes}

abbrev is_label : Kind → Bool
is_label k.LabelName = true
is_label k.LabelNumber = true
is_label _ = false

label_is : (x : Kind) → (x ≡ k.LabelName) ⊎ (x ≡ k.LabelNumber) → is_label x ≡ true
label_is x (inl e) = ap is_label e
label_is x (inr e) = ap is_label e

label_begins : (x : Kind) → is_label x ≡ true → begins_body_line x ≡ true
label_begins k.LabelName e = refl
label_begins k.LabelNumber e = refl
label_begins _ e = absurd cc

label_no_call : (x : Kind) → is_label x ≡ true → begins_call x ≡ false
label_no_call k.LabelName e = refl
label_no_call k.LabelNumber e = refl
label_no_call _ e = absurd cc

always : (a b : Bool) → a ≡ true → b ≡ true → a && b ≡ true
always a b e g = rw (e, g) refl

some_blocks : (n : ℕ) → 0 < n → nat_lt 0 n ≡ true
some_blocks n less = grind (arith, nat_tests)

closes : (i : Input) (rest : Text) → Stands i.cursor (10 ∷ 125 ∷ 10 ∷ rest) → kind i.cursor ≡ k.CloseBrace
unfolding class_of
closes i rest at = (sign_comes i.cursor (10 ∷ []) 125 (10 ∷ rest) k.CloseBrace refl refl refl at).0

module _ (m : Module) (f : Function) (named : AreNamed m f) (ops : OpsRead m f named) where
  abbrev text_of_blocks : List Block → Text
  text_of_blocks bs = flat_map (block_text m f.locals) bs

  block_label_comes : (b : Block) (i : Input) (rest : Text) → HasKeys m f named ops b → Stands i.cursor (10 ∷ (block_text m f.locals b ++ rest)) → is_label (kind i.cursor) ≡ true
  block_label_comes b i rest keys at =
      label_is (kind i.cursor) (label_kind i.cursor (name_at f.locals b.label) (10 ∷ block_lines m f.locals b rest) keys.0
      (subst (λ (t : Text). Stands i.cursor (10 ∷ t)) (block_is m f.locals b rest) at))

  first_label : (b : Block) (bs : List Block) (i : Input) (rest : Text) → HasKeys m f named ops b → Stands i.cursor (10 ∷ (text_of_blocks (b ∷ bs) ++ 125 ∷ 10 ∷ rest)) → is_label (kind i.cursor) ≡ true
  first_label b bs i rest keys at =
      block_label_comes b i (text_of_blocks bs ++ 125 ∷ 10 ∷ rest) keys
      (subst (λ (t : Text). Stands i.cursor (10 ∷ t)) (append_assoc (block_text m f.locals b) (text_of_blocks bs) (125 ∷ 10 ∷ rest)) at)

  blocks_end : (bs : List Block) (rest : Text) → AllByRecursion (HasKeys m f named ops) bs → EndsOp (10 ∷ (text_of_blocks bs ++ 125 ∷ 10 ∷ rest))
  unfolding class_of
  blocks_end [] rest keys = (refl, λ i at. ap begins_body_line (closes i rest at), λ i at. no_call_comes i.cursor (ap begins_call (closes i rest at)))
  blocks_end (b ∷ bs) rest keys = (
    refl,
    λ i at. label_begins (kind i.cursor) (first_label b bs i rest keys.0 at),
    λ i at. no_call_comes i.cursor (label_no_call (kind i.cursor) (first_label b bs i rest keys.0 at)),
  )

  abbrev pub BlocksGo : List Block → (more : List Text) → Far → (count : ℕ) → Input → (rest : Text) → Type 0
  BlocksGo bs more far count i rest =
      (ys : List Block) × (o : Input) × (now : Far) × Follows at_close (λ b. (further b).says) after_block (record { count = count }) i ys o
      × Ready (known m f named now) 0 o (10 ∷ 125 ∷ 10 ∷ rest) × Widens i o
      × Onward far now (flat_map (value_keys_of f.locals) bs) (map (λ (b : Block). name_at f.locals b.label) bs) more
      × ((n : Module) (others : List Text) → IsLater o n others → AreAlike (IsBlockAgain m n f.locals others) bs ys)

  pub blocks_go : (bs : List Block) (more : List Text) (far : Far) (i : Input) (rest : Text) → AllByRecursion (IsBlock m f) bs → AllByRecursion (HasKeys m f named ops) bs
      → Steady far (flat_map (block_keys f.locals) bs ++ more) → length far.values + length (flat_map (value_keys_of f.locals) bs) ≤ 1000000 → length far.labels + length bs ≤ 65535
      → 0 < length far.labels + length bs → Ready (known m f named far) 0 i (10 ∷ (text_of_blocks bs ++ 125 ∷ 10 ∷ rest))
      → BlocksGo bs more far (length far.labels) i rest
  blocks_go [] more far i rest are keys steady room few some ready =
      let close = seen k.CloseBrace i (closes i rest ready.stands) in
      let counted = some_blocks (length far.labels) (omega (arith, some)) in
      ([], i, far, (always (nat_lt 0 (length far.labels)) (sees k.CloseBrace i.cursor) counted close, refl), ready, widens_itself i, onward_itself far more steady, λ n others later. tt)
  blocks_go (b ∷ bs) more far i rest are keys steady room few some ready =
      let afterwards = text_of_blocks bs ++ 125 ∷ 10 ∷ rest in
      let here = subst (λ (t : Text). Ready (known m f named far) 0 i (10 ∷ t)) (append_assoc (block_text m f.locals b) (text_of_blocks bs) (125 ∷ 10 ∷ rest)) ready in
      let own_keys = block_keys f.locals b in
      let other_keys = flat_map (block_keys f.locals) bs in
      let size = length-append (value_keys_of f.locals b) (flat_map (value_keys_of f.locals) bs) in
      let not_closed = unlike k.CloseBrace is_label i refl (block_label_comes b i afterwards keys.0 here.stands) in
      let one = block_goes m f named ops b (other_keys ++ more) far i afterwards are.0 keys.0.1
      (subst (λ (l : List Text). Steady far l) (append_assoc own_keys other_keys more) steady) (omega (arith, room, size)) (omega (arith, few)) (blocks_end bs rest keys.1) here in
      let y = one.0 in
      let p = one.1 in
      let mid = one.2 in
      let on = one.6.0 in
      let value_count : length one.2.values ≡ length far.values + length (value_keys_of f.locals b) = ap length on.values_are ∙ length-append far.values (value_keys_of f.locals b) in
      let label_count : length one.2.labels ≡ length far.labels + 1 = ap length on.labels_are ∙ length-append far.labels (name_at f.locals b.label ∷ []) in
      let next = blocks_go bs more one.2 one.1 rest are.1 keys.1 on.steady (omega (arith, room, size, value_count)) (omega (arith, few, label_count)) (omega (arith, label_count)) one.4 in
      let follows = subst (λ (n : ℕ). Follows at_close (λ b. (further b).says) after_block (record { count = n }) one.1 next.0 next.1) label_count next.3 in (
        one.0 ∷ next.0,
        next.1,
        next.2,
        (and_last (nat_lt 0 (length far.labels)) (sees k.CloseBrace i.cursor) not_closed, p, one.3, follows),
        next.4,
        widens_further i p next.1 one.5 next.5,
        onward_further far mid next.2 (value_keys_of f.locals b) (name_at f.locals b.label ∷ []) (flat_map (value_keys_of f.locals) bs) (map (λ (b : Block). name_at f.locals b.label) bs)
            (other_keys ++ more) more on next.6,
        λ n others later. (one.6.1 n others (later_widened p next.1 n others next.5 later), next.7 n others later),
      )
