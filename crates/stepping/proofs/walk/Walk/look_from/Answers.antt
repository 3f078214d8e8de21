-- The words of each cell that is met, one cell after the other.
use Rattle.std.proofs.Common.{◌≡◌, ◌≤◌, ◌<◌, ◌+◌, length, slice_index_or, slice_get, Some, [], sym, subst, ◌∙◌, arith}
use Rattle.std.proofs.lemmas.Option.{get_or_from_slice_get, slice_get_within}
use Rattle.pools.specs.Heap.{cells_in, words_of_cell}
use Rattle.stepping.specs.declared.walk.Walk.{Walk}
use Rattle.stepping.specs.Walks.{looking, IsShaped, IsLooked, IsSeen, IsSound}
use Rattle.stepping.proofs.Schemas.{heap_with, is_schema-heap_with}
use Rattle.stepping.proofs.Meetings.{looking-smaller, looking-longer}
use Rattle.stepping.proofs.Wholes.{none-past, shaped-into, stays-into, sound-into, looked-more}
use Rattle.stepping.proofs.walk.Walk.look_from.Goals as goal

pub look_into-requires-clause-is_cell : goal.look_into-requires-clause-is_cell
look_into-requires-clause-is_cell c =
    let got : slice_get c.loop-cell.self.order c.loop-cell.looked ≡ Some c.in-Some.cell = sym c.get.ensures.value ∙ sym c.copied.ensures ∙ c.in-Some.is in
    let at = get_or_from_slice_get c.loop-cell.self.order c.loop-cell.looked c.in-Some.cell 0 got in
    let lt = slice_get_within c.loop-cell.self.order c.loop-cell.looked c.in-Some.cell got in
    subst (λ n. n < cells_in c.args.schema.pools.now) at (c.loop-cell.invariant.shaped.within c.loop-cell.looked lt)

pub loop-cell-smaller : goal.loop-cell-smaller
loop-cell-smaller c =
    let schema = c.args.schema in
    let got : slice_get c.loop-cell.self.order c.loop-cell.looked ≡ Some c.in-Some.cell = sym c.get.ensures.value ∙ sym c.copied.ensures ∙ c.in-Some.is in
    let lt = slice_get_within c.loop-cell.self.order c.loop-cell.looked c.in-Some.cell got in
    looking-smaller c.args.shared.now (words_of_cell (heap_with schema) c.in-Some.cell) (slice_index_or c.args.shared.now.words c.in-Some.cell []) c.loop-cell.self c.look_into.new.self
    (length (words_of_cell (heap_with schema) c.in-Some.cell)) c.loop-cell.looked (c.in_ok-look_into.ensures (heap_with schema) (is_schema-heap_with schema)) lt

pub loop-cell-preserved : goal.loop-cell-preserved
loop-cell-preserved c =
    let schema = c.args.schema in
    let h = c.args.shared.now in
    let w = c.loop-cell.self in
    let v = c.look_into.new.self in
    let cell = c.in-Some.cell in
    let place = c.loop-cell.looked in
    let got : slice_get w.order place ≡ Some cell = sym c.get.ensures.value ∙ sym c.copied.ensures ∙ c.in-Some.is in
    let at = get_or_from_slice_get w.order place cell 0 got in
    let lt = slice_get_within w.order place cell got in
    let s = heap_with schema in
    let words = words_of_cell s cell in
    let row = slice_index_or h.words cell [] in
    let is : v ≡ looking h words row w (length words) = c.in_ok-look_into.ensures s (is_schema-heap_with schema) in
    let longer : length w.order ≤ length v.order = looking-longer h words row w v (length words) is in
    record {
      shaped = subst (λ (x : Walk). IsShaped (cells_in schema.pools.now) x) (sym is) (shaped-into s h (cells_in schema.pools.now) w cell c.loop-cell.invariant.shaped);
      afterwards = omega (arith, longer, lt);
      looks = λ t fits was. subst (λ (x : Walk). IsLooked t h x (place + 1)) (sym (c.in_ok-look_into.ensures t fits)) (looked-more t h w place cell lt at (c.loop-cell.invariant.looks t fits was));
      seen = λ r was. subst (λ (x : Walk). IsSeen h x r) (sym is) (stays-into s h w cell r (c.loop-cell.invariant.seen r was));
      sound = λ t roots fits was. subst (λ (x : Walk). IsSound t h roots x) (sym (c.in_ok-look_into.ensures t fits)) (sound-into t h roots w place cell lt at (c.loop-cell.invariant.sound t roots fits was));
    }

pub returns-clause-looked : goal.returns-clause-looked
returns-clause-looked c = λ s fits was.
    let all : length c.loop-cell.self.order ≤ c.loop-cell.looked = none-past c.loop-cell.self.order c.loop-cell.looked (sym c.get.ensures.value ∙ sym c.copied.ensures ∙ c.in_default.is) in
    let done : c.loop-cell.looked ≡ length c.loop-cell.self.order = omega (arith, all, c.loop-cell.invariant.afterwards) in
    subst (λ n. IsLooked s c.args.shared.now c.loop-cell.self n) done (c.loop-cell.invariant.looks s fits was)

pub look_into-requires-clause-few : goal.look_into-requires-clause-few
look_into-requires-clause-few c = omega (arith, c.requires.few, c.requires.shaped.wide, c.loop-cell.invariant.shaped.wide)

pub overflow_add-looked : goal.overflow_add-looked
overflow_add-looked c =
    let got : slice_get c.loop-cell.self.order c.loop-cell.looked ≡ Some c.in-Some.cell = sym c.get.ensures.value ∙ sym c.copied.ensures ∙ c.in-Some.is in
    let lt = slice_get_within c.loop-cell.self.order c.loop-cell.looked c.in-Some.cell got in
    omega (arith, lt, c.requires.few, c.requires.shaped.wide, c.loop-cell.invariant.shaped.left)
