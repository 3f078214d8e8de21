-- The words of a heap's cells, by its schema.
use Rattle.std.proofs.Common.{◌≡◌, ℕ, zero, suc, ◌-◌, List, [], refl, sym, ap, ◌∙◌}
use Rattle.pools.specs.declared.word_kind.WordKind.{WordKind}
use Rattle.pools.specs.Heap.{Setup, cells_in, layout_at, layout_of, words_of_cell}
use Rattle.pools.specs.Layouts.{words_of}
use Rattle.stepping.specs.declared.gone.HeapSchema.{HeapSchema}
use Rattle.stepping.specs.Reach.{IsSchemaOf}

-- a heap with this schema
abbrev pub heap_with : HeapSchema → Setup
heap_with schema = record { threads = 0; late = []; layouts = schema.layouts.now; pools = schema.pools.now; globals = schema.globals.now; values = [] }

pub is_schema-heap_with : (schema : HeapSchema) → IsSchemaOf (heap_with schema) schema
is_schema-heap_with schema = record { pools = refl; layouts = refl; globals = refl }

-- it has as many cells as each heap with the schema
pub cells-of_schema : (s : Setup) (schema : HeapSchema) → IsSchemaOf s schema → cells_in schema.pools.now ≡ cells_in s.pools
cells-of_schema s schema is = ap cells_in (sym is.pools)

-- those of a cell after that of the globals are those of its layout
pub words-in_pool : (s : Setup) (schema : HeapSchema) (cell layout : ℕ) (words : List WordKind) → IsSchemaOf s schema → (cell ≡ 0 → ⊥)
    → layout ≡ layout_at schema.pools.now (cell - 1) → words ≡ words_of schema.layouts.now layout → words ≡ words_of_cell s cell
unfolding layout_of
words-in_pool s schema zero layout words is n l w = absurd (n refl)
words-in_pool s schema (suc cell) layout words is n l w = rw (is.layouts, is.pools) (w ∙ ap (words_of schema.layouts.now) l)
