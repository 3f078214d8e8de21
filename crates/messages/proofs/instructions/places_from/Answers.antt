use Rattle.std.proofs.Common.{◌∙◌, ap, sym}
use Rattle.ir_ast.specs.declared.items_of_module.SymbolSort.{SymbolSort}
use Rattle.messages.specs.Instructions.{function_places, names_before, start_in}
use Rattle.ir_forms.specs.Input.{start_of}
use Rattle.ir_forms.specs.declared.input.Input.{Input}
use Rattle.ir_forms.specs.declared.table.Table.{Table}
use Rattle.messages.proofs.instructions.places_from.Goals as goal
use Rattle.messages.proofs.instructions.places_from.Goals.{in-Ok, in-Err-Memory, in-Err}

pub returns : goal.returns
returns c =
    let text = c.args.text.now in
    let form = function_places c.args.name.now in
    let m = c.args.of_module.now in
    let wide = m.wide in
    let start = c.new-input.ensures ∙ ap start_of c.new-cursor.ensures in
    elim c.match-function_places.branch [
      | in-Ok w ↦ rw w.answer-is (record {
        after = c.function_places.new.input;
        read =
            form.sound (start_in m text c.args.tokens.now) _ c.function_places.new.input
            (ap (λ (i : Input). form.read (record i { symbols = names_before m text c.args.tokens.now; wide = wide })) (sym start)
            ∙ ap (λ (t : Table SymbolSort). form.read (record c.new-input.result { symbols = t; wide = wide })) (sym c.in_ok-symbols.ensures)
            ∙ w.in-Ok.ensures);
      })
      | in-Err-Memory w ↦ rw w.answer-is tt
      | in-Err w ↦ rw w.answer-is tt
    ]
