use Rattle.std.proofs.Common.{◌∙◌, ap, codes, false, option_map, sym}
use Rattle.std.specs.Option.{option_map_or}
use Rattle.std.specs.Str.{bytes_eq}
use Rattle.command_line.proofs.given.flag_given.Goals as goal

pub returns-in-Some : goal.returns-in-Some
returns-in-Some c =
    c.eq.ensures ∙ ap (λ text. option_map_or (λ t. bytes_eq t (codes "true")) text false) (sym (ap (option_map (λ s. s.now)) c.in-Some.is) ∙ c.text_given.ensures)

pub returns-in-None : goal.returns-in-None
returns-in-None c = ap (λ text. option_map_or (λ t. bytes_eq t (codes "true")) text false) (sym (ap (option_map (λ s. s.now)) c.in-None.is) ∙ c.text_given.ensures)
