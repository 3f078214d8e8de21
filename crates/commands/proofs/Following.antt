-- Texts that may follow what was said.
use Rattle.std.proofs.Common.{◌≡◌, ◌∙◌, ◌++◌, [], Bool, List, append-nil, ap, false, refl, sym, true, ℕ}
use Rattle.reports.specs.Said.{GivesTextIf}

-- none follows
pub none_follows : (wanted : Bool) (text : List ℕ) → GivesTextIf wanted text text
none_follows true text = ([], sym (append-nil text))
none_follows false text = refl

-- these words follow, and there are none where none are wanted
pub words_follow : (wanted : Bool) (old new words : List ℕ) → (wanted ≡ false → words ≡ []) → new ≡ old ++ words → GivesTextIf wanted old new
words_follow true old new words none is = (words, is)
words_follow false old new words none is = is ∙ ap (λ words. old ++ words) (none refl) ∙ append-nil old
