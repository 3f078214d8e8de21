-- A text of two, three or four parts is the same text where its parts are.
use Rattle.std.proofs.Common.{◌≡◌, ap, ◌∙◌}
use Rattle.ir_tokens.specs.Bytes.{Text}

pub same2 : (f : Text → Text → Text) {a b c d : Text} → a ≡ b → c ≡ d → f a c ≡ f b d
same2 f {b = b} {c = c} p q = ap (λ (x : Text). f x c) p ∙ ap (f b) q

pub same3 : (f : Text → Text → Text → Text) {a b c d e g : Text} → a ≡ b → c ≡ d → e ≡ g → f a c e ≡ f b d g
same3 f {b = b} {c = c} {e = e} p q r = ap (λ (x : Text). f x c e) p ∙ same2 (f b) q r

pub same4 : (f : Text → Text → Text → Text → Text) {a b c d e g h i : Text} → a ≡ b → c ≡ d → e ≡ g → h ≡ i → f a c e h ≡ f b d g i
same4 f {b = b} {c = c} {e = e} {h = h} p q r s = ap (λ (x : Text). f x c e h) p ∙ same3 (f b) q r s
