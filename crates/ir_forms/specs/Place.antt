-- What a cursor shows.
use Rattle.std.specs.Prelude.{ℕ, Bool, List, Option}
use Rattle.ir_tokens.specs.declared.token.Token.{Token}

-- a place in a text that is read
pub record Place : Type 0 where
  -- the bytes of the whole text
  pub text : List ℕ
  -- the tokens from the next one on
  pub rest : List Token
  -- where, after the tokens, no token begins
  pub bad : Option ℕ
  -- the wide forms may stand
  pub wide : Bool
