-- What contracts see of a token's field, and what it keeps.
use Rattle.std.specs.Prelude.{◌≡◌, []}
use Rattle.heap_rule.specs.View.{share_of, IsSeatOf}
use Rattle.heap_words.specs.declared.token.ActorToken.TheInside.{Inside}
use Rattle.heap_words.specs.Tokens.{Holding}

-- the token, as contracts see it
abbrev pub holding_in : Inside → Holding
holding_in t = record { table = t.seat.table_id; setup = t.seat.me.0.setup; share = share_of t.seat.me.0 }

-- it is the seat of one actor
pub record IsActorToken (t : Inside) : Type 0 where
  pub one : IsSeatOf (share_of t.seat.me.0) t.seat.me.0
  pub bare : t.seat.me.1 ≡ []
