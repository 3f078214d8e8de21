-- Kinds of tokens with which forms begin that are left out.
use Rattle.std.specs.Prelude.{Bool, true, false}
use Rattle.ir_tokens.specs.declared.token.Kind.{Kind}
use Rattle.ir_tokens.specs.declared.token.Kind.TheVariants as k

-- types without a name
abbrev pub begins_unread_item : Kind → Bool
begins_unread_item k.LocalNumber = true
begins_unread_item _ = false

-- globals without a first value
abbrev pub is_external : Kind → Bool
is_external k.External = true
is_external k.ExternWeak = true
is_external _ = false
