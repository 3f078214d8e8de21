-- What the callers of a function see of it, and which other functions call it.
use Rattle.std.specs.Prelude.{ℕ, zero, suc, ◌+◌, ◌==◌, ◌&&◌, Bool, true, false, not, if◌then◌else◌, List, length, slice_get, Option, Some, None, nat_eq}
use Rattle.std.specs.List.{list_all, zip}
use Rattle.std.specs.Option.{option_eq, option_or}
use Rattle.ir_ast.specs.declared.function.Function.{Function}
use Rattle.ir_ast.specs.declared.function.Parameter.{Parameter}
use Rattle.ir_ast.specs.declared.module.Module.{Module}
use Rattle.certs.specs.declared.section.Mark.{Mark}
use Rattle.certs.specs.declared.section.Mark.TheVariants as mark
use Rattle.certs.specs.declared.section.Promise.{Promise}
use Rattle.certs.specs.declared.section.Section.{Section}
use Rattle.type_kinds.specs.TypeKinds.{kind_of, layout_of_kind}
use Rattle.answers.specs.Edited.{is_caller}

-- ---- types and marks

-- both are true, or both are false
abbrev pub same_truth : (one other : Bool) → Bool
same_truth one other = if one then other else not other

-- both are the same mark
abbrev pub same_mark : (one other : Mark) → Bool
same_mark mark.May mark.May = true
same_mark mark.None mark.None = true
same_mark _ _ = false

-- two parameters are of one type
abbrev pub same_written : Parameter × Parameter → Bool
same_written p = p.0.written == p.1.written

-- the parameters of two lists are of the same types, one by one, as far as both lists go
abbrev pub all_written : (one other : List Parameter) → Bool
all_written one other = list_all same_written (zip one other)

-- two functions have the same result type and the same parameter types
abbrev pub same_types : (one other : Function) → Bool
same_types one other = (one.returned == other.returned) && (length one.parameters == length other.parameters) && all_written one.parameters other.parameters

-- ---- promises, by what they say

-- two promises have the same layout, or none; both say nonnull or neither does; they have the same bound, or none; and both are of an address outside or neither is
abbrev pub same_promise : (one other : Promise) → Bool
same_promise one other = option_eq nat_eq one.layout other.layout && same_truth one.nonnull other.nonnull && option_eq nat_eq one.below other.below && same_truth one.number other.number

-- What is said of a value of a type: nothing is promised, so it is what the type says; or the promise, with the layout of the type where it has none.
abbrev pub interface : Module → (written : ℕ) → Option Promise → Promise
interface m written None = record { layout = layout_of_kind (kind_of m written); nonnull = false; below = None; number = false }
interface m written (Some promise) = record { layout = option_or promise.layout (layout_of_kind (kind_of m written)); nonnull = promise.nonnull; below = promise.below; number = promise.number }

-- two promises say the same of a value of a type
abbrev pub says_same : Module → (written : ℕ) → (one other : Option Promise) → Bool
says_same m written one other = same_promise (interface m written one) (interface m written other)

-- two promises of one parameter say the same
abbrev pub says_same_of : Module → Parameter × (Option Promise × Option Promise) → Bool
says_same_of m p = says_same m p.0.written p.1.0 p.1.1

-- the promises of all parameters say the same
abbrev pub all_said : Module → List Parameter → (one other : List (Option Promise)) → Bool
all_said m parameters one other = list_all (says_same_of m) (zip parameters (zip one other))

-- The callers of two functions with their sections see the same: by their types, their marks, and what is promised of parameters and result.
abbrev pub tells_same : Module → (old new : Function) → (past next : Section) → Bool
tells_same m old new past next =
    same_types old new && same_mark past.mark next.mark && all_said m new.parameters past.parameters next.parameters && says_same m new.returned past.result next.result

-- the callers of a function see the same of it as before, if it was there and still is
abbrev pub is_interface_same : Module → (old new : Option Function) → (past next : Option Section) → Bool
is_interface_same m (Some old) (Some new) (Some past) (Some next) = tells_same m old new past next
is_interface_same m _ _ _ _ = false

-- ---- callers

-- how many of the first `count` functions call this one, which is not counted itself
abbrev pub callers_before : Module → (func : ℕ) → (count : ℕ) → ℕ
callers_before m func zero = 0
callers_before m func (suc count) = callers_before m func count + (if is_caller m func count then 1 else 0)

-- how many functions an edit of this one concerns: it alone where its callers see the same, and else it and all that call it
abbrev pub checked_again : (interface_same : Bool) → Module → (func : ℕ) → ℕ
checked_again true m func = 1
checked_again false m func = 1 + callers_before m func (length m.functions)

-- how many functions an edit of this one concerns, which had the old code and the past section before
abbrev pub rechecked_by : Module → (certs : List Section) → (func : ℕ) → (old : Option Function) → (past : Option Section) → ℕ
rechecked_by m certs func old past = checked_again (is_interface_same m old (slice_get m.functions func) past (slice_get certs func)) m func
