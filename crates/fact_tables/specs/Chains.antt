-- Lists by number, each as a chain of links from the newest on.
use Rattle.std.specs.Prelude.{ℕ, List, length, nat_eq}
use Rattle.indexmap.specs.IndexMap.{get}
use Rattle.fact_tables.specs.declared.chains.Chains.{Chains}
use Rattle.fact_tables.specs.Uses.{chain}

-- what is listed by a number
abbrev pub listed : Chains → (list : ℕ) → List ℕ
listed chains list = chain (length chains.links.items) chains.links.items (get nat_eq chains.newest list)
