-- What is no bitcast stays as it is, however many bitcasts are followed back.
use Rattle.std.specs.Prelude.{◌≡◌, ℕ, zero, suc, List, refl}
use Rattle.shadow_stack.specs.declared.draft.Origin.{Origin}
use Rattle.shadow_stack.specs.declared.draft.Origin.TheVariants.{Nowhere, Slot, Address}
use Rattle.shadow_stack.specs.Slots.{hops}

pub hops_nowhere : (origins : List Origin) (n : ℕ) → hops origins n Nowhere ≡ Nowhere
hops_nowhere origins zero = refl
hops_nowhere origins (suc n) = hops_nowhere origins n

pub hops_slot : (origins : List Origin) (n slot : ℕ) → hops origins n (Slot slot) ≡ Slot slot
hops_slot origins zero slot = refl
hops_slot origins (suc n) slot = hops_slot origins n slot

pub hops_address : (origins : List Origin) (n : ℕ) → hops origins n Address ≡ Address
hops_address origins zero = refl
hops_address origins (suc n) = hops_address origins n
