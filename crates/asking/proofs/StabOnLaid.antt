-- The stab on words that lay a standing profile of at most 2,048 nodes is the rules' own.
-- Assumes nothing.
use Prim.Native.Nat.{ℕ, ◌≤◌}
use mathlib.Core.Path.{◌≡◌}
use lib.ListN.{length}
use Rattle.rules.specs.Profile.{Profile}
use Rattle.rules.specs.Room.{most_nodes}
use Rattle.rules.specs.Search.{stab_of}
use Rattle.rules.specs.BoxSaysNo.{stab_answer}
use Rattle.rules.proofs.SoundMemory.{Standing}
use Rattle.store.specs.Sizes.{sizes_right}
use Rattle.store.specs.Memory.{Memory, lengths_in}
use Rattle.store.proofs.Lays.{Lays}
use Rattle.search.proofs.SearchOnLaid.{search_on_laid}
use Rattle.asking.specs.StabCall.{stab_in}

pub stab_on_laid : (p : Profile) (m : Memory) → Lays p m.nodes m.marks → Standing p → length p.nodes ≤ most_nodes → (k : ℕ)
    → stab_in m k ≡ stab_answer (sizes_right (lengths_in m)) p k
unfolding stab_in stab_answer stab_of
stab_on_laid p m l s h k = rw (search_on_laid p m.nodes m.marks l s h k)
