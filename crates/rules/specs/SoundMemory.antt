-- "Sound memory", as far as it speaks of the profile: nodes, levels and bands by the rules, and within its room.
-- What words of memory hold such a profile and its marks is not said here: these rules know no memory.
-- Assumes nothing.
use Rattle.std.specs.Prelude.{ℕ, suc, Bool, true, List, [], ◌∷◌, leb, eqb, length}
use Rattle.rules.specs.Connectives.{◌and◌}
use Rattle.rules.specs.Lists.{all}
use Rattle.rules.specs.HallLine.{Band}
use Rattle.rules.specs.NodesLanesEdges.{Node, is_level, ends_stand, only_ends_stand}
use Rattle.rules.specs.Profile.{Profile}
use Rattle.rules.specs.Marks.{marks_in_use}
use Rattle.rules.specs.Room.{Room, room_in_range}
use Rattle.rules.specs.BoxSaysNo.{band_fault}

-- band numbers ascend strictly, the first at least c
abbrev pub numbers_ascend : ℕ → List Band → Bool
numbers_ascend c [] = true
numbers_ascend c (b ∷ bs) = leb c b.number and numbers_ascend (suc b.number) bs

-- each band is right by 2 to 6
unfoldable pub bands_right : List Band → Bool
bands_right bs = all (λ b. eqb (band_fault b) 0) bs

-- nodes ascend strictly by key, the first at least c
abbrev pub keys_ascend : ℕ → List Node → Bool
keys_ascend c [] = true
keys_ascend c (n ∷ ns) = leb c n.key and keys_ascend (suc n.key) ns

-- each node's level is 1 to 8
unfoldable pub levels_right : List Node → Bool
levels_right ns = all (λ n. is_level n.level) ns

-- a standing profile: bands in number order and each right by itself; nodes in key order with right levels,
-- one at each end of a live band and nowhere else
unfoldable pub standing : Profile → Bool
standing p =
    numbers_ascend 0 p.bands
    and bands_right p.bands
    and keys_ascend 0 p.nodes
    and levels_right p.nodes
    and ends_stand p.bands p.nodes
    and only_ends_stand p.bands p.nodes

-- nodes and marks, by the rule's own count, are within a room that is in range
unfoldable pub fits : Room → Profile → Bool
fits room p = room_in_range room and leb (length p.nodes) room.nodes and leb (marks_in_use p) room.marks

-- a profile that sound memory of that room can hold
unfoldable pub sound_in : Room → Profile → Bool
sound_in room p = standing p and fits room p
