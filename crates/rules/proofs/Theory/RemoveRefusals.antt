-- Which of the two lines on room can refuse a remove: 11 never, for a remove makes no node; 12 can, for other bands may need more marks
-- once a node is dropped. So code may judge a remove by both, as it does an insert.
-- Assumes nothing.
use Prim.Native.Nat.{ℕ, ◌≤◌}
use mathlib.Core.Path.{◌≡◌, refl, subst}
use mathlib.Core.Bool.{Bool, true, false}
use mathlib.Core.List.{◌∷◌, map}
use native.Mathlib.Omega.{arith}
use lib.ListN.{length}
use Rattle.rules.specs.Connectives.{◌or◌}
use Rattle.rules.specs.Profile.{Profile}
use Rattle.rules.specs.Marks.{marks_in_use}
use Rattle.rules.specs.Room.{Room, room_of, room_in_range}
use Rattle.rules.specs.Changes.{removed}
use Rattle.rules.specs.BoxSaysNo.{nodes_exceed, remove_lines, remove_refusal}
use Rattle.rules.specs.SoundMemory.{sound_in}
use Rattle.rules.specs.Computes.{computes}
use Rattle.rules.specs.BenchProfile.{p9}
use Rattle.rules.proofs.Means.{never, lt_fails}
use Rattle.rules.proofs.Lists.{In, member_means}
use Rattle.rules.proofs.Changes.{removed_nodes_no_more}
use Rattle.rules.proofs.FirstLine.{refusal_among}

module _ (room : Room) (p : Profile) (number : ℕ) where
  -- 11 is never given on a remove: it is none of a remove's lines ..
  pub eleven_never_on_remove : (sizes_right sound : Bool) (scope : ℕ) → remove_refusal sizes_right sound room p number scope ≡ 11 → ⊥
  unfolding remove_refusal ◌or◌
  eleven_never_on_remove sizes_right sound scope e =
      let ls = remove_lines sizes_right sound room p number scope in
      never ((member_means 11 (0 ∷ map (λ l. l.refusal) ls)).test (subst (λ n. In n (0 ∷ map (λ l. l.refusal) ls)) e (refusal_among ls)))

  -- .. nor need it be: where nodes fit before the remove, 11 does not apply after it
  pub eleven_not_after_remove : length p.nodes ≤ room.nodes → (nodes_exceed room (removed p number)).applies ≡ false
  eleven_not_after_remove h = (lt_fails room.nodes (length (removed p number).nodes)).test (omega (arith, removed_nodes_no_more p number))

-- room for 5 nodes and 8 marks, which P9 just fits
abbrev pub just_p9 : Room
just_p9 = room_of 5 8

-- 12 can be given on a remove: P9 is sound in its room with 8 marks in use; without [40,40], whose node is dropped, it would need 9
pub twelve_on_remove_possible :
    (sound_in just_p9 (p9 just_p9) ≡ true)
    × (marks_in_use (p9 just_p9) ≡ 8)
    × (marks_in_use (removed (p9 just_p9) 4) ≡ 9)
    × (remove_refusal (room_in_range just_p9) (sound_in just_p9 (p9 just_p9)) just_p9 (p9 just_p9) 4 0 ≡ 12)
unfolding computes
twelve_on_remove_possible = (refl, refl, refl, refl)
