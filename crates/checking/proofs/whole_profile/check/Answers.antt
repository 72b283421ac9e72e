-- `checking::whole_profile::check` meets its contract: each test takes one part of all that is tested, and all together are `sound`.
-- Assumes nothing.
use Rattle.std.proofs.Common.{arith}
use Rattle.std.proofs.lemmas.Grind.{common_steps}
use Rattle.checking.specs.Tested.{tested}
use Rattle.checking.proofs.Joined.{joined}
use Rattle.checking.proofs.WithinMost.{within_most}
use Rattle.checking.proofs.TestedIsSound.{sound_as_tested}
use Rattle.checking.proofs.whole_profile.check.Goals as goal

pub invariant_of-profile : goal.invariant_of-profile
invariant_of-profile c = grind (arith, common_steps, within_most)

pub marks_right-requires : goal.marks_right-requires
marks_right-requires c = grind (arith, common_steps, within_most)

pub returns-then-links_right : goal.returns-then-links_right
unfolding tested
returns-then-links_right c = grind (arith, common_steps, joined, sound_as_tested)

pub returns-else-links_right : goal.returns-else-links_right
unfolding tested
returns-else-links_right c = grind (arith, common_steps, joined, sound_as_tested)

pub returns-else-node_places_right : goal.returns-else-node_places_right
unfolding tested
returns-else-node_places_right c = grind (arith, common_steps, joined, sound_as_tested)
