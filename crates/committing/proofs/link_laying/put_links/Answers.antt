-- `committing::link_laying::put_links` meets its contract. The loop's invariant: the links of the place are laid in the lanes below this one.
-- Assumes nothing.
use native.Mathlib.Omega.{arith}
use Rattle.committing.proofs.LinkLaying.{no_lane_laid, one_more_lane_laid, all_lanes_laid}
use Rattle.committing.proofs.link_laying.put_links.Goals as goal

pub loop-lane-init : goal.loop-lane-init
loop-lane-init c = no_lane_laid _ _ _ _

pub loop-lane-preserved : goal.loop-lane-preserved
loop-lane-preserved c =
    one_more_lane_laid _ _ _ _ _ _ _ _ _ (omega arith) c.link_due-link.ensures c.put_node_word.ensures c.loop-lane.invariant

pub returns : goal.returns
returns c = all_lanes_laid _ _ _ _ _ _ _ (omega arith) c.loop-lane.invariant
