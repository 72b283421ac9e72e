-- `committing::link_laying::lay_links` meets its contract. The loop's invariant: the first places ahead of the place are known, and the links of
-- the places past it are laid.
-- Assumes nothing.
use mathlib.Core.Path.{◌∙◌, refl}
use native.Mathlib.Omega.{arith}
use Rattle.linking.proofs.PlacesAhead.{none_ahead, ahead_before}
use Rattle.committing.proofs.LinkLaying.{no_place_linked, level_kept, one_more_node_linked, header_linked}
use Rattle.committing.proofs.link_laying.lay_links.Goals as goal

pub loop-place-init : goal.loop-place-init
loop-place-init c =
    let used = c.node_word-in_use.ensures in (none_ahead _ _ _ used refl, no_place_linked _ _ used)

pub loop-place-preserved : goal.loop-place-preserved
loop-place-preserved c =
    let so_far = c.loop-place.invariant in
    -- the level read at the place is the one it had at the start
    let level_here = c.node_word-level.ensures ∙ level_kept _ _ _ _ so_far.1 in (
      ahead_before _ _ _ _ _ (omega arith) (omega arith) level_here c.raise.ensures so_far.0,
      one_more_node_linked _ _ _ _ _ _ (omega arith) (omega arith) level_here so_far.0 so_far.1 c.put_links.ensures,
    )

pub returns : goal.returns
returns c =
    let so_far = c.loop-place.invariant in
    header_linked _ _ _ _ _ (omega arith) so_far.0 so_far.1 c.put_links-2.ensures
