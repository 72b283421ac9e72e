-- `drafting::entry_drafting::put_entry` meets its contract: with both ends put and the band laid, the draft is that of the profile with the band.
-- Assumes nothing.
use Rattle.rules.specs.Changes.{inserted}
use Rattle.drafting.specs.Drafts.{Drafts}
use Rattle.drafting.proofs.Drafts.{of_every}
use Rattle.drafting.proofs.EntryDraft.{first_asks, second_asks, entry_drafted}
use Rattle.drafting.proofs.entry_drafting.put_entry.Goals as goal

pub put_node-requires : goal.put_node-requires
put_node-requires c = let pre = c.requires in first_asks pre.1 _ _ _ pre.2 pre.3

pub put_node-requires-2 : goal.put_node-requires-2
put_node-requires-2 c =
    let pre = c.requires in
    second_asks pre.1 _ _ _ pre.2 pre.3 _ _ c.put_node.ensures

pub returns : goal.returns
returns c =
    let pre = c.requires in
    of_every (λ p. Drafts (inserted p _ _ _) _ _) pre.1
    (entry_drafted pre.1 _ _ _ pre.2 pre.3 c.put_node.ensures c.put_node-2.ensures c.put_band.ensures)
