-- `removing::draft` meets its contract: what stands in sound memory without the number is drafted.
-- Assumes nothing.
use Rattle.drafting.proofs.WhatStays.{all_but_number}
use Rattle.removing.proofs.draft.Goals as goal

pub keep_ends-requires : goal.keep_ends-requires
keep_ends-requires c =
    let pre = c.requires in
    ((_, all_but_number _ pre.0 _ pre.1 pre.2 c.copy.ensures c.drop_band.ensures), pre.3)

pub returns : goal.returns
returns c =
    let pre = c.requires in
    c.keep_ends.ensures.drafts _ (all_but_number _ pre.0 _ pre.1 pre.2 c.copy.ensures c.drop_band.ensures)
