-- `inserting::draft` meets its contract: what stands in sound memory is drafted, and the entry is put to it.
-- Assumes nothing.
use Rattle.drafting.proofs.WhatStays.{all_stay}
use Rattle.inserting.proofs.InsertSteps.{insert_on_sound, entry_right, number_free}
use Rattle.inserting.proofs.draft.Goals as goal

pub keep_ends-requires : goal.keep_ends-requires
keep_ends-requires c =
    let pre = c.requires in
    ((_, all_stay _ (insert_on_sound _ _ _ _ pre.0) pre.1 c.copy.ensures), pre.2)

pub put_entry-requires : goal.put_entry-requires
put_entry-requires c =
    let pre = c.requires in
    let left = all_stay _ (insert_on_sound _ _ _ _ pre.0) pre.1 c.copy.ensures in
    (_, c.keep_ends.ensures.drafts _ left, entry_right _ _ _ _ pre.0, number_free _ _ _ _ pre.0)

pub returns : goal.returns
returns c =
    let pre = c.requires in
    let left = all_stay _ (insert_on_sound _ _ _ _ pre.0) pre.1 c.copy.ensures in
    c.put_entry.ensures _ (c.keep_ends.ensures.drafts _ left)
