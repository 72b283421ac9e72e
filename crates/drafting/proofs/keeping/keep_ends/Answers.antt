-- `drafting::keeping::keep_ends` meets its contract: with nothing noted before, the nodes noted are those at an end, and what is left is drafted.
-- Assumes nothing.
use borrow.Author.Rules.{rules}
use Rattle.drafting.proofs.KeptNodes.{noted_nodes_at_ends}
use Rattle.drafting.proofs.WhatStays.{left_drafted}
use Rattle.drafting.proofs.keeping.keep_ends.Goals as goal

pub returns : goal.returns
returns c p left = left_drafted left (rw (← noted_nodes_at_ends _ _ left.places left.ascend (search rules) (search rules) c.note_ends.ensures.1) c.keep_noted.ensures)
