-- What holds of drafts:
--   NodeDraft   the draft of nodes: what it says, one node more, one node rewritten
--   Drafts      the draft of a profile: what it says, and that it is of no other
--   KeptNodes   the nodes noted are those at an end of a band
--   WhatStays   what a change leaves of a sound memory, and its draft
--   EntryDraft  an entry put into the draft of a profile
-- As the code goes about them: KeepSteps, PutSteps.
pub mod NodeDraft
pub mod Drafts
pub mod KeptNodes
pub mod WhatStays
pub mod EntryDraft
pub mod KeepSteps
pub mod PutSteps
