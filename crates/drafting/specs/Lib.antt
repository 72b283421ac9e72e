-- A change as it is drafted: the draft of nodes, the draft of a whole profile, and what memory leaves of its own.
pub mod NodeDraft
pub mod Drafts
pub mod Leaves
pub mod NotedNodes
