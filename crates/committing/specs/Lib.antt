-- A draft as it is committed: its links and fences, and what comes of the whole.
pub mod LinkDraft
pub mod FenceDraft
pub mod Committed
