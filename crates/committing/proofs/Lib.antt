-- What holds of a draft that is committed:
--   LinkedDraft    the draft once its links are laid
--   FencedDraft    .. and once the header counts lanes and marks and the fences are laid
--   DraftLaid      .. is the node words of its profile
--   DraftCommitted what comes of a draft: laid into memory, or refused
-- As the code goes about them: LinkLaying, FenceLaying.
pub mod LinkedDraft
pub mod FencedDraft
pub mod DraftLaid
pub mod DraftCommitted
pub mod LinkLaying
pub mod FenceLaying
