-- What holds of node places:
--   EndPlaces    the places of the bands' ends
--   NotingSteps  these noted, number by number
--   NextPlaces   the next place of a lane
--   LinksLaid    node words that have the links due
--   PlacesAhead  the first places ahead, from the last node back to the header
pub mod EndPlaces
pub mod NotingSteps
pub mod NextPlaces
pub mod LinksLaid
pub mod PlacesAhead
