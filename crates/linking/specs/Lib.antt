-- The places of the bands' ends, and the link that is due at each place in each lane.
pub mod EndPlaces
pub mod LinksDue
