-- What each call that asks answers, on every memory and every argument.
pub mod Says
pub mod StabCall
pub mod BandCall
pub mod EdgeCall
pub mod NodeCall
pub mod RoomCall
