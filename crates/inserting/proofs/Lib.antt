-- What an insert comes to, on any memory:
--   Refused        each number, in plain words
--   Settled        no second outcome meets its promise
--   Accepted       it is a change that is accepted only where the profile after it fits: what every change then does holds of it
-- What the code is proved with:
--   InsertSteps    an insert as its code goes about it
pub mod Accepted
pub mod InsertSteps
pub mod Refused
pub mod Settled
