-- What making an empty profile comes to, on any memory:
--   Refused        when it says no, in plain words
--   Settled        no second outcome meets its promise
--   EmptyExact     the profile and the memory that it leaves, whatever memory held
--   Accepted       it is a change that is accepted only where the empty profile fits: what every change then does holds of it
-- What the code is proved with:
--   EmptyWords     the words that it leaves
pub mod Accepted
pub mod EmptyExact
pub mod EmptyWords
pub mod Refused
pub mod Settled
