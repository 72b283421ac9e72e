-- What is demanded of the calls, as theorems, on any memory:
--   AsPromised        the number and the memory that a call comes to which only asks are those that its promise says
--   RefusedExactly    a call answers the first line of its own that applies, and 0 exactly when none does
--   RefusedUnchanged  refused, a change leaves all memory as it was
--   Lives             an accepted insert makes the band live as given, a remove ends it, and no other band changes
--   Found             an inserted band is found by stabs at the keys that it holds and at no other, a removed one nowhere
--   LevelStays        a node keeps its level while it stands; a made one has the level given
--   Alone             a call of one machine leaves flags, count and marks met the same at every other machine's keys
--   Local             other bands keep their marks outside the reaches, and gain none there
--   AnyOutcome        all of this of whatever meets the promise of a call that changes, in one record for each call
-- .. on sound memory:
--   KeepsSound        every call leaves sound memory sound (and every memory as long as it was)
-- .. from an empty profile on:
--   NotAlwaysRefused  a one-key band is inserted into an empty profile, and removed again, in every room
--   Witnesses         something is there that a wrong box could not show: keys whose stabs differ, a mark in lane 2 alone, two bands marked on an edge or on a node
--   MarksAlone        bands are found and read by node and mark words, whatever the list of bands has
--   AlwaysSound       after any calls memory is sound, stabs are exact and the readouts show exactly what the rule marks
--   AlwaysRuled       .. and memory is the one memory of the profile that the rules come to by those calls
-- In Lives, Found, LevelStays, Alone and Local each law is proved once, of every change (`change_..`); insert and remove are instances.
-- What these are proved with:
--   ChangesOnly       which bands a change can make come or go: any test on bands
--   AsksOrChanges     each call is that call by the rules: it asks, or is a change
--   EveryCall         .. so what is so of every change, and of memory left as it was, is so of all
--   FromEmpty         on memory that soundly says a profile each call answers what the rules answer on it
--   TwoBands          by the rules alone: two bands of one open stretch go in where there is room for two nodes and two marks, and not in less; two of
--                     one key where there is room for two marks
pub mod AsPromised
pub mod ChangesOnly
pub mod AsksOrChanges
pub mod EveryCall
pub mod FromEmpty
pub mod TwoBands
pub mod RefusedExactly
pub mod RefusedUnchanged
pub mod Lives
pub mod Found
pub mod LevelStays
pub mod Alone
pub mod Local
pub mod AnyOutcome
pub mod NotAlwaysRefused
pub mod Witnesses
pub mod MarksAlone
pub mod KeepsSound
pub mod AlwaysSound
pub mod AlwaysRuled
