-- What each call that asks comes to.
-- On any memory:
--   AskingRefused     each number of each call, in plain words
--   RefusedZeros      refused, a stab or readout answers zeros throughout, word for word
--   Alike             stab, edge and node readout are the same where header, node and mark words are
--   StabCounts        a stab's count is the number of set flags
--   Settled           no second outcome meets a call's promise, and what meets it leaves memory as it was
--   AnyAnswer         whatever answer meets a call's promise, refused or not: the laws in plain words and the likeness, said of the answer itself
-- On memory of right sizes:
--   BandExact         the band readout in plain words
-- On sound memory:
--   StabExact, EdgeExact, NodeExact, RoomExact    each call in plain words
--   MarkedByRule      edge and node readouts show exactly the marks that the rule gives, and the room readout their number
--   ByProfile         each stab and readout is a function of the profile alone
-- What these are stated and proved with:
--   Promises          the promise of each call, by name
--   CallLines         what a call answers, from plain facts on memory and arguments: a law for each place where its code returns
--   PassedOn          what a `?` passes on
--   LaneTest          the code's test of an edge's lane is the rules'
--   BandOnAny         the band readout is the rules' own on the bands that the words say
--   StabOnLaid, EdgeOnLaid, NodeOnLaid, RoomOnLaid    the calls are the rules' own where words lay a standing profile
--   OnSound           .. and so on sound memory, on the profile that the words say
pub mod Promises
pub mod CallLines
pub mod PassedOn
pub mod LaneTest
pub mod BandOnAny
pub mod Alike
pub mod Settled
pub mod StabOnLaid
pub mod NodeOnLaid
pub mod EdgeOnLaid
pub mod RoomOnLaid
pub mod OnSound
pub mod ByProfile
pub mod StabExact
pub mod StabCounts
pub mod BandExact
pub mod EdgeExact
pub mod NodeExact
pub mod RoomExact
pub mod AskingRefused
pub mod RefusedZeros
pub mod MarkedByRule
pub mod AnyAnswer
