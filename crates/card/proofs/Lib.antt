-- What the scan of the card comes to:
--   KeptRecords    the records that a slice has, whatever they are kept as
--   PassIsScan     what is told after a pass over records is what the rules say of them
--   PassSoFar      going on from here comes to the same: the invariant of the loop over records
--   Records        the records kept as words, also taken six by six; how many of them tell what all tell
--   RecordStored   what laying a record stores among the words
--   RecordsLaid    a record that was laid is read back, and the others stand; a card kept in the first words has it at its end
--   CardExact      what an answer that meets the promise means
--   Settled        no second outcome meets a promise
pub mod KeptRecords
pub mod PassIsScan
pub mod PassSoFar
pub mod Records
pub mod RecordStored
pub mod RecordsLaid
pub mod CardExact
pub mod Settled
