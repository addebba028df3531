-- the table of kinds
pub mod KindRows
-- states: there and back
pub mod Results
pub mod PackLaws
pub mod ReadLaws
pub mod TermLaws
pub mod TermReads
pub mod Values
pub mod Fitting
pub mod Signatures
pub mod LastThree
pub mod Slots
pub mod Parts
pub mod StateReads
pub mod StateFits
pub mod StateLaws
pub mod Bits
-- tables: there and back
pub mod TableReads
pub mod TableFitting
pub mod TableLaws
pub mod TableBits
-- the calls
pub mod Outcomes
pub mod MeaningLaws
-- which words a change touches
pub mod Writes
pub mod Places
-- terms read forward from a position
pub mod Parse
pub mod ParseWords
pub mod ParseHeads
pub mod Spans
pub mod ParseComplete
pub mod ParseSound
pub mod ParseLaws
pub mod ParseMessages
pub mod Arity
pub mod KindLaws
