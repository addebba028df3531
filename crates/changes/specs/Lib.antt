-- a move by a rule that is not the present one, and a state by a condition that is not
pub mod MoveBy
-- terms, states and scripts of which something holds throughout
pub mod Throughout
pub mod ThroughoutMoves
pub mod ThroughoutLoads
pub mod StateBy
-- P1: null as a reply
pub mod NullReply
-- P2: choosing, and what has neither of its two operators
pub mod Choosing
pub mod Without
pub mod WithoutMoves
pub mod WithoutLoads
pub mod WithoutTexts
-- P3: one name with several counts, and what has no method's name twice
pub mod LookUp
pub mod NamesOnce
pub mod NamesOnceTexts
pub mod NamesOnceStates
-- inputs with what they give
pub mod Examples
