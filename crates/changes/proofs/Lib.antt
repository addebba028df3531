-- laws that rest on the definitions in specs/ by which a request says what was before it
-- states and scripts of which something holds throughout, and states by a condition that is not the present one
pub mod ThroughoutMoves
pub mod ThroughoutLoads
pub mod StateBy
-- P1: null as a reply
pub mod NullReply
-- P2: choosing, and what has neither of its two operators
pub mod Choosing
pub mod Without
pub mod WithoutMoves
pub mod WithoutLoads
pub mod WithoutTexts
-- P3: what has no method's name twice
pub mod NamesOnce
pub mod NamesOnceTexts
pub mod NamesOnceStates
