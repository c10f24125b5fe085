pub mod Codes
pub mod Taking
pub mod RoundPlaces
pub mod FairRound
pub mod Ranks
pub mod Waiters
pub mod Fills
pub mod LookedAfter
pub mod NoPriority
pub mod Waits
pub mod EnvyRows
pub mod EnvyDraws
pub mod Envy
pub mod Begun
pub mod Ends
pub mod Plans
pub mod CutoffLemmas
mod ExplainedLists
mod ExplainedRound
mod ExplainedCutoffs
mod ExplainedRefusals
pub mod Explaining
pub mod Beside
pub mod Improved
pub mod Amended
pub mod Honest
pub mod Leaving
pub mod Group
pub mod Declining
pub mod Fairer
pub mod Better
pub mod MoreQuotas
pub mod MorePlaces
pub mod ShorterList
pub mod AppliedLists
pub mod Zipped
pub mod Settled
pub mod Resumed
pub mod Front
pub mod Again
pub mod Reordered
pub mod SameOrder
pub mod SameLots
pub mod HeldAgain
mod Built
pub mod Carried
pub mod Alike
mod Going
mod NextRound
pub mod LaterRounds
pub mod RoundAnew
pub mod Joins
pub mod Meets
