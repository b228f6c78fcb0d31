mod Adopting
pub mod Asks
pub mod Closing
mod Counting
mod Cursoring
mod Covering
pub mod Ending
mod Dropping
mod Feeding
pub mod Fed
mod Filling
mod Growing
pub mod Grown
mod Histories
mod Items
mod LastCas
mod Parts
pub mod Pending
pub mod Planning
pub mod Carrying
pub mod Promoting
pub mod Prepares
pub mod Backing
pub mod Storing
pub mod Settling
pub mod Preparing
pub mod Committing
mod DurableNumbers
mod Dues
mod Durables
mod GivingUp
pub mod Resting
mod Telling
mod ReadBack
mod ReadingKeys
mod Receiving
mod Reasons
mod Refusing
pub mod RowIs
pub mod RowsAt
mod Sending
mod Slots
pub mod Soundness
pub mod Taking
mod Tidying
pub mod Trimmed
mod Trimming
mod GivenUp
mod Takeovers
mod Turns
mod Writing
mod Batching
mod Highs
mod Counted
mod Rolling
mod Steadying
mod Stepping
mod Lives
mod Queued
mod Sent
mod Spanned
mod Promoted
mod Standing
mod Keeping
pub mod Wholes
