mod Entries
mod OfferMoves
mod AheadLemmas
mod AnswerMoves
mod BookMoves
mod HearingLemmas
mod RecordMoves
mod Joining
mod MachineMoves
mod ToldMoves
mod Keeping
mod AskingMoves
mod Own
mod ApartLemmas
mod FoundLemmas
mod GoodLemmas
pub mod Following
