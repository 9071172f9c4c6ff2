-- What an answer in ticks says, the first statement of a block, what is answered for a statement and for a sequence of them, and the reply of the call.
pub mod Given
pub mod Firsts
pub mod Statements
pub mod Sums
pub mod Replies
