pub mod Giving
pub mod Clients
pub mod Hearing
pub mod Alone
