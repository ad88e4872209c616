pub mod Lines
pub mod Sights
pub mod Calls
pub mod Together
pub mod Rule
pub mod TicketsView
pub mod TicketSeatView
