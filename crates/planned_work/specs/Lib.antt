-- What the contracts of planned work say.
pub mod Deciding
pub mod Done
pub mod Fitting
pub mod Graphs
pub mod InPlace
pub mod Next
pub mod Numbers
pub mod Opened
pub mod Outcomes
pub mod Places
pub mod PlanRun
pub mod Plans
pub mod Ranks
pub mod Rings
pub mod Sections
pub mod Trying
