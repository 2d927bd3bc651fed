pub mod WorkedPlans
pub mod Settings
pub mod Cases
