pub mod ByteLaws
pub mod UnitLaws
pub mod PoolLaws
pub mod HouseholdLaws
pub mod LaidLaws
pub mod ByUnits
pub mod LinePlaces
pub mod UnitOrder
