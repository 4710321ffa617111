pub mod HandLaws
pub mod PoolLaws
pub mod CircleLaws
