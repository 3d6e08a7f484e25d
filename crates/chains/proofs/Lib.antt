pub mod TurnLaws
pub mod BackLaws
pub mod LeastLaws
pub mod ChainLaws
pub mod CoverLaws
