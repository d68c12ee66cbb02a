pub mod Before
pub mod Cuts
pub mod Laws
pub mod Run
pub mod States
pub mod inner
