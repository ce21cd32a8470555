pub mod Truths
pub mod Cuts
pub mod Grid
pub mod Boxes
pub mod Points
pub mod Examples
pub mod Laws
pub mod inner
