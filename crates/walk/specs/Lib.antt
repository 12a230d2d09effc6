pub mod View
pub mod Made
pub mod Drawing
