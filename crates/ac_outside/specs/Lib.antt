pub mod Causes
pub mod Disks
pub mod Files
pub mod Told
pub mod Texts
pub mod Views
