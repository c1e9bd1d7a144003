-- What a chase script does: docs/STREAM.md, section "The chase script", stands in place of the paper. All of it is the page.
pub mod Script
pub mod Calls
pub mod Printed
pub mod Run
