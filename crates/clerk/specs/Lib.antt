-- What a clerk script does: docs/CATALOGUE.md, section "The clerk script", stands in place of the paper. All of it is
-- the page, but for `Says` in Printed, which is a means.
pub mod Script
pub mod Calls
pub mod Printed
pub mod Run
