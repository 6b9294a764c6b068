-- what public contracts rest on
pub mod Gets
pub mod Files
-- where the bytes of a `get -o` are written
pub mod Target
-- how the spans of a range are got
pub mod Spans
