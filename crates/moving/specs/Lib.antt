-- Bounds, the only thing that the contracts of this crate speak of: lengths of the lent slices and values in hand. What a read
-- gives is promised a range and nothing more, so each proof holds whatever each read gives, and so also when the bytes of an image
-- change between any two reads. Two reads of one place inside one body are taken for equal by the prover: a body reads a place
-- once, and few functions read a place of a lent slice themselves (tools/moving_reads.py lists them and checks both).
pub mod Within
pub mod Entries
pub mod Nodes
pub mod Search
pub mod Neighbours
pub mod Insert
pub mod Answers
pub mod Rows
