pub mod OneAnswer
pub mod Views
pub mod RawCursors
