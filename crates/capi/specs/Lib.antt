pub mod Plain
pub mod Memtable
pub mod EntryIter
pub mod DbIter
pub mod RowViews
