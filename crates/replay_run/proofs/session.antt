pub mod FusedFolder
-- The code makes a run.
pub mod BroughtBack
pub mod ClientTurns
pub mod NamesTold
pub mod OpeningLemmas
pub mod ScriptGhosts
pub mod SessionAsked
pub mod SessionLines
pub mod SessionRun
pub mod SessionTurns
pub mod ShelfOpening
pub mod ToldLines
pub mod TrueCacheLemmas
