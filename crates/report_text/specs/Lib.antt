-- A reader must believe Report, the spelling of each line, ScriptRefusals, the numbers of refusals, and Short, the lines for which room is kept. Sheets serves private contracts alone.
pub mod Report
pub mod ScriptRefusals
pub mod Sheets
pub mod Short
