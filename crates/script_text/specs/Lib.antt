-- A reader must believe: Grammar (which command a line says) with Spelling and PacketFields; Frames (the frame of a packet); of report_text, whose
-- definitions are passed on, Report (the spelling of a report's line) and Short. Laws says what holds of the grammar. Lines (the lines of a text), Marks (the
-- parts of a text about a line %%), Orders (what the lines of a script ask for, and which is refused) and Steps (how a caller is told of it).
-- Reading with FieldReading, Words, Verbs and Hexadecimal finds the command of a line word after word. It serves private contracts and callers that
-- compute; the law ReadsLines says that it finds what the grammar has. Behind serves private contracts alone.
pub use Rattle.report_text.specs.Report
pub use Rattle.report_text.specs.Short
pub mod Behind
pub mod FieldReading
pub mod Frames
pub mod Grammar
pub mod Hexadecimal
pub mod Laws
pub mod Lines
pub mod Marks
pub mod Orders
pub mod PacketFields
pub mod Reading
pub mod Spelling
pub mod Steps
pub mod Verbs
pub mod Words
