-- A reader must believe: Grammar (how each command is written), with the name, the range and the default of each option and what digits spell, of Options; and
-- IsCommand of Words. The rest of Options and Words says how words are read; by `grammar_law` they are read just as they are written. WordViews serves private
-- contracts alone.
pub mod Grammar
pub mod Options
pub mod WordViews
pub mod Words
