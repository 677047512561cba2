-- A reader must believe: Texts (which policy a text is of, and what is told of others), Names (which names a policy declares), TextLaws; Printed (the printed
-- form), Written (what is written in it), Parentheses (one pair of them dropped), PrintLaws. Operators and Blocks serve private contracts and proofs alone.
pub mod Blocks
pub mod Names
pub mod Operators
pub mod Parentheses
pub mod PrintLaws
pub mod Printed
pub mod TextLaws
pub mod Texts
pub mod Written
